-- A message that is accepted, handed on to the book.
use Rattle.std.proofs.Common.{◌≡◌, ℕ, List, length, Option, Result, subst, Bor}
use Rattle.std.specs.Prelude.{OnErr}
use Rattle.book.specs.declared.open.OpenBook.{OpenBook}
use Rattle.book.specs.Called.{Called, FillsAtFront, fills_outcome}
use Rattle.book.specs.View.{SameTable}
use Rattle.book.proofs.Days.{goes_on}
use Rattle.orders.specs.declared.trade.Fill.{Fill}
use Rattle.orders.specs.Kind.{Kind}
use Rattle.orders.specs.Ranking.{Ranking}
use Rattle.quotes.specs.declared.board.QuoteBoard.{QuoteBoard}
use Rattle.quotes.specs.Board.{Lays, Rows, midpoint}
use Rattle.rules.specs.declared.call.Call.TheVariants.{Price}
use Rattle.rules.specs.declared.fault.BookFault.{BookFault}
use Rattle.feed.specs.declared.fault.QuoteFault.{QuoteFault}
use Rattle.feed.specs.Feeding.{HandedOn, PassedOn, Replaced}

-- what the price call ensures is what the feed call ensures of the book and the tape
pub handed_on : {O P : Type 0} {kind : Kind O} {rank : Ranking} {bytes : List ℕ} {board board_after : QuoteBoard} {book book_after : OpenBook O P} {tape tape_after : List Fill} {r : Result (ℕ × Bor (List ℕ)) QuoteFault} (copy : Rows) (price : Option ℕ) (reply : Result ℕ BookFault) → Lays board.instrument board.quotes.security board.quotes.rows bytes copy → price ≡ midpoint copy → Called kind rank book (Price price) (length tape) (fills_outcome reply tape_after) book_after → FillsAtFront reply tape tape_after → SameTable book book_after → OnErr reply (book_after ≡ book) → PassedOn bytes reply r → Replaced reply copy board board_after → HandedOn kind rank bytes board board_after book book_after tape tape_after r
handed_on {kind} {rank} {book} {book_after} {tape} {tape_after} copy price reply laid is called taped same refused answered replaced =
    let made = subst (λ (q : Option ℕ). Called kind rank book (Price q) (length tape) (fills_outcome reply tape_after) book_after) is called in
    record {
      copy = copy;
      laid = laid;
      reply = reply;
      called = made;
      taped = taped;
      table = same;
      refused = refused;
      carried = goes_on kind rank book book_after (Price (midpoint copy)) (length tape) (fills_outcome reply tape_after) made same;
      answered = answered;
      replaced = replaced;
    }
