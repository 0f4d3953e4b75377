-- What a message does to the quotes and to the book.
use Rattle.std.specs.Prelude.{◌≡◌, ℕ, ◌⊎◌, List, length, drop, Ok, Err, OnErr, Result}
use Rattle.std.specs.Borrow.{Bor}
use Rattle.base.specs.Questions.{first_no}
use Rattle.book.specs.declared.open.OpenBook.{OpenBook}
use Rattle.book.specs.Called.{Called, FillsAtFront, fills_outcome}
use Rattle.book.specs.Holding.{GoesOn, Holds, event}
use Rattle.book.specs.View.{SameTable}
use Rattle.orders.specs.declared.trade.Fill.{Fill}
use Rattle.orders.specs.Kind.{Kind}
use Rattle.orders.specs.Ranking.{Ranking}
use Rattle.quotes.specs.declared.board.QuoteBoard.{QuoteBoard}
use Rattle.quotes.specs.declared.fault.MessageFault.{MessageFault}
use Rattle.quotes.specs.Board.{Lays, Rows, midpoint}
use Rattle.quotes.specs.Faults.{refusal}
use Rattle.quotes.specs.Message.{message_questions}
use Rattle.rules.specs.declared.call.Call.TheVariants.{Price}
use Rattle.rules.specs.declared.fault.BookFault.{BookFault}
use Rattle.rules.specs.Day.{Day}
use Rattle.feed.specs.declared.fault.QuoteFault.{QuoteFault}
use Rattle.feed.specs.declared.fault.QuoteFault.TheVariants.{Message, Book}

-- the answer: what the price call answers, and the bytes behind the message; a fault of the book is passed on whole
abbrev pub PassedOn : List ℕ → Result ℕ BookFault → Result (ℕ × Bor (List ℕ)) QuoteFault → Type 0
PassedOn bytes (Ok n) (Ok a) = (a.0 ≡ n) × (a.1.now ≡ drop 24 bytes)
PassedOn bytes (Ok n) (Err f) = ⊥
PassedOn bytes (Err fault) (Ok a) = ⊥
PassedOn bytes (Err fault) (Err f) = f ≡ Book fault

-- the copy replaces the quotes where the book has accepted; else the board is as it was
abbrev pub Replaced : Result ℕ BookFault → Rows → QuoteBoard → QuoteBoard → Type 0
Replaced (Ok n) copy before after =
    (after.instrument ≡ before.instrument) × (after.quotes.security ≡ before.quotes.security) × (after.quotes.rows ≡ copy)
Replaced (Err fault) copy before after = after ≡ before

-- the message is refused: it is told by its fault, and nothing is altered
pub record TurnedAway {O P : Type 0} (bytes : List ℕ) (board board_after : QuoteBoard) (book book_after : OpenBook O P) (tape tape_after : List Fill) (r : Result (ℕ × Bor (List ℕ)) QuoteFault) : Type 0 where
  pub fault : MessageFault
  pub answered : r ≡ Err (Message fault)
  pub numbered : (refusal fault).number ≡ first_no (message_questions board.instrument board.quotes.security bytes)
  pub board_same : board_after ≡ board
  pub book_same : book_after ≡ book
  pub tape_same : tape_after ≡ tape

-- the message is laid on a copy of the quotes, whose midpoint goes to the book by one price call: one more event of every
-- lawful day that the book holds. The copy replaces the quotes only where the book accepts it; a book that refuses is as it
-- was
pub record HandedOn {O P : Type 0} (kind : Kind O) (rank : Ranking) (bytes : List ℕ) (board board_after : QuoteBoard) (book book_after : OpenBook O P) (tape tape_after : List Fill) (r : Result (ℕ × Bor (List ℕ)) QuoteFault) : Type 0 where
  pub copy : Rows
  pub laid : Lays board.instrument board.quotes.security board.quotes.rows bytes copy
  pub reply : Result ℕ BookFault
  pub called : Called kind rank book (Price (midpoint copy)) (length tape) (fills_outcome reply tape_after) book_after
  pub taped : FillsAtFront reply tape tape_after
  pub table : SameTable book book_after
  pub refused : OnErr reply (book_after ≡ book)
  pub carried : (day : Day O) → Holds kind book day → GoesOn kind book_after (event rank (Price (midpoint copy)) (length tape) (fills_outcome reply tape_after)) day
  pub answered : PassedOn bytes reply r
  pub replaced : Replaced reply copy board board_after

abbrev pub Feeds : {O P : Type 0} → Kind O → Ranking → List ℕ → QuoteBoard → QuoteBoard → OpenBook O P → OpenBook O P → List Fill → List Fill → Result (ℕ × Bor (List ℕ)) QuoteFault → Type 0
Feeds kind rank bytes board board_after book book_after tape tape_after r =
    TurnedAway bytes board board_after book book_after tape tape_after r
    ⊎ HandedOn kind rank bytes board board_after book book_after tape tape_after r
