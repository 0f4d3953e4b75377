-- What a line does to the quotes and to the book.
use Rattle.std.specs.Prelude.{◌≡◌, ℕ, Bool, true, false, not, ◌⊎◌, List, Some, None, Ok, Err, Option, Result, ◌==◌}
use Rattle.std.specs.Borrow.{Bor}
use Rattle.feed.specs.declared.fault.QuoteFault.{QuoteFault}
use Rattle.feed.specs.Feeding.{Feeds}
use Rattle.kinds.specs.declared.midpoint.MidpointOrder.{MidpointOrder}
use Rattle.kinds.specs.Midpoint.{midpoint_kind}
use Rattle.kinds.specs.Priorities.{volume_ranking}
use Rattle.lines.specs.declared.fault.LineFault.{LineFault}
use Rattle.lines.specs.declared.fault.LineReason.TheVariants.{Quotes}
use Rattle.lines.specs.Faults.{fault_at}
use Rattle.orders.specs.declared.trade.Fill.{Fill}
use Rattle.quotes.specs.declared.board.QuoteBoard.{QuoteBoard}
use Rattle.quotes.specs.Board.{midpoint}
use Rattle.rules.specs.declared.call.Call.{Call}
use Rattle.session.specs.declared.apply.LineAnswer.{LineAnswer}
use Rattle.session.specs.declared.apply.LineAnswer.TheVariants.{Quoted}
use Rattle.session.specs.Applied.{Makes, MidpointBook, no_form}
use Rattle.feedlines.specs.Lines.{WritesCall, WritesMessage}

-- another price, or none where there was one, or one where there was none
abbrev pub differs : Option ℕ → Option ℕ → Bool
differs None None = false
differs None (Some b) = true
differs (Some a) None = true
differs (Some a) (Some b) = not (a == b)

-- the answer of a message's line tells the midpoints before and after it, and whether they differ; a fault of the quotes is
-- passed on whole, at the line's number
abbrev pub quote_reply : ℕ → Option ℕ → Option ℕ → Result (ℕ × Bor (List ℕ)) QuoteFault → Result LineAnswer LineFault
quote_reply number before after (Ok a) = Ok (Quoted before after (differs before after) a.0)
quote_reply number before after (Err fault) = Err (fault_at number (Quotes fault))

-- the message was fed, and the line's answer is that of the feed call
pub record FedLine (bytes : List ℕ) (number : ℕ) (board board_after : QuoteBoard) (book book_after : MidpointBook) (tape tape_after : List Fill) (r : Result LineAnswer LineFault) : Type 0 where
  pub reply : Result (ℕ × Bor (List ℕ)) QuoteFault
  pub fed : Feeds midpoint_kind volume_ranking bytes board board_after book book_after tape tape_after reply
  pub answered : r ≡ quote_reply number (midpoint board.quotes.rows) (midpoint board_after.quotes.rows) reply

-- the line is none of the forms: it is refused at its number, and nothing is altered
pub record PassedOver (line : List ℕ) (number : ℕ) (board board_after : QuoteBoard) (book book_after : MidpointBook) (tape tape_after : List Fill) (r : Result LineAnswer LineFault) : Type 0 where
  pub no_call : (c : Call MidpointOrder) → WritesCall line c → ⊥
  pub no_message : (bytes : List ℕ) → WritesMessage line bytes → ⊥
  pub answered : r ≡ no_form number
  pub board_same : board_after ≡ board
  pub book_same : book_after ≡ book
  pub tape_same : tape_after ≡ tape

-- the line writes a call, which was made; the quotes are as they were
pub record Ordered (line : List ℕ) (number : ℕ) (board board_after : QuoteBoard) (book book_after : MidpointBook) (tape tape_after : List Fill) (r : Result LineAnswer LineFault) : Type 0 where
  pub call : Call MidpointOrder
  pub written : WritesCall line call
  pub made : Makes call number book tape book_after tape_after r
  pub board_same : board_after ≡ board

-- the line writes a message, which was fed
pub record QuotedLine (line : List ℕ) (number : ℕ) (board board_after : QuoteBoard) (book book_after : MidpointBook) (tape tape_after : List Fill) (r : Result LineAnswer LineFault) : Type 0 where
  pub message : List ℕ
  pub written : WritesMessage line message
  pub fed : FedLine message number board board_after book book_after tape tape_after r

abbrev pub FeedApplies : List ℕ → ℕ → QuoteBoard → QuoteBoard → MidpointBook → MidpointBook → List Fill → List Fill → Result LineAnswer LineFault → Type 0
FeedApplies line number board board_after book book_after tape tape_after r =
    PassedOver line number board board_after book book_after tape tape_after r
    ⊎ (Ordered line number board board_after book book_after tape tape_after r
    ⊎ QuotedLine line number board board_after book book_after tape tape_after r)
