-- What a line does to the book.
use Rattle.std.specs.Prelude.{◌≡◌, ℕ, ◌⊎◌, List, length, Ok, Err, OnErr, Result, ◌≢◌}
use Rattle.book.specs.declared.open.OpenBook.{OpenBook}
use Rattle.book.specs.Called.{Called, TapeAfter, outcome}
use Rattle.book.specs.Holding.{GoesOn, Holds, event}
use Rattle.book.specs.View.{SameTable}
use Rattle.kinds.specs.declared.midpoint.MidpointOrder.{MidpointOrder}
use Rattle.kinds.specs.declared.priorities.VolumePriority.{VolumePriority}
use Rattle.kinds.specs.Midpoint.{midpoint_kind}
use Rattle.kinds.specs.Priorities.{volume_ranking}
use Rattle.lines.specs.declared.fault.LineFault.{LineFault}
use Rattle.lines.specs.declared.fault.LineReason.TheVariants.{NoForm, Book}
use Rattle.lines.specs.Faults.{fault_at}
use Rattle.lines.specs.Lines.{Readable, line_of}
use Rattle.orders.specs.declared.trade.Fill.{Fill}
use Rattle.rules.specs.declared.call.Answer.{Answer}
use Rattle.rules.specs.declared.call.Answer.TheVariants as answer
use Rattle.rules.specs.declared.call.Call.{Call}
use Rattle.rules.specs.declared.call.Call.TheVariants.{Enter, Cancel, Price, Cross}
use Rattle.rules.specs.declared.fault.BookFault.{BookFault}
use Rattle.rules.specs.Day.{Day}
use Rattle.session.specs.declared.apply.LineAnswer.{LineAnswer}
use Rattle.session.specs.declared.apply.LineAnswer.TheVariants.{Filled, Cancelled}

-- the folio that a call names, if it names one
abbrev pub folio_of : Call MidpointOrder → ℕ
folio_of (Enter o) = o.header.party.folio
folio_of (Cancel p) = p.folio
folio_of (Price q) = 0
folio_of (Cross p volume) = p.folio

-- the answer of a line, from that of the book
abbrev pub line_answer : Call MidpointOrder → Answer → LineAnswer
line_answer call (answer.Filled n) = Filled n
line_answer call (answer.Cancelled volume) = Cancelled (folio_of call) volume

-- a fault of the book is passed on whole, at the line's number
abbrev pub line_reply : ℕ → Call MidpointOrder → Result Answer BookFault → Result LineAnswer LineFault
line_reply number call (Ok a) = Ok (line_answer call a)
line_reply number call (Err fault) = Err (fault_at number (Book fault))

abbrev pub no_form : ℕ → Result LineAnswer LineFault
no_form number = Err (fault_at number NoForm)

abbrev pub MidpointBook : Type 0
MidpointBook = OpenBook MidpointOrder VolumePriority

-- the line is none of the forms: it is refused at its number, and nothing is altered
pub record PassedOver (line : List ℕ) (number : ℕ) (before : MidpointBook) (tape : List Fill) (after : MidpointBook) (tape_after : List Fill) (r : Result LineAnswer LineFault) : Type 0 where
  pub none : (c : Call MidpointOrder) → Readable c → line ≢ line_of c
  pub answered : r ≡ no_form number
  pub book : after ≡ before
  pub tape_same : tape_after ≡ tape

-- a call was made for a line: the line's answer is the book's, a book that refused it is as it was, and every lawful day that
-- the book held goes on by this call
pub record Makes (call : Call MidpointOrder) (number : ℕ) (before : MidpointBook) (tape : List Fill) (after : MidpointBook) (tape_after : List Fill) (r : Result LineAnswer LineFault) : Type 0 where
  pub reply : Result Answer BookFault
  pub answered : r ≡ line_reply number call reply
  pub called : Called midpoint_kind volume_ranking before call (length tape) (outcome reply tape_after) after
  pub taped : TapeAfter reply tape tape_after
  pub table : SameTable before after
  pub refused : OnErr reply (after ≡ before)
  pub carried : (day : Day MidpointOrder) → Holds midpoint_kind before day → GoesOn midpoint_kind after (event volume_ranking call (length tape) (outcome reply tape_after)) day

-- the line writes a call, which was made: the line's answer is the book's, and every lawful day that the book held goes
-- on by this call
pub record MadeCall (line : List ℕ) (number : ℕ) (before : MidpointBook) (tape : List Fill) (after : MidpointBook) (tape_after : List Fill) (r : Result LineAnswer LineFault) : Type 0 where
  pub call : Call MidpointOrder
  pub readable : Readable call
  pub written : line ≡ line_of call
  pub made : Makes call number before tape after tape_after r

abbrev pub Applies : List ℕ → ℕ → MidpointBook → List Fill → MidpointBook → List Fill → Result LineAnswer LineFault → Type 0
Applies line number before tape after tape_after r =
    PassedOver line number before tape after tape_after r ⊎ MadeCall line number before tape after tape_after r
