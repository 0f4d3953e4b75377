-- What a call on a book comes to: its answer, the book and the tape after it.
use Rattle.std.specs.Prelude.{◌≡◌, ℕ, ◌≤◌, List, length, take, drop, Ok, Err, Result}
use Rattle.orders.specs.declared.trade.Fill.{Fill}
use Rattle.orders.specs.Kind.{Kind}
use Rattle.orders.specs.Ranking.{Ranking}
use Rattle.rules.specs.declared.call.Answer.{Answer}
use Rattle.rules.specs.declared.call.Answer.TheVariants.{Filled, Cancelled}
use Rattle.rules.specs.declared.call.Call.{Call}
use Rattle.rules.specs.declared.fault.BookFault.{BookFault}
use Rattle.rules.specs.Calls.{Outcome, refused, filled, cancelled, Right, state_after}
use Rattle.rules.specs.Faults.{refusal}
use Rattle.rules.specs.Questions.{capacity_of}
use Rattle.book.specs.declared.open.OpenBook.{OpenBook}
use Rattle.book.specs.View.{view, places}

-- the outcome that an answer tells, with the fills read off the tape's front
abbrev pub fills_outcome : Result ℕ BookFault → List Fill → Outcome
fills_outcome (Ok n) tape = filled (take n tape)
fills_outcome (Err fault) tape = refused (refusal fault).number

abbrev pub cancel_outcome : Result ℕ BookFault → Outcome
cancel_outcome (Ok volume) = cancelled volume
cancel_outcome (Err fault) = refused (refusal fault).number

abbrev pub outcome : Result Answer BookFault → List Fill → Outcome
outcome (Ok (Filled n)) tape = fills_outcome (Ok n) tape
outcome (Ok (Cancelled volume)) tape = cancel_outcome (Ok volume)
outcome (Err fault) tape = refused (refusal fault).number

-- the fills stand at the tape's front, and the rest of the tape is unchanged; a refusal leaves it whole
abbrev pub FillsAtFront : Result ℕ BookFault → List Fill → List Fill → Type 0
FillsAtFront (Ok n) before after = (n ≤ length after) × (drop n after ≡ drop n before)
FillsAtFront (Err fault) before after = after ≡ before

abbrev pub TapeAfter : Result Answer BookFault → List Fill → List Fill → Type 0
TapeAfter (Ok (Filled n)) before after = FillsAtFront (Ok n) before after
TapeAfter (Ok (Cancelled volume)) before after = after ≡ before
TapeAfter (Err fault) before after = FillsAtFront (Err fault) before after

-- the outcome is right over what the book held, and the book then holds what such a call leaves
pub record Called {O P : Type 0} (kind : Kind O) (rank : Ranking) (before : OpenBook O P) (call : Call O) (tape : ℕ) (out : Outcome) (after : OpenBook O P) : Type 0 where
  pub right : Right kind rank (capacity_of (places before)) (view before) tape call out
  pub state : view after ≡ state_after kind (view before) call out
