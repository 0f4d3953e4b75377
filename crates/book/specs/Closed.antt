-- What a closed book tells.
use Rattle.std.specs.Prelude.{◌≡◌, ℕ, List, [], ◌∷◌, map, length, take, drop, Ok, Err, Result, ◌≢◌, nat_le}
use Rattle.base.specs.Questions.{Question, ask, first_no}
use Rattle.orders.specs.Kind.{Kind}
use Rattle.rules.specs.declared.fault.BookFault.{BookFault}
use Rattle.rules.specs.Faults.{refusal}
use Rattle.book.specs.declared.closed.ClosedBook.{ClosedBook}
use Rattle.book.specs.declared.closed.Unfilled.{Unfilled}

-- the first orders of the table rest
abbrev pub resting_orders : {O : Type 0} → ClosedBook O → List O
resting_orders book = take book.resting book.table.now

abbrev pub list_questions : ℕ → ℕ → List Question
list_questions resting places = ask (nat_le resting places) 12 ∷ []

module _ {O : Type 0} (kind : Kind O) where
  abbrev pub unfilled_of : O → Unfilled
  unfilled_of o = record { folio = (kind.header o).party.folio; left = (kind.header o).left }

  -- the orders xs stand at the list's front and the rest of it is unchanged; a refusal leaves it whole
  abbrev pub Listed : List O → List Unfilled → List Unfilled → Result ℕ BookFault → Type 0
  Listed xs before after (Ok n) =
      (first_no (list_questions (length xs) (length before)) ≡ 0)
      × (n ≡ length xs)
      × (take n after ≡ map unfilled_of xs)
      × (drop n after ≡ drop n before)
  Listed xs before after (Err fault) =
      ((refusal fault).number ≡ first_no (list_questions (length xs) (length before)))
      × ((refusal fault).number ≢ 0)
      × (after ≡ before)
