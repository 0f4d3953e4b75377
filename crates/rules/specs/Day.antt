-- A day: the calls on one book with what each came to, the newest first.
use Rattle.std.specs.Prelude.{ℕ, List, [], ◌∷◌, None}
use Rattle.orders.specs.Kind.{Kind}
use Rattle.orders.specs.Ranking.{Ranking}
use Rattle.rules.specs.declared.call.Call.{Call}
use Rattle.rules.specs.Calls.{Outcome, Right, state_after}
use Rattle.rules.specs.Questions.{State}

-- one call: the ranking in force at it, the call, the tape's places, and what it came to, its fills read off the tape
pub record Event (O : Type 0) : Type 0 where
  pub rank : Ranking
  pub call : Call O
  pub tape : ℕ
  pub outcome : Outcome

abbrev pub Day : Type 0 → Type 0
Day O = List (Event O)

-- a new book: nothing rests, no price, highest folio 0
abbrev pub new_state : {O : Type 0} → State O
new_state = record { resting = []; price = None; highest = 0 }

module _ {O : Type 0} (kind : Kind O) where
  -- what rests, the price in force and the highest folio, from the day's calls and outcomes alone
  abbrev pub state_of : Day O → State O
  state_of [] = new_state
  state_of (e ∷ day) = state_after kind (state_of day) e.call e.outcome

  -- every call of the day came to what is right
  abbrev pub Lawful : ℕ → Day O → Type 0
  Lawful capacity [] = Unit {0}
  Lawful capacity (e ∷ day) =
      Right kind e.rank capacity (state_of day) e.tape e.call e.outcome × Lawful capacity day
