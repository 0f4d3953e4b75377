-- The questions before a call, and the number of the first that is answered no.
use Rattle.std.specs.Prelude.{ℕ, Bool, cond, List, [], ◌∷◌}

-- a question: its answer, and the number that is given at a no
pub record Question : Type 0 where
  pub answer : Bool
  pub number : ℕ

abbrev pub ask : Bool → ℕ → Question
ask answer number = record { answer = answer; number = number }

-- the number of the first question that is answered no; 0 where none is
abbrev pub first_no : List Question → ℕ
first_no [] = 0
first_no (q ∷ qs) = cond q.answer (first_no qs) q.number
