-- The answer to a call's questions.
use Rattle.std.specs.Prelude.{◌≡◌, List, Ok, Err, Result, ◌≢◌}
use Rattle.base.specs.Questions.{Question, first_no}
use Rattle.rules.specs.declared.fault.BookFault.{BookFault}
use Rattle.rules.specs.Faults.{refusal}

-- none is answered no, or the fault has the number of the first that is
abbrev pub Asked : {T : Type 0} → List Question → Result T BookFault → Type 0
Asked qs (Ok x) = first_no qs ≡ 0
Asked qs (Err fault) = ((refusal fault).number ≡ first_no qs) × ((refusal fault).number ≢ 0)
