-- The line that answers a message.
use Rattle.std.specs.Prelude.{ℕ, List, ◌++◌, Some, None, codes, decimal, Option, Ok, Err, Result}
use Rattle.quotes.specs.declared.answer.Answer.{Answer}
use Rattle.quotes.specs.declared.fault.MessageFault.{MessageFault}
use Rattle.quotes.specs.Faults.{refusal}

abbrev pub price_text : Option ℕ → List ℕ
price_text None = codes "-"
price_text (Some price) = decimal price

-- the midpoint after the message, or the number of its refusal
abbrev pub result_text : Result (Option ℕ) MessageFault → List ℕ
result_text (Ok price) = codes "M " ++ price_text price
result_text (Err fault) = codes "R " ++ decimal (refusal fault).number

abbrev pub answer_text : Answer → List ℕ
answer_text a = result_text a.0
