-- What each refusal of a message tells.
use Rattle.std.specs.Prelude.{◌≡◌, ℕ, List}
use Rattle.base.specs.declared.Layer.TheVariants.{Message}
use Rattle.base.specs.declared.Refusal.{Refusal}
use Rattle.base.specs.Questions.{Question, first_no}
use Rattle.quotes.specs.declared.fault.MessageFault.{MessageFault}
use Rattle.quotes.specs.declared.fault.MessageFault.TheVariants.{TooShort, NotLastQuote, OtherInstrument, UnknownOrigin, UnknownSide, NegativeVolume, OffTick}

abbrev message_refusal : ℕ → ℕ → Refusal
message_refusal number offset = record { number = number; layer = Message; place = offset }

-- the number of the question that was answered no, and the offset of the field that it is about
abbrev pub refusal : MessageFault → Refusal
refusal TooShort = message_refusal 13 0
refusal NotLastQuote = message_refusal 14 0
refusal OtherInstrument = message_refusal 15 1
refusal UnknownOrigin = message_refusal 16 5
refusal UnknownSide = message_refusal 17 22
refusal NegativeVolume = message_refusal 18 6
refusal OffTick = message_refusal 19 14

-- the fault has the number of the first question that is answered no
abbrev pub NamesFirstNo : List Question → MessageFault → Type 0
NamesFirstNo questions fault = (refusal fault).number ≡ first_no questions
