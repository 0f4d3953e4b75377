-- What each refusal of a line tells.
use Rattle.std.specs.Prelude.{ℕ}
use Rattle.base.specs.declared.Layer.TheVariants.{Line}
use Rattle.base.specs.declared.Refusal.{Refusal}
use Rattle.feed.specs.Faults.{refusal as quote_refusal}
use Rattle.rules.specs.Faults.{refusal as book_refusal}
use Rattle.lines.specs.declared.fault.LineFault.{LineFault}
use Rattle.lines.specs.declared.fault.LineReason.{LineReason}
use Rattle.lines.specs.declared.fault.LineReason.TheVariants.{NoForm, Book, Quotes}

-- a line of no form has a number of its own; a fault of the book or of the quotes keeps its number
abbrev pub reason_number : LineReason → ℕ
reason_number NoForm = 27
reason_number (Book fault) = (book_refusal fault).number
reason_number (Quotes fault) = (quote_refusal fault).number

-- the layer is the line's, and the place is the line's number
abbrev pub refusal : LineFault → Refusal
refusal f = record { number = reason_number f.reason; layer = Line; place = f.line }

-- the fault of the line with this number
abbrev pub fault_at : ℕ → LineReason → LineFault
fault_at number reason = record { line = number; reason = reason }
