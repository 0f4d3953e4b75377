-- What each refusal of the quotes tells.
use Rattle.std.specs.Prelude.{ℕ}
use Rattle.base.specs.declared.Layer.TheVariants.{Quotes}
use Rattle.base.specs.declared.Refusal.{Refusal}
use Rattle.quotes.specs.Faults.{refusal as message_refusal}
use Rattle.rules.specs.Faults.{refusal as book_refusal}
use Rattle.feed.specs.declared.fault.QuoteFault.{QuoteFault}
use Rattle.feed.specs.declared.fault.QuoteFault.TheVariants.{Message, Book}

-- the number of the fault inside
abbrev pub number_inside : QuoteFault → ℕ
number_inside (Message fault) = (message_refusal fault).number
number_inside (Book fault) = (book_refusal fault).number

-- the layer is the quotes', at place 0
abbrev pub refusal : QuoteFault → Refusal
refusal f = record { number = number_inside f; layer = Quotes; place = 0 }
