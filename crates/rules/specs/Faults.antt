-- What each refusal of the book tells.
use Rattle.std.specs.Prelude.{ℕ}
use Rattle.base.specs.declared.Layer.TheVariants.{Book}
use Rattle.base.specs.declared.Refusal.{Refusal}
use Rattle.orders.specs.Own.{own_number}
use Rattle.rules.specs.declared.fault.BookFault.{BookFault}
use Rattle.rules.specs.declared.fault.BookFault.TheVariants.{HouseOutOfRange, FolioNotNext, VolumeOutOfRange, Own, BookFull, TapeTooShort, UnknownFolio, OtherHouse, PriceOutOfRange, NoPriceInForce, ListTooShort}

abbrev book_refusal : ℕ → Refusal
book_refusal number = record { number = number; layer = Book; place = 0 }

-- the number of the question that was answered no; a refusal of the book has no place of its own
abbrev pub refusal : BookFault → Refusal
refusal HouseOutOfRange = book_refusal 1
refusal FolioNotNext = book_refusal 2
refusal VolumeOutOfRange = book_refusal 3
refusal (Own own) = book_refusal (own_number own)
refusal BookFull = book_refusal 6
refusal TapeTooShort = book_refusal 7
refusal UnknownFolio = book_refusal 8
refusal OtherHouse = book_refusal 9
refusal PriceOutOfRange = book_refusal 10
refusal NoPriceInForce = book_refusal 11
refusal ListTooShort = book_refusal 12
