-- The lines of a day with quotes.
use Rattle.std.specs.Prelude.{◌≡◌, ℕ, List, ◌++◌, Some, None, codes, Option}
use Rattle.kinds.specs.declared.midpoint.MidpointOrder.{MidpointOrder}
use Rattle.lines.specs.Lines.{Readable, line_of}
use Rattle.rules.specs.declared.call.Call.{Call}
use Rattle.rules.specs.declared.call.Call.TheVariants.{Enter, Cancel, Price, Cross}
use Rattle.feedlines.specs.declared.reading.FeedLine.{FeedLine}
use Rattle.feedlines.specs.declared.reading.FeedLine.TheVariants.{Order, Quote}
use Rattle.feedlines.specs.Digits.{Spells}

-- the price comes from quotes alone
abbrev pub NoPrice : Call MidpointOrder → Type 0
NoPrice (Enter o) = Unit {0}
NoPrice (Cancel p) = Unit {0}
NoPrice (Price price) = ⊥
NoPrice (Cross p volume) = Unit {0}

-- the line is that of the call, as in a day of orders
abbrev pub WritesCall : List ℕ → Call MidpointOrder → Type 0
WritesCall line c = Readable c × NoPrice c × (line ≡ line_of c)

-- the line is Q and the digits of the message
abbrev pub WritesMessage : List ℕ → List ℕ → Type 0
WritesMessage line bytes = (digits : List ℕ) × Spells digits bytes × (line ≡ codes "Q " ++ digits)

-- the line is read as what it writes, or as none where it writes nothing
abbrev pub ReadsAs : List ℕ → Option FeedLine → Type 0
ReadsAs line None =
    ((c : Call MidpointOrder) → WritesCall line c → ⊥) × ((bytes : List ℕ) → WritesMessage line bytes → ⊥)
ReadsAs line (Some (Order c)) = WritesCall line c
ReadsAs line (Some (Quote bytes)) = WritesMessage line bytes
