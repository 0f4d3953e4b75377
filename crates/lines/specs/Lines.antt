-- The line of each call over midpoint orders.
use Rattle.std.specs.Prelude.{◌≡◌, ℕ, List, [], ◌∷◌, ◌++◌, Some, None, codes, Option, MatchOption, ◌≢◌}
use Rattle.base.specs.declared.Side.{Side}
use Rattle.base.specs.declared.Side.TheVariants.{Buy, Sell}
use Rattle.rules.specs.declared.call.Call.{Call}
use Rattle.rules.specs.declared.call.Call.TheVariants.{Enter, Cancel, Price, Cross}
use Rattle.kinds.specs.declared.midpoint.MidpointOrder.{MidpointOrder}
use Rattle.lines.specs.Numbers.{numbers, Small}

-- C is a purchase, V a sale
abbrev pub side_word : Side → List ℕ
side_word Buy = codes "C"
side_word Sell = codes "V"

-- what stands before the numbers of a call
abbrev pub word_of : Call MidpointOrder → List ℕ
word_of (Enter o) = codes "E " ++ side_word o.header.side
word_of (Cancel p) = codes "K"
word_of (Price None) = codes "P -"
word_of (Price (Some price)) = codes "P"
word_of (Cross p volume) = codes "X"

-- an order's numbers, in the order of its line
abbrev pub order_numbers : MidpointOrder → List ℕ
order_numbers o =
    o.header.party.house ∷ o.header.party.folio ∷ o.header.entered ∷ o.protection ∷ o.minimum ∷ []

-- the numbers of a call, in the order of its line
abbrev pub numbers_of : Call MidpointOrder → List ℕ
numbers_of (Enter o) = order_numbers o
numbers_of (Cancel p) = p.house ∷ p.folio ∷ []
numbers_of (Price None) = []
numbers_of (Price (Some price)) = price ∷ []
numbers_of (Cross p volume) = p.house ∷ p.folio ∷ volume ∷ []

-- the bytes of a call's line, before its end
abbrev pub line_of : Call MidpointOrder → List ℕ
line_of c = word_of c ++ numbers (numbers_of c)

-- an order is entered with all its volume left
abbrev pub Whole : Call MidpointOrder → Type 0
Whole (Enter o) = o.header.left ≡ o.header.entered
Whole (Cancel p) = Unit {0}
Whole (Price price) = Unit {0}
Whole (Cross p volume) = Unit {0}

-- the calls that a line can write
abbrev pub Readable : Call MidpointOrder → Type 0
Readable c = Small (numbers_of c) × Whole c

-- the line is read as a readable call with just these bytes, or as none where no readable call has them
abbrev pub ReadsAs : List ℕ → Option (Call MidpointOrder) → Type 0
ReadsAs line r =
    MatchOption
    r
    ((c : Call MidpointOrder) → Readable c → line ≢ line_of c)
    (λ c. Readable c × (line ≡ line_of c))
