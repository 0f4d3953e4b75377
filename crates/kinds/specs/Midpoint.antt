-- What a midpoint order means.
use Rattle.std.specs.Prelude.{ℕ, Bool, ◌&&◌, List, [], ◌∷◌, nat_le}
use Rattle.std.proofs.Common.{ap}
use Rattle.base.specs.declared.Side.{Side}
use Rattle.base.specs.declared.Side.TheVariants.{Buy, Sell}
use Rattle.base.specs.Price.{price_in_range}
use Rattle.base.specs.Questions.{Question, ask, first_no}
use Rattle.base.specs.Range.{within}
use Rattle.orders.specs.declared.trade.Header.{Header}
use Rattle.orders.specs.Kind.{Kind}
use Rattle.kinds.specs.declared.midpoint.MidpointOrder.{MidpointOrder}
use Rattle.kinds.specs.Reduction.{reduced_header, header_reduces, header_keeps}

-- a buy's price is not above the protection, a sell's not below it
abbrev pub within_protection : Side → ℕ → ℕ → Bool
within_protection Buy protection price = nat_le price protection
within_protection Sell protection price = nat_le protection price

-- the minimum or more, at a price within the protection
abbrev pub midpoint_takes : MidpointOrder → ℕ → ℕ → Bool
midpoint_takes o volume price = nat_le o.minimum volume && within_protection o.header.side o.protection price

-- is the protection a price? is the minimum from 1 to the volume entered?
abbrev pub midpoint_questions : MidpointOrder → List Question
midpoint_questions o =
    ask (price_in_range o.protection) 4 ∷ ask (within 1 o.header.entered o.minimum) 5 ∷ []

-- the order with another header, the rest unchanged
abbrev with_header : MidpointOrder → Header → MidpointOrder
with_header o h = record { header = h; protection = o.protection; minimum = o.minimum }

-- a fill changes what is left alone
abbrev pub midpoint_reduced : MidpointOrder → ℕ → MidpointOrder
midpoint_reduced o volume = with_header o (reduced_header o.header volume)

-- the kind, with the laws of a kind
abbrev pub midpoint_kind : Kind MidpointOrder
midpoint_kind =
    record {
      header = λ o. o.header;
      refusal = λ o. first_no (midpoint_questions o);
      takes = midpoint_takes;
      reduced = midpoint_reduced;
      reduces = λ o volume _ within_left. header_reduces o.header volume within_left;
      keeps = λ o volume none_or_more. ap (with_header o) (header_keeps o.header volume none_or_more);
    }
