-- What an order at the closing price means.
use Rattle.std.specs.Prelude.{ℕ, Bool, true, ◌==◌}
use Rattle.std.proofs.Common.{ap}
use Rattle.orders.specs.declared.trade.Header.{Header}
use Rattle.orders.specs.Kind.{Kind}
use Rattle.kinds.specs.declared.closing.ClosingOrder.{ClosingOrder}
use Rattle.kinds.specs.declared.closing.Quantity.{Quantity}
use Rattle.kinds.specs.declared.closing.Quantity.TheVariants.{Partial, AllOrNone}
use Rattle.kinds.specs.Reduction.{reduced_header, header_reduces, header_keeps}

-- any volume, or only all that is left; the second number is what is left
abbrev pub quantity_takes : Quantity → ℕ → ℕ → Bool
quantity_takes Partial volume left = true
quantity_takes AllOrNone volume left = volume == left

-- the order with another header, the rest unchanged
abbrev with_header : ClosingOrder → Header → ClosingOrder
with_header o h = record { header = h; quantity = o.quantity }

-- a fill changes what is left alone
abbrev pub closing_reduced : ClosingOrder → ℕ → ClosingOrder
closing_reduced o volume = with_header o (reduced_header o.header volume)

-- the kind, with the laws of a kind: every price is taken, and there are no questions of its own
abbrev pub closing_kind : Kind ClosingOrder
closing_kind =
    record {
      header = λ o. o.header;
      refusal = λ _. 0;
      takes = λ o volume _. quantity_takes o.quantity volume o.header.left;
      reduced = closing_reduced;
      reduces = λ o volume _ within_left. header_reduces o.header volume within_left;
      keeps = λ o volume none_or_more. ap (with_header o) (header_keeps o.header volume none_or_more);
    }
