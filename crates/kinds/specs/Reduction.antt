-- How a fill changes what an order shows, the same for every kind.
use Rattle.std.specs.Prelude.{◌≡◌, ℕ, ◌-◌, ◌<◌, ◌≤◌, cond, ◌⊎◌, nat_le}
use Rattle.std.proofs.Common.{⊎_elim, ap, ◌∙◌, arith}
use Rattle.std.proofs.lemmas.Bool.{cond-true, cond-false, le-leb, lt-leb}
use Rattle.orders.specs.declared.trade.Header.{Header}
use Rattle.orders.specs.Kind.{less}

-- that much less left; unchanged at more than is left, and so at 0
abbrev pub reduced_header : Header → ℕ → Header
reduced_header h volume = cond (nat_le volume h.left) (less h volume) h

pub header_reduces : (h : Header) (volume : ℕ) → volume ≤ h.left → reduced_header h volume ≡ less h volume
header_reduces h volume within = cond-true (nat_le volume h.left) (less h volume) h (le-leb volume h.left within)

less_none : (h : Header) (volume : ℕ) → volume ≡ 0 → less h volume ≡ h
less_none h volume none =
    let same : h.left - volume ≡ h.left = omega arith in
    ap (λ (n : ℕ). let x : Header = record { side = h.side; party = h.party; entered = h.entered; left = n } in x) same

pub header_keeps : (h : Header) (volume : ℕ) → (volume ≡ 0) ⊎ (h.left < volume) → reduced_header h volume ≡ h
header_keeps h volume =
    ⊎_elim
    (λ none. header_reduces h volume (omega arith) ∙ less_none h volume none)
    (λ more. cond-false (nat_le volume h.left) (less h volume) h (lt-leb volume h.left more))
