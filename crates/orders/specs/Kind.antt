-- What a kind of order means.
use Rattle.std.specs.Prelude.{Bool, ◌⊎◌, ◌≡◌, ℕ, ◌-◌, ◌≤◌, ◌<◌}
use Rattle.orders.specs.declared.trade.Header.{Header}

-- what an order shows once a volume of it is filled: that much less left, the rest unchanged
abbrev pub less : Header → ℕ → Header
less h volume = record { side = h.side; party = h.party; entered = h.entered; left = h.left - volume }

-- the answers of a kind of order, and the laws that it must show
pub record Kind (O : Type 0) : Type 0 where
  pub header : O → Header
  -- the number of its own first question answered no, or 0
  pub refusal : O → ℕ
  -- takes order volume price
  pub takes : O → ℕ → ℕ → Bool
  pub reduced : O → ℕ → O
  -- reduced by 1 up to what is left, an order has that much less left
  pub reduces : (o : O) (volume : ℕ) → 1 ≤ volume → volume ≤ (header o).left → header (reduced o volume) ≡ less (header o) volume
  -- reduced by 0 or by more than is left, it is unchanged
  pub keeps : (o : O) (volume : ℕ) → (volume ≡ 0) ⊎ ((header o).left < volume) → reduced o volume ≡ o
