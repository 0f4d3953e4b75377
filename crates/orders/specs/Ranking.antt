-- What a priority means: an order on what orders show.
use Rattle.std.specs.Prelude.{Bool, true, false, not, ◌≡◌}
use Rattle.orders.specs.declared.trade.Header.{Header}

pub record Ranking : Type 0 where
  pub before : Header → Header → Bool
  -- no order is before itself
  pub irreflexive : (a : Header) → before a a ≡ false
  -- if one is before a second and that before a third, the first is before the third
  pub transitive : (a b c : Header) → before a b ≡ true → before b c ≡ true → before a c ≡ true
  -- of two with different folios exactly one is before the other
  pub total : (a b : Header) → (a.party.folio ≡ b.party.folio → ⊥) → before b a ≡ not (before a b)
