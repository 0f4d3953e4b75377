-- The order in which an order prefers its opposites, and the order of pairs: neither has a cycle.
use Rattle.std.proofs.Common.{◌≡◌, ℕ, true, false, arith}
use Rattle.std.proofs.lemmas.Bool.{ne_eqb}
use Rattle.orders.specs.declared.trade.Header.{Header}
use Rattle.orders.specs.Ranking.{Ranking}
use Rattle.rules.specs.Pairs.{one_house, stands_before, comes_before, own_first}

module _ (rank : Ranking) where
  pub stands_irreflexive : (o a : Header) → stands_before rank o a a ≡ false
  stands_irreflexive o a = grind (arith, rank.irreflexive a)

  pub stands_transitive : (o a b c : Header) → stands_before rank o a b ≡ true → stands_before rank o b c ≡ true → stands_before rank o a c ≡ true
  stands_transitive o a b c p q = grind (arith, rank.transitive a b c)

  -- a pair of one row before that of another, which is before that of a third
  pub rows_transitive : (k n m : ℕ) (c t b s d u : Header) → (k ≡ n → ⊥) → comes_before rank k c t n b s ≡ true → own_first (one_house b s) (one_house d u) (rank.before b d) ≡ true → comes_before rank k c t m d u ≡ true
  rows_transitive k n m c t b s d u apart p q = grind (arith, rank.transitive c b d, ne_eqb k n apart)

  -- a pair of a row before that of another row: so is the row's first pair
  pub row_raised : (n m : ℕ) (b t s d u : Header) → (n ≡ m → ⊥) → stands_before rank b t s ≡ false → comes_before rank n b t m d u ≡ true → own_first (one_house b s) (one_house d u) (rank.before b d) ≡ true
  row_raised n m b t s d u apart behind before = grind (arith, ne_eqb n m apart)
