-- Where folios differ a sweep has one outcome: the first pair is then one pair.
use Rattle.std.proofs.Common.{◌≡◌, get_or, ℕ, Bool, true, false, ◌&&◌, List, ◌∷◌, sym, refl, subst, ap₂, arith}
use Rattle.std.proofs.lemmas.Bool.{both_ways, eq-eqb}
use Rattle.std.proofs.lemmas.Grind.{common_steps}
use Rattle.orders.specs.declared.trade.Fill.{Fill}
use Rattle.orders.specs.Kind.{Kind}
use Rattle.orders.specs.Ranking.{Ranking}
use Rattle.rules.specs.Pairs.{First, Still, can_trade}
use Rattle.rules.specs.Sweep.{Sweep, ends, fill_of, fills, settled}
use Rattle.law.specs.Outcomes.{FoliosDiffer, OneOutcome}
use Rattle.law.proofs.Places.{same_place}
use Rattle.law.proofs.Sound.{Apart, one_place, settled_pairwise}

-- of two of which not both are so, while the first is, the second is not
pub second_part : (x y : Bool) → x ≡ true → (x && y) ≡ false → y ≡ false
second_part x y p q = grind arith

module _ {O : Type 0} (kind : Kind O) where
  -- folios that differ at different places are apart
  pub apart_from_places : (xs : List O) → FoliosDiffer kind xs → Apart kind xs
  apart_from_places xs differ = λ i j d lt within.
      differ i j (get_or xs i d) (get_or xs j d) (omega arith, grind (arith, common_steps)) (within, grind (arith, common_steps)) (λ e. omega arith)

  -- two first pairs are one pair
  pub first_once : {rank : Ranking} {price : ℕ} {xs : List O} {i j k l : ℕ} {b s c t : O} → Apart kind xs → First kind rank price xs i j b s → First kind rank price xs k l c t → (b ≡ c) × (s ≡ t)
  first_once {rank} {xs} {i} {j} {k} {l} {b} {s} {c} {t} apart one two =
      let ahead = two.none_before i j b s one.buy_there one.sell_there one.trades in
      let back = one.none_before k l c t two.buy_there two.sell_there two.trades in
      let buys : i ≡ k = one_place kind xs i k b c apart one.buy_there two.buy_there (grind (arith, rank.total (kind.header b) (kind.header c))) in
      let sells : j ≡ l = one_place kind xs j l s t apart one.sell_there two.sell_there
      (grind (arith, rank.total (kind.header s) (kind.header t), eq-eqb i k buys, eq-eqb k i (sym buys))) in
      (same_place xs k b c (rw buys at one.buy_there) two.buy_there, same_place xs l s t (rw sells at one.sell_there) two.sell_there)

  -- a still list has no first pair
  pub still_none : {rank : Ranking} {price : ℕ} {xs : List O} {i j : ℕ} {b s : O} → Still kind price xs → First kind rank price xs i j b s → ⊥
  still_none {price} {i} {j} {b} {s} still first =
      both_ways (can_trade kind price b s) (still i j b s first.buy_there first.sell_there) first.trades

  -- two sweeps of one list come to one end
  pub one_end : {rank : Ranking} {price : ℕ} {xs : List O} {fs : List Fill} {ys ws : List O} {gs : List Fill} {zs : List O} → Sweep kind rank price xs fs ys → Sweep kind rank price ws gs zs → ws ≡ xs → Apart kind xs → (fs ≡ gs) × (ys ≡ zs)
  one_end (ends still) (ends also) e apart = (refl, sym e)
  one_end {price} (ends still) (fills first more) e apart = absurd (still_none (subst (Still kind price) (sym e) still) first)
  one_end {price} (fills first more) (ends still) e apart = absurd (still_none (subst (Still kind price) e still) first)
  one_end {rank} {price} {xs} {ws} (fills {b} {s} first more) (fills {i = k} {j = l} {b = c} {s = t} second rest) e apart =
      let same = first_once apart first (subst (λ vs. First kind rank price vs k l c t) e second) in
      let fill : fill_of kind price b s ≡ fill_of kind price c t = ap₂ (fill_of kind price) same.0 same.1 in
      let later = one_end more rest (ap₂ (settled kind) (sym fill) e) (settled_pairwise kind (λ m n. m ≡ n → ⊥) (fill_of kind price b s) xs apart) in
      (ap₂ (λ f fs. f ∷ fs) fill later.0, later.1)

  -- and so does any list whose folios differ by places
  pub one_outcome : OneOutcome kind
  one_outcome rank price xs differ fs gs ys zs one two = one_end one two refl (apart_from_places xs differ)
