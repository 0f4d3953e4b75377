-- What a sweep comes to: the fills settled one after the other, no pair left, each fill in turn, the volumes balanced.
use Rattle.std.proofs.Common.{◌≡◌, ℕ, ◌+◌, ◌<◌, ◌≤◌, true, false, List, Some, None, sum_by, Option, sym, refl, ap, subst, arith}
use Rattle.std.proofs.lemmas.List.Sums.{sum_by-cons}
use Rattle.std.proofs.lemmas.Bool.Decides.{nat_tests}
use Rattle.base.specs.declared.Side.{Side}
use Rattle.base.specs.declared.Side.TheVariants.{Buy, Sell}
use Rattle.orders.specs.declared.trade.Fill.{Fill}
use Rattle.orders.specs.Kind.{Kind}
use Rattle.orders.specs.Ranking.{Ranking}
use Rattle.rules.specs.Pairs.{First, Place, Still, buys, can_trade, sells}
use Rattle.rules.specs.Sweep.{Sweep, after_fill, ends, fill_of, fills, party_on, settled, something_left}
use Rattle.rules.specs.Calls.{Swept, all_settled}
use Rattle.rules.specs.Promises.{AllInTurn, NoPairCanTrade, filled_under, is_on, left_under, resting_volume}
use Rattle.law.proofs.Places.{all_place, sum_by_but_one, sum_by_kept_map}
use Rattle.law.proofs.Sound.{Apart, apart_from_rising, folio_of, Live, one_place, reduced_keeps, settled_live, settled_pairwise, Sound}
use Rattle.law.proofs.Turns.{first_in_turn}

-- what is on a side shows that side
on_side : (side other : Side) → is_on side other ≡ true → other ≡ side
on_side side other e = grind arith

module _ {O : Type 0} (kind : Kind O) where
  -- of two orders that can trade the first is a buy and the second a sell
  pub pair_sides : (price : ℕ) (b s : O) → can_trade kind price b s ≡ true → ((kind.header b).side ≡ Buy) × ((kind.header s).side ≡ Sell)
  pair_sides price b s can = (grind arith, grind arith)

  -- an order on the other side counts nothing
  other_side : (folio : ℕ) (side : Side) (o : O) → is_on side (kind.header o).side ≡ false → left_under kind folio side o ≡ 0
  other_side folio side o off = grind arith

  -- an order with nothing left counts nothing
  nothing_left : (folio : ℕ) (side : Side) (o : O) → something_left kind o ≡ false → left_under kind folio side o ≡ 0
  nothing_left folio side o none = grind (arith, nat_tests)

  module _ (f : Fill) (side : Side) (o : O) (on : is_on side (kind.header o).side ≡ true) (its : party_on f side ≡ (kind.header o).party) where
    -- the order that a fill bears on a side has the fill's volume less
    own_volume : 1 ≤ f.volume → f.volume ≤ (kind.header o).left → (folio : ℕ) → left_under kind folio side o ≡ left_under kind folio side (after_fill kind f o) + filled_under folio side f
    own_volume some fits folio = grind (arith, nat_tests, kind.reduces o f.volume some fits, on_side side (kind.header o).side on)

    -- an order with another folio has as much under the side as before
    other_volume : (folio : ℕ) (y : O) → (folio_of kind y ≡ folio_of kind o → ⊥) → left_under kind folio side y ≡ left_under kind folio side (after_fill kind f y)
    other_volume folio y differs = grind (arith, nat_tests, reduced_keeps kind y f.volume, on_side side (kind.header y).side)

    -- under one side a fill moves its volume from what rests to what is filled
    side_balance : (xs : List O) (i : ℕ) → Apart kind xs → Place xs i o → 1 ≤ f.volume → f.volume ≤ (kind.header o).left → (folio : ℕ) → resting_volume kind folio side xs ≡ filled_under folio side f + resting_volume kind folio side (settled kind f xs)
    side_balance xs i apart there some fits folio =
        omega (
          arith,
          own_volume some fits folio,
          sum_by_but_one (left_under kind folio side) (λ y. left_under kind folio side (after_fill kind f y)) xs i o there
              (λ k y at ne. other_volume folio y (λ e. ne (one_place kind xs k i y o apart at there e))),
          sum_by_kept_map (something_left kind) (after_fill kind f) (left_under kind folio side) (nothing_left folio side) xs,
        )

  module _ {rank : Ranking} {price : ℕ} {xs : List O} {i j : ℕ} {b s : O} (first : First kind rank price xs i j b s) (apart : Apart kind xs) (live : Live kind xs) where
    -- the first pair's fill is balanced under each folio and side
    pub fill_balance : (folio : ℕ) (side : Side) → resting_volume kind folio side xs ≡ filled_under folio side (fill_of kind price b s) + resting_volume kind folio side (settled kind (fill_of kind price b s) xs)
    fill_balance folio side = go side
      where
        lb : 0 < (kind.header b).left
        lb = all_place (λ o. 0 < (kind.header o).left) xs i b live first.buy_there

        ls : 0 < (kind.header s).left
        ls = all_place (λ o. 0 < (kind.header o).left) xs j s live first.sell_there

        sides : ((kind.header b).side ≡ Buy) × ((kind.header s).side ≡ Sell)
        sides = pair_sides price b s first.trades

        go : (side : Side) → resting_volume kind folio side xs ≡ filled_under folio side (fill_of kind price b s) + resting_volume kind folio side (settled kind (fill_of kind price b s) xs)
        go Buy = side_balance (fill_of kind price b s) Buy b (ap buys sides.0) refl xs i apart first.buy_there (omega (arith, lb, ls)) (omega arith) folio
        go Sell = side_balance (fill_of kind price b s) Sell s (ap sells sides.1) refl xs j apart first.sell_there (omega (arith, lb, ls)) (omega arith) folio

  -- what rested was filled or rests still, under each folio on each side
  abbrev pub Moves : List O → List Fill → List O → Type 0
  Moves xs fs ys = (folio : ℕ) (side : Side) → resting_volume kind folio side xs ≡ sum_by (filled_under folio side) fs + resting_volume kind folio side ys

  -- what rests after a sweep is what its fills leave
  pub sweep_settles : {rank : Ranking} {price : ℕ} {xs : List O} {fs : List Fill} {ys : List O} → Sweep kind rank price xs fs ys → ys ≡ all_settled kind fs xs
  sweep_settles (ends still) = refl
  sweep_settles (fills first more) = sweep_settles more

  -- after a sweep no pair can trade
  pub sweep_quiet : {rank : Ranking} {price : ℕ} {xs : List O} {fs : List Fill} {ys : List O} → Sweep kind rank price xs fs ys → Still kind price ys
  sweep_quiet (ends still) = still
  sweep_quiet (fills first more) = sweep_quiet more

  -- each fill of a sweep is in turn
  pub sweep_in_turn : {rank : Ranking} {price : ℕ} {xs : List O} {fs : List Fill} {ys : List O} → Sweep kind rank price xs fs ys → AllInTurn kind rank (Some price) xs fs
  sweep_in_turn (ends still) = tt
  sweep_in_turn (fills first more) = (first_in_turn kind first, sweep_in_turn more)

  -- what rested before a sweep was filled by it or rests after it
  pub sweep_balance : {rank : Ranking} {price : ℕ} {xs : List O} {fs : List Fill} {ys : List O} → Sweep kind rank price xs fs ys → Apart kind xs → Live kind xs → Moves xs fs ys
  sweep_balance (ends still) apart live folio side = omega arith
  sweep_balance {price} {xs} (fills {fs} {b} {s} first more) apart live folio side =
      let f = fill_of kind price b s in
      omega (
        arith,
        fill_balance first apart live folio side,
        sweep_balance more (settled_pairwise kind (λ m n. m ≡ n → ⊥) f xs apart) (settled_live kind f xs) folio side,
        sum_by-cons (filled_under folio side) f fs,
      )

  -- what a sweep at the price in force, or none, comes to
  pub record ComesTo (rank : Ranking) (price : Option ℕ) (xs : List O) (fs : List Fill) : Type 0 where
    pub quiet : NoPairCanTrade kind price (all_settled kind fs xs)
    pub in_turn : AllInTurn kind rank price xs fs
    pub balance : Moves xs fs (all_settled kind fs xs)

  -- a sweep of sound orders at the price in force comes to that, and so does none where no price is
  pub swept_comes_to : (highest : ℕ) (rank : Ranking) (price : Option ℕ) (xs : List O) (fs : List Fill) (ys : List O) → Sound kind highest xs → Swept kind rank price xs fs ys → ComesTo rank price xs fs
  swept_comes_to highest rank None xs fs ys sound swept =
      subst (ComesTo rank None xs) (sym swept.0) (record { quiet = tt; in_turn = tt; balance = λ folio side. omega arith })
  swept_comes_to highest rank (Some price) xs fs ys sound sweep =
      record {
        quiet = subst (NoPairCanTrade kind (Some price)) (sweep_settles sweep) (sweep_quiet sweep);
        in_turn = sweep_in_turn sweep;
        balance = subst (Moves xs fs) (sweep_settles sweep) (sweep_balance sweep (apart_from_rising kind xs sound.rising) sound.live);
      }
