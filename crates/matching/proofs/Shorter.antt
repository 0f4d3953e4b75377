-- Every fill takes an order out of the book, and a pair is two orders.
use Rattle.std.proofs.Common.{◌≡◌, ℕ, zero, suc, ◌<◌, ◌≤◌, Bool, true, false, cond, not, List, map, length, get_or, filter, sym, refl, ap, ◌∙◌, inl, inr, arith}
use Rattle.std.proofs.lemmas.List.{get_or-map, length-map}
use Rattle.std.proofs.lemmas.List.Filters.{length-filter_both}
use Rattle.std.proofs.lemmas.List.Sums.{get_or-le-sum_by, length-filter}
use Rattle.std.proofs.lemmas.Bool.{cases_eq, cases_lt, eq-eqb}
use Rattle.std.proofs.lemmas.Bool.Decides.{nat_tests}
use Rattle.orders.specs.declared.trade.Fill.{Fill}
use Rattle.orders.specs.Kind.{Kind, less}
use Rattle.orders.specs.Ranking.{Ranking}
use Rattle.rules.specs.Pairs.{Place, First}
use Rattle.rules.specs.Sweep.{after_fill, bears, fill_of, settled, something_left}
use Rattle.law.proofs.Places.{same_place}
use Rattle.law.proofs.Sweeps.{pair_sides}

-- a filter keeps fewer where one fails
fewer_kept : {X : Type 0} (p : X → Bool) (xs : List X) (k : ℕ) (x : X) → Place xs k x → p x ≡ false → length (filter p xs) < length xs
fewer_kept p xs k x there fails =
    let left_out : cond (not (p (get_or xs k x))) 1 0 ≡ suc zero = grind (arith, fails, there.1) in
    omega (
      arith,
      length-filter (λ y. not (p y)) xs,
      length-filter_both p (λ y. not (p y)) (λ _. refl) xs,
      get_or-le-sum_by (λ y. cond (not (p y)) 1 0) xs k x there.0,
    )

module _ {O : Type 0} (kind : Kind O) where
  -- reduced by all that is left, an order has nothing left
  emptied : (o : O) (v : ℕ) → v ≡ (kind.header o).left → something_left kind (kind.reduced o v) ≡ false
  emptied o v e = grind (arith, nat_tests, kind.keeps o v, kind.reduces o v)

  -- the order at a place, with all that it has left in the fill that bears it, leaves the book
  leaves : (xs : List O) (f : Fill) (k : ℕ) (o : O) → Place xs k o → bears f (kind.header o) ≡ true → f.volume ≡ (kind.header o).left → length (settled kind f xs) < length xs
  leaves xs f k o there borne all =
      let g = after_fill kind f in
      let gone : something_left kind (g o) ≡ false = grind (arith, emptied o f.volume all, borne) in
      let here : Place (map g xs) k (g o) =
      (omega (arith, there.0, length-map xs g), ap g there.1 ∙ sym (get_or-map g xs k o (g o) there.0)) in
      omega (arith, fewer_kept (something_left kind) (map g xs) k (g o) here gone, length-map xs g)

  -- after the first pair's fill fewer rest
  pub shorter : (rank : Ranking) (price : ℕ) (xs : List O) (i j : ℕ) (b s : O) → First kind rank price xs i j b s → length (settled kind (fill_of kind price b s) xs) < length xs
  shorter rank price xs i j b s first =
      let side = pair_sides kind price b s first.trades in
      let f = fill_of kind price b s in
      elim (cases_lt (kind.header b).left (kind.header s).left) [
        | inl less ↦ leaves xs f i b first.buy_there (rw side.0 (eq-eqb _ _ refl)) (omega arith)
        | inr more ↦ leaves xs f j s first.sell_there (rw side.1 (eq-eqb _ _ refl)) (omega arith)
      ]

  -- a pair is two orders
  pub two_orders : (rank : Ranking) (price : ℕ) (xs : List O) (i j : ℕ) (b s : O) → First kind rank price xs i j b s → 2 ≤ length xs
  two_orders rank price xs i j b s first =
      let side = pair_sides kind price b s first.trades in
      elim (cases_eq i j) [
        | inl same ↦
            let one : b ≡ s = same_place xs i b s first.buy_there (rw same first.sell_there) in
            absurd (cc (side.0, side.1, ap (λ o. (kind.header o).side) one))
        | inr apart ↦ omega (arith, first.buy_there.0, first.sell_there.0)
      ]
