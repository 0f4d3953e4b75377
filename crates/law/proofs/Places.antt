-- Places of a list, and sums over lists that differ at one place.
use Rattle.std.proofs.Common.{◌≡◌, ℕ, zero, suc, ◌+◌, Bool, true, false, cond, List, [], ◌∷◌, map, get_or, sum_by, filter, sym, refl, ap, ◌∙◌, subst, arith}
use Rattle.std.specs.List.{AllByRecursion as All}
use Rattle.std.proofs.ByRecursion.{all_from_every, All-get_or}
use Rattle.std.proofs.lemmas.List.{get_or_default}
use Rattle.std.proofs.lemmas.List.Sums.{sum_by-cons}
use Rattle.std.proofs.lemmas.Bool.{cond_both}
use Rattle.rules.specs.Pairs.{Place}

module _ {X : Type 0} where
  -- what holds of each element holds at a place
  pub all_place : (P : X → Type 0) (xs : List X) (i : ℕ) (x : X) → All P xs → Place xs i x → P x
  all_place P xs i x all at = subst P (sym at.1) (All-get_or P xs i x at.0 all)

  -- at one place stands one element
  pub same_place : (xs : List X) (i : ℕ) (x y : X) → Place xs i x → Place xs i y → x ≡ y
  same_place xs i x y p q = p.1 ∙ get_or_default xs i x y p.0 ∙ sym q.1

  -- a place past the first is a place of the rest
  pub place_tail : (z : X) (xs : List X) (i : ℕ) (x : X) → Place (z ∷ xs) (suc i) x → Place xs i x
  place_tail z xs i x at = (omega arith, at.1)

  -- a place of the rest is one later in the whole
  pub place_more : (z : X) (xs : List X) (i : ℕ) (x : X) → Place xs i x → Place (z ∷ xs) (suc i) x
  place_more z xs i x at = (omega arith, at.1)

  -- what holds at each place holds of each element
  pub all_from_places : (P : X → Type 0) (xs : List X) → ((k : ℕ) (x : X) → Place xs k x → P x) → All P xs
  all_from_places P xs each =
      all_from_every P xs (λ k d _ below. each k (get_or xs k d) (below, get_or_default xs k d (get_or xs k d) below))

  -- what a filter keeps stands in the list
  pub place_kept : (p : X → Bool) (xs : List X) (i : ℕ) (x : X) → Place (filter p xs) i x → (k : ℕ) × Place xs k x
  place_kept p [] i x at = absurd (omega arith)
  place_kept p (z ∷ xs) i x at = go (λ k there. place_kept p xs k x there) (p z) i at
    where
      later : (k : ℕ) × Place xs k x → (k : ℕ) × Place (z ∷ xs) k x
      later found = (suc found.0, place_more z xs found.0 x found.1)

      go : ((k : ℕ) → Place (filter p xs) k x → (k : ℕ) × Place xs k x) → (t : Bool) (i : ℕ) → Place (cond t (z ∷ filter p xs) (filter p xs)) i x → (k : ℕ) × Place (z ∷ xs) k x
      go rest true zero at = (zero, (omega arith, at.1))
      go rest true (suc i) at = later (rest i (place_tail z (filter p xs) i x at))
      go rest false i at = later (rest i at)

  -- a filter that each element passes keeps all
  pub kept_all : (p : X → Bool) (xs : List X) → All (λ x. p x ≡ true) xs → filter p xs ≡ xs
  kept_all p [] all = refl
  kept_all p (x ∷ xs) all = grind (arith, kept_all p xs all.1)

  -- what agrees on each element has one sum
  pub sum_by_same : (f g : X → ℕ) (xs : List X) → ((k : ℕ) (y : X) → Place xs k y → f y ≡ g y) → sum_by f xs ≡ sum_by g xs
  sum_by_same f g [] agree = refl
  sum_by_same f g (x ∷ xs) agree =
      omega (arith, agree 0 x (omega arith, refl), sum_by_same f g xs (λ k y at. agree (suc k) y (place_more x xs k y at)), sum_by-cons f x xs, sum_by-cons g x xs)

  -- what differs at one place alone
  pub sum_by_but_one : (f g : X → ℕ) (xs : List X) (i : ℕ) (x : X) → Place xs i x → ((k : ℕ) (y : X) → Place xs k y → (k ≡ i → ⊥) → f y ≡ g y) → sum_by f xs + g x ≡ sum_by g xs + f x
  sum_by_but_one f g [] i x at agree = absurd (omega arith)
  sum_by_but_one f g (z ∷ xs) zero x at agree =
      omega (
        arith,
        sum_by_same f g xs (λ k y there. agree (suc k) y (place_more z xs k y there) (λ e. omega arith)),
        ap f at.1,
        ap g at.1,
        sum_by-cons f z xs,
        sum_by-cons g z xs,
      )
  sum_by_but_one f g (z ∷ xs) (suc i) x at agree =
      omega (
        arith,
        agree 0 z (omega arith, refl) (λ e. omega arith),
        sum_by_but_one f g xs i x (place_tail z xs i x at) (λ k y there ne. agree (suc k) y (place_more z xs k y there) (λ e. ne (omega arith))),
        sum_by-cons f z xs,
        sum_by-cons g z xs,
      )

-- the sum over what a filter keeps of a changed list, where what it leaves out counts 0
pub sum_by_kept_map : {X Y : Type 0} (p : Y → Bool) (k : X → Y) (h : Y → ℕ) → ((y : Y) → p y ≡ false → h y ≡ 0) → (xs : List X) → sum_by h (filter p (map k xs)) ≡ sum_by (λ x. h (k x)) xs
sum_by_kept_map p k h none [] = refl
sum_by_kept_map p k h none (x ∷ xs) =
    let rest : sum_by h (filter p (map k xs)) ≡ sum_by (λ y. h (k y)) xs = sum_by_kept_map p k h none xs in
    cond_both (p (k x)) (k x ∷ filter p (map k xs)) (filter p (map k xs)) (λ ys. sum_by h ys ≡ sum_by (λ y. h (k y)) (x ∷ xs))
    (λ _. omega (arith, sum_by-cons h (k x) (filter p (map k xs)), sum_by-cons (λ y. h (k y)) x xs))
    (λ e. omega (arith, none (k x) e, sum_by-cons (λ y. h (k y)) x xs))
