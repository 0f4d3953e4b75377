-- Sweeps of a concrete list, decided by tests that compute: at numerals each test is true by refl.
use Rattle.std.proofs.Common.{◌≡◌, ℕ, zero, suc, Bool, true, not, ◌&&◌, ◌||◌, eqb, List, [], ◌∷◌, sym, subst, ⊎_elim, arith}
use Rattle.std.proofs.lemmas.Bool.{and_parts, eqb-false, eqb-true, not-true, or_cases}
use Rattle.orders.specs.declared.trade.Fill.{Fill}
use Rattle.orders.specs.Kind.{Kind}
use Rattle.orders.specs.Ranking.{Ranking}
use Rattle.rules.specs.Pairs.{First, Place, Still, can_trade, comes_before}
use Rattle.rules.specs.Sweep.{Sweep, ends, fill_of, fills, settled}
use Rattle.law.specs.Outcomes.{FoliosDiffer}
use Rattle.law.proofs.Outcomes.{second_part}
use Rattle.law.proofs.Places.{place_tail}

module _ {X : Type 0} where
  -- each element with its place passes a test
  abbrev pub every? : (ℕ → X → Bool) → List X → Bool
  every? p [] = true
  every? p (x ∷ xs) = p 0 x && every? (λ k. p (suc k)) xs

  -- each two elements pass a test, the first with its place
  abbrev pub every_pair? : (ℕ → X → X → Bool) → List X → Bool
  every_pair? p xs = every? (λ k x. every? (λ _ y. p k x y) xs) xs

  -- what each passes is passed at a place
  pub every_at : (p : ℕ → X → Bool) (xs : List X) (i : ℕ) (x : X) → every? p xs ≡ true → Place xs i x → p i x ≡ true
  every_at p [] i x all at = absurd (omega arith)
  every_at p (z ∷ xs) zero x all at =
      subst (λ y. p 0 y ≡ true) (sym at.1) (and_parts (p 0 z) (every? (λ k. p (suc k)) xs) all).0
  every_at p (z ∷ xs) (suc i) x all at =
      every_at (λ k. p (suc k)) xs i x (and_parts (p 0 z) (every? (λ k. p (suc k)) xs) all).1 (place_tail z xs i x at)

  -- what each two pass is passed at two places
  pub every_pair_at : (p : ℕ → X → X → Bool) (xs : List X) (i j : ℕ) (x y : X) → every_pair? p xs ≡ true → Place xs i x → Place xs j y → p i x y ≡ true
  every_pair_at p xs i j x y all there also =
      every_at (λ _ z. p i x z) xs j y (every_at (λ k w. every? (λ _ z. p k w z) xs) xs i x all there) also

module _ {O : Type 0} (kind : Kind O) where
  -- at one place, or of different folios
  abbrev pub apart? : ℕ → O → ℕ → O → Bool
  apart? i x j y = eqb i j || not (eqb (kind.header x).party.folio (kind.header y).party.folio)

  -- no two orders of the list have one folio
  abbrev pub folios_differ? : List O → Bool
  folios_differ? xs = every? (λ i x. every? (apart? i x) xs) xs

  pub folios_differ_by_check : (xs : List O) → folios_differ? xs ≡ true → FoliosDiffer kind xs
  folios_differ_by_check xs all i j x y there also elsewhere same =
      ⊎_elim
      (λ one_place. elsewhere (eqb-true i j one_place))
      (λ other. eqb-false (kind.header x).party.folio (kind.header y).party.folio (not-true _ other) same)
      (or_cases _ _ (every_at (apart? i x) xs j y (every_at (λ k z. every? (apart? k z) xs) xs i x all there) also))

module _ {O : Type 0} (kind : Kind O) (price : ℕ) where
  abbrev pub cannot_trade? : ℕ → O → O → Bool
  cannot_trade? _ b s = not (can_trade kind price b s)

  -- no pair of the list can trade
  abbrev pub still? : List O → Bool
  still? xs = every_pair? cannot_trade? xs

  pub still_by_check : (xs : List O) → still? xs ≡ true → Still kind price xs
  still_by_check xs none i j b s buy_there sell_there =
      not-true (can_trade kind price b s) (every_pair_at cannot_trade? xs i j b s none buy_there sell_there)

  -- the pair of buy c, at the place k, and sell t cannot trade or does not come before that of buy b, at i, and sell s
  abbrev pub not_sooner? : Ranking → ℕ → O → O → ℕ → O → O → Bool
  not_sooner? rank i b s k c t =
      not (can_trade kind price c t && comes_before rank k (kind.header c) (kind.header t) i (kind.header b) (kind.header s))

  -- no pair of the list that can trade comes before the pair of buy b, at the place i, and sell s
  abbrev pub first? : Ranking → List O → ℕ → O → O → Bool
  first? rank xs i b s = every_pair? (not_sooner? rank i b s) xs

  pub first_by_check : (rank : Ranking) (xs : List O) (i j : ℕ) (b s : O) → Place xs i b → Place xs j s → can_trade kind price b s ≡ true → first? rank xs i b s ≡ true → First kind rank price xs i j b s
  first_by_check rank xs i j b s buy_there sell_there trades none =
      record {
        buy_there = buy_there;
        sell_there = sell_there;
        trades = trades;
        none_before =
            λ k l c t c_there t_there can.
            second_part
            (can_trade kind price c t)
            (comes_before rank k (kind.header c) (kind.header t) i (kind.header b) (kind.header s))
            can
            (not-true _ (every_pair_at (not_sooner? rank i b s) xs k l c t none c_there t_there));
      }

-- the goal gives the kind, the ranking, the price and the list
module _ {O : Type 0} {kind : Kind O} {rank : Ranking} {price : ℕ} where
  -- a sweep that makes no fill
  pub ends_by_check : {xs : List O} → still? kind price xs ≡ true → Sweep kind rank price xs [] xs
  ends_by_check {xs} none = ends (still_by_check kind price xs none)

  -- a sweep whose first fill is between buy b at the place i and sell s at the place j
  pub fills_by_check : {xs ys : List O} {fs : List Fill} (i j : ℕ) (b s : O) → Place xs i b → Place xs j s → can_trade kind price b s ≡ true → first? kind price rank xs i b s ≡ true → Sweep kind rank price (settled kind (fill_of kind price b s) xs) fs ys → Sweep kind rank price xs (fill_of kind price b s ∷ fs) ys
  fills_by_check {xs} i j b s buy_there sell_there trades none more =
      fills (first_by_check kind price rank xs i j b s buy_there sell_there trades none) more
