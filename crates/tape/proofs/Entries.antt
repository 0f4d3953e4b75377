-- One entry after another, each of the same size: where each stands, and that they are nothing else.
use Rattle.std.proofs.Common.{◌≡◌, ℕ, zero, suc, ◌+◌, ◌*◌, ◌<◌, ◌≤◌, List, [], ◌∷◌, length, get_or, take, drop, sym, ap, ◌∙◌, mul-zero, mul-suc, arith, take-add}
use Rattle.std.specs.List.{flat_map}
use Rattle.std.proofs.lemmas.List.{drop_at, drop-drop, length-append}

-- the entries of the first elements stand at the front of a part
abbrev pub WrittenTo : {X : Type 0} → (X → List ℕ) → ℕ → List X → List ℕ → ℕ → Type 0
WrittenTo entry size xs part i = take (size * i) part ≡ flat_map entry (take i xs)

module _ {X : Type 0} (entry : X → List ℕ) (size : ℕ) (sized : (x : X) → length (entry x) ≡ size) where
  pub length_entries : (xs : List X) → length (flat_map entry xs) ≡ size * length xs
  length_entries [] = sym (mul-zero size)
  length_entries (x ∷ xs) = grind (arith, mul-suc size (length xs), length-append (entry x) (flat_map entry xs), sized x, length_entries xs)

  -- the entries from a place on
  pub entries_from : (i : ℕ) (xs : List X) → i ≤ length xs → drop (size * i) (flat_map entry xs) ≡ flat_map entry (drop i xs)
  entries_from zero xs h = ap (λ n. drop n (flat_map entry xs)) (mul-zero size)
  entries_from (suc i) [] h = absurd (omega arith)
  entries_from (suc i) (x ∷ xs) h = grind (arith, mul-suc size i, drop-drop, drop_at (entry x) (flat_map entry xs) size (sized x), entries_from i xs)

  -- bytes that have each element's entry at its place, from a place on, have the entries there
  pub entries_are : (xs : List X) (bs : List ℕ) (at : ℕ) → ((i : ℕ) (d : X) → i < length xs → take size (drop (at + size * i) bs) ≡ entry (get_or xs i d)) → take (size * length xs) (drop at bs) ≡ flat_map entry xs
  entries_are [] bs at each = ap (λ n. take n (drop at bs)) (mul-zero size)
  entries_are (x ∷ xs) bs at each =
      let none : at ≡ at + size * 0 = omega (arith, mul-zero size) in
      let first : take size (drop at bs) ≡ entry x = ap (λ n. take size (drop n bs)) none ∙ each 0 x (omega arith) in
      let step = λ (i : ℕ). let s : at + size + size * i ≡ at + size * suc i = omega (arith, mul-suc size i) in s in
      let rest = entries_are xs bs (at + size) (λ i d h. ap (λ n. take size (drop n bs)) (step i) ∙ each (suc i) d (omega arith)) in
      grind (arith, mul-suc size (length xs), take-add size (size * length xs) (drop at bs), first, drop-drop size at bs, rest)
