-- Places of a list with one more at its end, and the front and the rest of a list.
use Rattle.std.proofs.Common.{◌≡◌, ℕ, ◌+◌, ◌<◌, ◌⊎◌, List, [], ◌∷◌, ◌++◌, length, get_or, take, sym, ap, ◌∙◌, inl, inr, arith}
use Rattle.std.proofs.lemmas.Bool.{cases_lt}
use Rattle.std.proofs.lemmas.Grind.{common_steps}
use Rattle.std.proofs.lemmas.List.{take_more}
use Rattle.rules.specs.Pairs.{Place}

module _ {X : Type 0} where
  pub place_old : (xs : List X) (z : X) (i : ℕ) (x : X) → Place xs i x → Place (xs ++ (z ∷ [])) i x
  place_old xs z i x p = (grind (arith, common_steps), grind (arith, common_steps))

  pub place_new : (xs : List X) (z : X) → Place (xs ++ (z ∷ [])) (length xs) z
  place_new xs z = (grind (arith, common_steps), grind (arith, common_steps))

  pub place_cases : (xs : List X) (z : X) (i : ℕ) (x : X) → Place (xs ++ (z ∷ [])) i x → Place xs i x ⊎ ((i ≡ length xs) × (x ≡ z))
  place_cases xs z i x p =
      elim (cases_lt i (length xs)) [
        | inl below ↦ inl (below, grind (arith, common_steps))
        | inr above ↦ inr (grind (arith, common_steps), grind (arith, common_steps))
      ]

  -- one element more of the front of a list
  pub take_read : (xs : List X) (i : ℕ) (x : X) → i < length xs → x ≡ get_or xs i x → take (i + 1) xs ≡ take i xs ++ (x ∷ [])
  take_read xs i x within read = take_more xs i x within ∙ ap (λ y. take i xs ++ (y ∷ [])) (sym read)
