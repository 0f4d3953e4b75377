-- Digits read byte by byte.
use Rattle.std.proofs.Common.{◌≡◌, ℕ, ◌+◌, ◌*◌, ◌<◌, List, length, get_or, set, Some, Option, sym, ap, ◌∙◌, subst, ⊎_elim, arith}
use Rattle.std.proofs.lemmas.List.{get_or-set_other, get_or-set_same}
use Rattle.std.proofs.lemmas.Bool.{cases_eq}
use Rattle.feedlines.specs.Digits.{byte_of}

module _ (digits : List ℕ) where
  -- the byte that the digits of a place write
  abbrev pub byte_at : ℕ → Option ℕ
  byte_at i = byte_of (get_or digits (2 * i) 0) (get_or digits (2 * i + 1) 0)

  pub spelled_more : (message : List ℕ) (place byte : ℕ) → place < length message → ((i : ℕ) → i < place → byte_at i ≡ Some (get_or message i 0)) → byte_at place ≡ Some byte → (i : ℕ) → i < place + 1 → byte_at i ≡ Some (get_or (set message place byte) i 0)
  spelled_more message place byte below so_far is i h =
      ⊎_elim
      (λ e. subst (λ (k : ℕ). byte_at k ≡ Some (get_or (set message place byte) k 0)) (sym e) (is ∙ ap Some (sym (get_or-set_same message place byte 0 below))))
      (λ other. so_far i (omega (arith, h, other)) ∙ ap Some (sym (get_or-set_other message place i byte 0 other)))
      (cases_eq i place)
