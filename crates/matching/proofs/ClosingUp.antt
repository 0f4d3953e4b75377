-- Closing up in place: what the first items leave at the front, while the rest still stands as it did.
use Rattle.std.proofs.Common.{◌≡◌, ℕ, ◌+◌, ◌<◌, ◌≤◌, Bool, List, [], ◌∷◌, ◌++◌, length, get_or, take, drop, set, filter, map, Some, None, Option, sym, refl, ap, ap₂, ◌∙◌, subst, arith}
use Rattle.std.specs.Prelude.{filter_map}
use Rattle.std.specs.Borrow.{Bor}
use Rattle.std.specs.Bool.{then_some}
use Rattle.std.specs.Fn.{FnReturnsAt, Shared}
use Rattle.std.specs.List.{AllZip, cons_option}
use Rattle.std.proofs.lemmas.Grind.{common_steps}
use Rattle.std.proofs.lemmas.List.Elements.{filter_map-append}
use Rattle.std.proofs.lemmas.List.{append-nil, take_more, take_more_set}
use Rattle.std.proofs.lemmas.Slice.Zip.{all_zipped_more}
use Rattle.matching.specs.ClosingUp.{KeptAs}

module _ {F T : Type 0} {calls : Shared F (Bor T × Unit {0}) (Option T)} {keep : F} where
  -- keep answers at every item what h gives of it: what it answers at the items is what h gives of them
  given : (h : T → Option T) → ((x : T) (r : Option T) → FnReturnsAt calls keep x r → r ≡ h x) → (xs : List T) (answers : List (Option T)) → AllZip (FnReturnsAt calls keep) xs answers → filter_map (λ r. r) answers ≡ filter_map h xs
  given h says [] [] each = refl
  given h says [] (r ∷ answers) each = absurd each
  given h says (x ∷ xs) [] each = absurd each
  given h says (x ∷ xs) (r ∷ answers) each = ap₂ cons_option (says x r each.0) (given h says xs answers each.1)

  -- each item is changed and kept if it then passes a test: kept is the list changed and filtered
  pub kept_where : (change : T → T) (test : T → Bool) → ((x : T) (r : Option T) → FnReturnsAt calls keep x r → r ≡ then_some (test (change x)) (change x)) → (items kept : List T) → KeptAs calls keep items kept → kept ≡ filter test (map change items)
  kept_where change test says items kept closed =
      closed.2 ∙ given (λ x. then_some (test (change x)) (change x)) says items closed.0 closed.1 ∙ filtered items
    where
      filtered : (xs : List T) → filter_map (λ x. then_some (test (change x)) (change x)) xs ≡ filter test (map change xs)
      filtered [] = refl
      filtered (x ∷ xs) = grind (arith, filtered xs)

module _ {F T : Type 0} (calls : Shared F (Bor T × Unit {0}) (Option T)) (keep : F) where
  -- one item more, read where the list ys still stands as xs did: keep answers r at it
  module _ (xs ys : List T) (k i : ℕ) (d : T) (r : Option T) (within : i < length xs) (long : length ys ≡ length xs) (front : KeptAs calls keep (take i xs) (take k ys)) (rest : drop i ys ≡ drop i xs) (answer : FnReturnsAt calls keep (get_or ys i d) r) where
    kept_more : KeptAs calls keep (take (i + 1) xs) (take k ys ++ cons_option r [])
    kept_more =
        let same : get_or ys i d ≡ get_or xs i d = grind (arith, common_steps) in
        let here = subst (λ x. FnReturnsAt calls keep x r) same answer in (
          front.0 ++ (r ∷ []),
          rw (take_more xs i d within) (all_zipped_more (FnReturnsAt calls keep) (take i xs) front.0 (get_or xs i d) r front.1 here),
          ap (λ zs. zs ++ cons_option r []) front.2 ∙ sym (filter_map-append (λ s. s) front.0 (r ∷ [])),
        )

    -- it is left out
    pub left_out : r ≡ None → KeptAs calls keep (take (i + 1) xs) (take k ys)
    left_out none =
        subst (KeptAs calls keep (take (i + 1) xs)) (ap (λ s. take k ys ++ cons_option s []) none ∙ append-nil (take k ys)) kept_more

    -- it is kept as y, behind those that were kept before
    pub put_behind : (y : T) → k ≤ i → r ≡ Some y → KeptAs calls keep (take (i + 1) xs) (take (k + 1) (set ys k y))
    put_behind y behind some =
        subst (KeptAs calls keep (take (i + 1) xs)) (ap (λ s. take k ys ++ cons_option s []) some ∙ sym (take_more_set ys k y (omega arith))) kept_more
