-- What holds of the orders that rest along a lawful day.
use Rattle.std.proofs.Common.{◌≡◌, ℕ, ◌<◌, ◌≤◌, Bool, true, List, [], ◌∷◌, ◌++◌, map, filter, sym, subst, inl, inr, arith}
use Rattle.std.specs.List.{AllByRecursion as All}
use Rattle.std.specs.List.{AllPairs}
use Rattle.std.proofs.lemmas.Grind.{common_steps}
use Rattle.std.proofs.lemmas.List.{get_or-map, length-map}
use Rattle.std.proofs.lemmas.List.Kept.{AllPairs-filter}
use Rattle.std.proofs.lemmas.List.Quantifiers.{all_pairs_push}
use Rattle.std.proofs.ByRecursion.{All-get_or, All-weaker, All-map, all_kept_by, All-push, kept_by_passes}
use Rattle.std.proofs.lemmas.Bool.{cases_order, ltb-true}
use Rattle.orders.specs.declared.trade.Fill.{Fill}
use Rattle.orders.specs.Kind.{Kind}
use Rattle.rules.specs.Pairs.{Place}
use Rattle.rules.specs.Sweep.{after_fill, settled, something_left}
use Rattle.rules.specs.Calls.{all_settled}

module _ {O : Type 0} (kind : Kind O) where
  -- the folio that an order shows
  abbrev pub folio_of : O → ℕ
  folio_of o = (kind.header o).party.folio

  -- each order's folio is so related to that of each later one
  abbrev pub Pairwise : (ℕ → ℕ → Type 0) → List O → Type 0
  Pairwise R xs = AllPairs (λ x y. R (folio_of x) (folio_of y)) xs

  -- folios rise strictly
  abbrev pub Rising : List O → Type 0
  Rising xs = Pairwise ◌<◌ xs

  -- no two folios are one
  abbrev pub Apart : List O → Type 0
  Apart xs = Pairwise (λ a b. a ≡ b → ⊥) xs

  -- each order has something left
  abbrev pub Live : List O → Type 0
  Live xs = All (λ o. 0 < (kind.header o).left) xs

  -- folios rise up to the highest, and each order has something left
  pub record Sound (highest : ℕ) (xs : List O) : Type 0 where
    pub rising : Rising xs
    pub below : All (λ o. folio_of o ≤ highest) xs
    pub live : Live xs

  -- an empty book is sound
  pub nothing_sound : (highest : ℕ) → Sound highest []
  nothing_sound highest = record { rising = λ i j d lt within. absurd (omega arith); below = tt; live = tt }

  -- folios that rise are apart
  pub apart_from_rising : (xs : List O) → Rising xs → Apart xs
  apart_from_rising xs h = λ i j d lt within e. omega (arith, h i j d lt within)

  -- two orders with one folio stand at one place
  pub one_place : (xs : List O) (i j : ℕ) (x y : O) → Apart xs → Place xs i x → Place xs j y → folio_of x ≡ folio_of y → i ≡ j
  one_place xs i j x y h p q e =
      elim (cases_order i j) [
        | inl same ↦ same
        | inr (inl before) ↦ absurd (h i j x before q.0 (grind (arith, common_steps)))
        | inr (inr behind) ↦ absurd (h j i x behind p.0 (grind (arith, common_steps)))
      ]

  -- two orders show one side and one party
  abbrev pub SameFace : O → O → Type 0
  SameFace x y = ((kind.header x).side ≡ (kind.header y).side) × ((kind.header x).party ≡ (kind.header y).party)

  -- a reduced order keeps its side and its party
  pub reduced_keeps : (o : O) (volume : ℕ) → SameFace (kind.reduced o volume) o
  reduced_keeps o volume = (grind (arith, kind.keeps o volume, kind.reduces o volume), grind (arith, kind.keeps o volume, kind.reduces o volume))

  -- an order keeps its folio through a fill
  pub after_fill_folio : (f : Fill) (o : O) → folio_of (after_fill kind f o) ≡ folio_of o
  after_fill_folio f o = grind (arith, (reduced_keeps o f.volume).1)

  -- what holds of each folio holds of each after a fill
  pub settled_folios : (P : ℕ → Type 0) (f : Fill) (xs : List O) → All (λ x. P (folio_of x)) xs → All (λ x. P (folio_of x)) (settled kind f xs)
  settled_folios P f xs all =
      all_kept_by (something_left kind) (λ x. P (folio_of x)) (map (after_fill kind f) xs)
      (All-map (λ x. P (folio_of x)) (after_fill kind f) xs
      (All-weaker (λ x. P (folio_of x)) (λ x. P (folio_of (after_fill kind f x))) (λ x h. subst P (sym (after_fill_folio f x)) h) xs all))

  -- what relates the folios relates them after a fill
  pub settled_pairwise : (R : ℕ → ℕ → Type 0) (f : Fill) (xs : List O) → Pairwise R xs → Pairwise R (settled kind f xs)
  settled_pairwise R f xs h =
      let g = after_fill kind f in
      AllPairs-filter (λ x y. R (folio_of x) (folio_of y)) (something_left kind) (map g xs)
      (λ i j d lt within.
      rw (get_or-map g xs i d d (omega (arith, length-map xs g)), get_or-map g xs j d d (omega (arith, length-map xs g)), after_fill_folio f, after_fill_folio f)
      (h i j d lt (omega (arith, length-map xs g))))

  -- each order that stays after a fill has something left
  pub settled_live : (f : Fill) (xs : List O) → Live (settled kind f xs)
  settled_live f xs =
      All-weaker (λ o. something_left kind o ≡ true) (λ o. 0 < (kind.header o).left) (λ o e. ltb-true 0 (kind.header o).left e) (settled kind f xs)
      (kept_by_passes (something_left kind) (map (after_fill kind f) xs))

  -- any fill leaves a sound list sound
  pub settled_sound : (highest : ℕ) (f : Fill) (xs : List O) → Sound highest xs → Sound highest (settled kind f xs)
  settled_sound highest f xs sound =
      record {
        rising = settled_pairwise ◌<◌ f xs sound.rising;
        below = settled_folios (λ n. n ≤ highest) f xs sound.below;
        live = settled_live f xs;
      }

  -- and so do fills one after the other
  pub all_settled_sound : (highest : ℕ) (fs : List Fill) (xs : List O) → Sound highest xs → Sound highest (all_settled kind fs xs)
  all_settled_sound highest [] xs sound = sound
  all_settled_sound highest (f ∷ fs) xs sound = all_settled_sound highest fs (settled kind f xs) (settled_sound highest f xs sound)

  -- some orders may go
  pub kept_sound : (highest : ℕ) (p : O → Bool) (xs : List O) → Sound highest xs → Sound highest (filter p xs)
  kept_sound highest p xs sound =
      record {
        rising = AllPairs-filter (λ x y. folio_of x < folio_of y) p xs sound.rising;
        below = all_kept_by p (λ o. folio_of o ≤ highest) xs sound.below;
        live = all_kept_by p (λ o. 0 < (kind.header o).left) xs sound.live;
      }

  -- a folio above all joins at the end
  pub rising_push : (xs : List O) (o : O) → Rising xs → All (λ x. folio_of x < folio_of o) xs → Rising (xs ++ (o ∷ []))
  rising_push xs o h below = all_pairs_push (λ x y. folio_of x < folio_of y) xs o h (λ k d within. All-get_or (λ x. folio_of x < folio_of o) xs k d within below)

  -- the highest folio may rise
  pub raised_sound : (low high : ℕ) (xs : List O) → low ≤ high → Sound low xs → Sound high xs
  raised_sound low high xs le sound =
      record {
        rising = sound.rising;
        below = All-weaker (λ o. folio_of o ≤ low) (λ o. folio_of o ≤ high) (λ o h. omega arith) xs sound.below;
        live = sound.live;
      }

  -- a new order with a folio above the highest and something left joins
  pub pushed_sound : (highest : ℕ) (xs : List O) (o : O) → Sound highest xs → highest < folio_of o → 0 < (kind.header o).left → Sound (folio_of o) (xs ++ (o ∷ []))
  pushed_sound highest xs o sound above some =
      record {
        rising = rising_push xs o sound.rising (All-weaker (λ x. folio_of x ≤ highest) (λ x. folio_of x < folio_of o) (λ x h. omega arith) xs sound.below);
        below = All-push (λ x. folio_of x ≤ folio_of o) xs o (All-weaker (λ x. folio_of x ≤ highest) (λ x. folio_of x ≤ folio_of o) (λ x h. omega arith) xs sound.below) (omega arith);
        live = All-push (λ x. 0 < (kind.header x).left) xs o sound.live some;
      }
