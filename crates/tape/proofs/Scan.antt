-- The first fill that fails a test, found as the position of one that does not pass it.
use Rattle.std.proofs.Common.{◌≡◌, ℕ, ◌+◌, Bool, true, false, cond, not, ltb, List, [], ◌∷◌, length, is_some, Some, None, Ok, Option, Result, refl, ap, ◌∙◌, arith}
use Rattle.std.specs.List.{position_from, position_or_len}
use Rattle.std.proofs.lemmas.Iterator.Adapters.{position_from-zero}
use Rattle.orders.specs.declared.trade.Fill.{Fill}
use Rattle.tape.specs.declared.entry.Entry.{Entry}
use Rattle.tape.specs.declared.fault.BlockFault.{BlockFault}
use Rattle.tape.specs.Asked.{every, first_bad}
use Rattle.tape.specs.Entries.{admits, at_first, judged}

swapped : {A : Type 0} (t : Bool) (x y : A) → cond (not t) x y ≡ cond t y x
swapped true x y = refl
swapped false x y = refl

first_bad-position : (test : Fill → Bool) (i : ℕ) (fs : List Fill) → position_from (λ f. not (test f)) i fs ≡ first_bad test i fs
first_bad-position test i [] = refl
first_bad-position test i (f ∷ fs) = swapped (test f) _ _ ∙ ap (λ r. cond (test f) r (Some i)) (first_bad-position test (i + 1) fs)

module _ (which : Entry) (count : ℕ) (fs : List Fill) where
  abbrev pub fails : Fill → Bool
  fails f = not (admits which f)

  pub judged_by_position : (r : Option ℕ) → r ≡ cond (ltb (position_or_len fails fs) (length fs)) (Some (position_or_len fails fs)) None → at_first which count r ≡ judged which fs count
  judged_by_position r is = ap (at_first which count) (is ∙ position_from-zero fails fs ∙ first_bad-position (admits which) 0 fs)

  good : (o : Option ℕ) → ◌≡◌ {A = Result (Unit {0}) BlockFault} (Ok tt) (at_first which count o) → not (is_some o) ≡ true
  good None is = refl
  good (Some i) is = absurd (grind (arith, is))

  -- where no fill's entry is out of range, every one is in range
  pub every_good : ◌≡◌ {A = Result (Unit {0}) BlockFault} (Ok tt) (judged which fs count) → every (admits which) fs ≡ true
  every_good is = good (first_bad (admits which) 0 fs) is

  all_pass : (o : Option ℕ) → not (is_some o) ≡ true → ◌≡◌ {A = Result (Unit {0}) BlockFault} (Ok tt) (at_first which count o)
  all_pass None is = refl
  all_pass (Some i) is = absurd (grind (arith, is))

  -- and the other way round
  pub judged_all_good : every (admits which) fs ≡ true → ◌≡◌ {A = Result (Unit {0}) BlockFault} (Ok tt) (judged which fs count)
  judged_all_good is = all_pass (first_bad (admits which) 0 fs) is
