-- A fault of a kind's own questions and its number determine one another.
use Rattle.std.proofs.Common.{◌≡◌, ℕ, true, false, refl, sym, ap, subst, arith}
use Rattle.std.proofs.Math.Bool.{Bool-set}
use Rattle.orders.specs.declared.fault.OtherQuestion.{OtherQuestion}
use Rattle.orders.specs.declared.fault.OwnFault.{OwnFault}
use Rattle.orders.specs.declared.fault.OwnFault.TheVariants.{BadProtection, BadMinimum, Other}
use Rattle.orders.specs.Names.{is_unnamed}
use Rattle.orders.specs.Own.{own_number}

abbrev question : (n : ℕ) → is_unnamed n ≡ true → OtherQuestion
question n unnamed = record { number = n; unnamed = unnamed }

-- two questions without a name and of one number are the same
same_question : (n m : ℕ) (h : is_unnamed n ≡ true) (k : is_unnamed m ≡ true) → n ≡ m → question n h ≡ question m k
same_question n m h k same =
    subst (λ (a : ℕ). (j : is_unnamed a ≡ true) → question n h ≡ question a j) same (λ j. ap (question n) (Bool-set _ _ h j)) k

-- the number of a question without a name is that of no question with one
other_number : (n m : ℕ) → is_unnamed n ≡ true → is_unnamed m ≡ false → n ≡ m → ⊥
other_number n m unnamed named same = cc

pub same_number : (x y : OwnFault) → own_number x ≡ own_number y → x ≡ y
same_number BadProtection BadProtection same = refl
same_number BadProtection BadMinimum same = absurd (omega arith)
same_number BadProtection (Other q) same = absurd (other_number _ _ q.unnamed refl (sym same))
same_number BadMinimum BadProtection same = absurd (omega arith)
same_number BadMinimum BadMinimum same = refl
same_number BadMinimum (Other q) same = absurd (other_number _ _ q.unnamed refl (sym same))
same_number (Other q) BadProtection same = absurd (other_number _ _ q.unnamed refl same)
same_number (Other q) BadMinimum same = absurd (other_number _ _ q.unnamed refl same)
same_number (Other q) (Other r) same = ap Other (same_question q.number r.number q.unnamed r.unnamed same)
