-- From what the code did to what a call comes to.
use Rattle.std.proofs.Common.{◌≡◌, ℕ, List, Some, None, Option, sym, refl, ap, ◌∙◌, subst}
use Rattle.base.specs.Questions.{first_no}
use Rattle.law.proofs.Sweeps.{sweep_settles}
use Rattle.orders.specs.declared.trade.Fill.{Fill}
use Rattle.orders.specs.Kind.{Kind}
use Rattle.orders.specs.Ranking.{Ranking}
use Rattle.rules.specs.declared.call.Call.{Call}
use Rattle.rules.specs.Calls.{Makes, Swept, all_settled, between_orders, filled, highest_after, price_after, with_entered}
use Rattle.rules.specs.Questions.{State, capacity_of, questions}
use Rattle.book.specs.declared.open.OpenBook.{OpenBook}
use Rattle.book.specs.Called.{Called}
use Rattle.book.specs.View.{places, view}

-- two states are the same where their parts are
same_state : {O : Type 0} (xs ys : List O) (p q : Option ℕ) (h k : ℕ) → xs ≡ ys → p ≡ q → h ≡ k → ◌≡◌ {A = State O} (record { resting = xs; price = p; highest = h }) (record { resting = ys; price = q; highest = k })
same_state xs ys p q h k a b c = rw (a, b, c) refl

-- what a sweep leaves is what its fills leave
swept_settles : {O : Type 0} (kind : Kind O) (rank : Ranking) (price : Option ℕ) (xs ys : List O) (fs : List Fill) → Swept kind rank price xs fs ys → ys ≡ all_settled kind fs xs
swept_settles kind rank None xs ys fs s = s.1 ∙ ap (λ gs. all_settled kind gs xs) (sym s.0)
swept_settles kind rank (Some p) xs ys fs s = sweep_settles kind s

-- a sweep at a price, however the price is told
pub swept_at : {O : Type 0} (kind : Kind O) (rank : Ranking) (xs ys : List O) (fs : List Fill) (p q : Option ℕ) → Swept kind rank p xs fs ys → p ≡ q → Swept kind rank q xs fs ys
swept_at kind rank xs ys fs p q swept is = subst (λ (r : Option ℕ). Swept kind rank r xs fs ys) is swept

module _ {O P : Type 0} (kind : Kind O) (rank : Ranking) (before after : OpenBook O P) where
  -- an entry and a price are swept on the orders that they make of those before
  pub swept_on : (price : Option ℕ) (xs : List O) (tape : ℕ) (told : List Fill) → Swept kind rank price xs told (view after).resting → (call : Call O) → first_no (questions kind (capacity_of (places before)) (view before) tape call) ≡ 0 → xs ≡ with_entered kind call (view before).resting → after.price ≡ price_after before.price call (filled told) → after.highest ≡ highest_after kind before.highest call (filled told) → between_orders kind call told ≡ told → Makes kind rank (view before) call told → Called kind rank before call tape (filled told) after
  swept_on price xs tape told swept call none rests in_force highest between makes =
      record {
        right = (none, makes);
        state = same_state _ _ _ _ _ _ (swept_settles kind rank price xs (view after).resting told swept ∙ ap (all_settled kind told) rests ∙ ap (λ fs. all_settled kind fs (with_entered kind call (view before).resting)) (sym between)) in_force highest;
      }
