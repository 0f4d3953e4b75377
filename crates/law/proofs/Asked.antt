-- Where no question is answered no, each is answered yes.
use Rattle.std.proofs.Common.{◌≡◌, ℕ, ◌<◌, true, false, List, [], ◌∷◌, Some, None, arith}
use Rattle.std.specs.List.{AllByRecursion as All}
use Rattle.std.proofs.lemmas.Bool.{eqb-false}
use Rattle.std.proofs.lemmas.Bool.Decides.{nat_tests}
use Rattle.base.specs.Questions.{Question, first_no}
use Rattle.orders.specs.declared.trade.Party.{Party}
use Rattle.orders.specs.Kind.{Kind}
use Rattle.rules.specs.declared.call.Call.{Call}
use Rattle.rules.specs.declared.call.Call.TheVariants.{Enter, Cancel, Price, Cross}
use Rattle.rules.specs.Questions.{State, questions}

-- a no to the question gives a number that is not 0
abbrev pub Numbered : Question → Type 0
Numbered q = q.answer ≡ false → q.number ≡ 0 → ⊥

-- where each no would give a number and no number is given, each answer is yes
pub all_yes : (qs : List Question) → All Numbered qs → first_no qs ≡ 0 → All (λ q. q.answer ≡ true) qs
all_yes [] numbered e = tt
all_yes (q ∷ qs) numbered e = (grind (arith, numbered.0), all_yes qs numbered.1 (grind (arith, numbered.0)))

module _ {O : Type 0} (kind : Kind O) where
  -- each question of a call gives a number at a no
  pub questions_numbered : (capacity : ℕ) (st : State O) (tape : ℕ) (call : Call O) → All Numbered (questions kind capacity st tape call)
  questions_numbered capacity st tape (Enter o) =
      (λ _ e. omega arith, (λ _ e. omega arith, (λ _ e. omega arith, (eqb-false (kind.refusal o) 0, (λ _ e. omega arith, (λ _ e. omega arith, tt))))))
  questions_numbered capacity st tape (Cancel p) = (λ _ e. omega arith, (λ _ e. omega arith, tt))
  questions_numbered capacity st tape (Price None) = tt
  questions_numbered capacity st tape (Price (Some price)) = (λ _ e. omega arith, (λ _ e. omega arith, tt))
  questions_numbered capacity st tape (Cross p volume) =
      (λ _ e. omega arith, (λ _ e. omega arith, (λ _ e. omega arith, (λ _ e. omega arith, (λ _ e. omega arith, tt)))))

  -- an accepted call has a yes to each of its questions
  pub accepted_yes : (capacity : ℕ) (st : State O) (tape : ℕ) (call : Call O) → first_no (questions kind capacity st tape call) ≡ 0 → All (λ q. q.answer ≡ true) (questions kind capacity st tape call)
  accepted_yes capacity st tape call e = all_yes (questions kind capacity st tape call) (questions_numbered capacity st tape call) e

  -- an accepted entry has a folio above the highest, and all that was entered left, which is not nothing
  pub entry_accepted : (capacity : ℕ) (st : State O) (tape : ℕ) (o : O) → first_no (questions kind capacity st tape (Enter o)) ≡ 0 → (st.highest < (kind.header o).party.folio) × ((kind.header o).left ≡ (kind.header o).entered) × (0 < (kind.header o).left)
  entry_accepted capacity st tape o e =
      let all = accepted_yes capacity st tape (Enter o) e in
      let from_volume = all.1.1 in
      (grind (arith, nat_tests, all.1.0), grind (arith, nat_tests, from_volume.0), grind (arith, nat_tests, from_volume.0))

  -- an accepted cross has a folio above the highest
  pub cross_accepted : (capacity : ℕ) (st : State O) (tape : ℕ) (p : Party) (volume : ℕ) → first_no (questions kind capacity st tape (Cross p volume)) ≡ 0 → st.highest < p.folio
  cross_accepted capacity st tape p volume e = grind (arith, nat_tests, (accepted_yes capacity st tape (Cross p volume) e).1.0)
