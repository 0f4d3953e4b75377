-- A call carries a day on.
use Rattle.std.proofs.Common.{ℕ, ◌∷◌, sym, ap, ◌∙◌, subst}
use Rattle.law.proofs.Days.{every_lawful_day_keeps}
use Rattle.orders.specs.Kind.{Kind}
use Rattle.orders.specs.Ranking.{Ranking}
use Rattle.rules.specs.declared.call.Call.{Call}
use Rattle.rules.specs.Calls.{Outcome, Right, state_after}
use Rattle.rules.specs.Day.{Day, Lawful}
use Rattle.rules.specs.Questions.{State, capacity_of}
use Rattle.book.specs.declared.open.OpenBook.{OpenBook}
use Rattle.book.specs.Called.{Called}
use Rattle.book.specs.Holding.{GoesOn, Holds, event}
use Rattle.book.specs.View.{SameTable, places}

module _ {O P : Type 0} (kind : Kind O) (rank : Ranking) where
  pub goes_on : (book after : OpenBook O P) (call : Call O) (tape : ℕ) (out : Outcome) → Called kind rank book call tape out after → SameTable book after → (day : Day O) → Holds kind book day → GoesOn kind after (event rank call tape out) day
  goes_on book after call tape out called same day holds =
      let e = event rank call tape out in
      let right = subst (λ (st : State O). Right kind rank (capacity_of (places book)) st tape call out) holds.state called.right in
      let lawful : Lawful kind (capacity_of (places book)) (e ∷ day) = (right, holds.lawful) in
      record {
        holds = record {
          lawful = subst (λ (n : ℕ). Lawful kind (capacity_of n) (e ∷ day)) (sym same.long) lawful;
          state = called.state ∙ ap (λ st. state_after kind st call out) holds.state;
        };
        kept = every_lawful_day_keeps kind (capacity_of (places book)) (e ∷ day) lawful;
      }
