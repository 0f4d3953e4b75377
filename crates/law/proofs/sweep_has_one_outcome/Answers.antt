use Rattle.law.proofs.Outcomes.{one_outcome}
use Rattle.law.proofs.sweep_has_one_outcome.Goals as goal

pub returns : goal.returns
returns g c = one_outcome g.O.Order.kind
