use Rattle.law.proofs.Days.{every_lawful_day_keeps}
use Rattle.law.proofs.every_lawful_day_keeps.Goals as goal

pub returns : goal.returns
returns g c = every_lawful_day_keeps g.O.Order.kind
