use Rattle.worked.proofs.LawfulDay.{a_lawful_day}
use Rattle.worked.proofs.a_lawful_day.Goals as goal

pub returns : goal.returns
returns c = a_lawful_day
