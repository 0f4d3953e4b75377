use Rattle.std.proofs.Common.{refl}
use Rattle.orders.proofs.OneFault.{same_number}
use Rattle.orders.proofs.fault.OwnFaultFromU32.from.Goals as goal

-- src/fault.rt:29:5
pub returns-in_default : goal.returns-in_default
returns-in_default c = (refl, λ other same. same_number other _ same)
