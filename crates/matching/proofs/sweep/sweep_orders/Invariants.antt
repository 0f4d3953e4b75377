use Rattle.matching.proofs.Going.{Going}
use Rattle.matching.proofs.sweep.sweep_orders.Given as goal

abbrev pub invariant-loop-fill : goal.invariant-loop-fill
invariant-loop-fill g l =
    Going g.O.Order.kind g.P.Priority.ranking l.price l.initial.orders l.initial.tape l.orders l.tape l.fills l.resting

abbrev pub decreases-loop-fill : goal.decreases-loop-fill
decreases-loop-fill g l = l.resting
