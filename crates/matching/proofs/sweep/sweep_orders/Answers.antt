use Rattle.std.proofs.Common.{arith}
use Rattle.matching.proofs.Going.{going_more, swept_in_place}
use Rattle.matching.proofs.sweep.sweep_orders.Goals as goal

pub loop-fill-preserved : goal.loop-fill-preserved
loop-fill-preserved g c =
    going_more g.O.Order.kind g.P.Priority.ranking c.args.price c.args.orders.now c.loop-fill.orders c.args.tape.now c.loop-fill.tape c.loop-fill.fills c.loop-fill.resting
    c.loop-fill.auto.orders c.loop-fill.auto.tape (omega arith) c.loop-fill.invariant c.fill_first.new.orders c.in-Some.left c.in-Some.fill c.in-Some.ensures c.fill_first.auto.orders

pub returns : goal.returns
returns g c =
    let none = c.in_default.ensures in
    swept_in_place g.O.Order.kind g.P.Priority.ranking c.args.price c.args.orders.now c.loop-fill.orders c.args.tape.now c.loop-fill.tape c.loop-fill.fills c.loop-fill.resting
    c.loop-fill.auto.orders c.loop-fill.auto.tape (omega arith) c.loop-fill.invariant c.fill_first.new.orders none.0 none.1
