use Rattle.std.proofs.Common.{arith}
use Rattle.matching.proofs.Filled.{filled_first}
use Rattle.matching.proofs.sweep.fill_first.Goals as goal

pub returns : goal.returns
returns g c =
    let found = c.in_ok-buy.ensures in
    let left = c.settle-left.ensures in
    filled_first
    g.O.Order.kind
    g.P.Priority.ranking
    c.args.price
    c.args.orders.now
    c.settle-left.new.orders
    c.settle-left.result
    c.in_ok-buy.buy
    c.in_ok-buy.sell
    found.0
    found.1
    c.index-orders-buy.result
    c.index-orders-sell.result
    c.fill_of-fill.result
    found.2
    c.index-orders-buy.is
    c.index-orders-sell.is
    c.fill_of-fill.ensures
    left.front
    (omega (arith, left.bound))
