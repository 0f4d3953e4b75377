use Rattle.std.proofs.Common.{◌≡◌, ◌&&◌, cond, Some, arith}
use Rattle.rules.specs.Pairs.{can_trade}
use Rattle.matching.specs.Rows.{better}
use Rattle.matching.proofs.Rows.{sell_more}
use Rattle.matching.proofs.search.first_sell.Goals as goal
use Rattle.matching.proofs.search.first_sell.Goals.{then-can_trade+then-is_better, else-can_trade, else-can_trade-via-then-can_trade+else-is_better, else-can_trade-via-else-can_trade}

pub loop-place-preserved : goal.loop-place-preserved
loop-place-preserved g c =
    let kind = g.O.Order.kind in
    let rank = g.P.Priority.ranking in
    let buy = c.args.buy.now.order in
    let x = c.index-orders-place.result in
    let i = c.loop-place.place in
    let best = c.loop-place.best in
    let now : c.if-can_trade.best ≡ cond (can_trade kind c.args.price buy x && better rank (kind.header buy) (kind.header x) best) (Some (record { place = i; header = kind.header x })) best =
    elim c.if-can_trade.branch [
      | then-can_trade+then-is_better w ↦ grind arith
      | else-can_trade w ↦ elim w.else-can_trade.branch [ else-can_trade-via-then-can_trade+else-is_better w' ↦ grind arith | else-can_trade-via-else-can_trade w' ↦ grind arith ]
    ] in
    sell_more kind rank c.args.price buy c.args.orders.now i x best c.if-can_trade.best c.loop-place-test.true c.index-orders-place.is now c.loop-place.invariant
