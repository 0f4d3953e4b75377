use Rattle.std.proofs.Common.{take}
use Rattle.matching.specs.Rows.{FirstSell}
use Rattle.matching.proofs.search.first_sell.Given as goal

-- the best so far is the first sell of the orders read so far
abbrev pub invariant-loop-place : goal.invariant-loop-place
invariant-loop-place g l =
    FirstSell g.O.Order.kind g.P.Priority.ranking l.price (take l.place l.orders) l.buy.order l.best
