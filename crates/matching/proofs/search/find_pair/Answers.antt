use Rattle.std.proofs.Common.{◌≡◌, rules}
use Rattle.std.specs.Option.{option_map}
use Rattle.matching.specs.declared.search.Candidate.{Candidate}
use Rattle.matching.proofs.FirstPair.{first_of_all, row_more}
use Rattle.matching.proofs.search.find_pair.Goals as goal

pub loop-place-preserved : goal.loop-place-preserved
loop-place-preserved g c =
    let kind = g.O.Order.kind in
    let rank = g.P.Priority.ranking in
    let xs = c.args.orders.now in
    let n = c.loop-place.place in
    rw c.better_pair-best.ensures
    (row_more kind rank c.args.price xs n c.index-orders-place.result c.loop-place.best c.row_pair.result (c.loop-place-test.true, c.index-orders-place.is) c.row_pair.ensures c.loop-place.invariant)

pub returns : goal.returns
returns g c =
    let places : c.map.result ≡ option_map (λ (pair : Candidate). (pair.buy.place, pair.sell.place)) c.loop-place.best = search rules in
    rw places (first_of_all g.O.Order.kind g.P.Priority.ranking c.args.price c.args.orders.now c.loop-place.place c.loop-place.best c.loop-place-test.false c.loop-place.invariant)
