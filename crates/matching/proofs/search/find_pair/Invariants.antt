use Rattle.matching.specs.Rows.{FirstOf}
use Rattle.matching.proofs.search.find_pair.Given as goal

-- the best so far is the first pair of the rows read so far
abbrev pub invariant-loop-place : goal.invariant-loop-place
invariant-loop-place g l =
    FirstOf g.O.Order.kind g.P.Priority.ranking l.price l.orders l.place l.best
