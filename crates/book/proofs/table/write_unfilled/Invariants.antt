use Rattle.std.proofs.Common.{◌≡◌, map, take, drop}
use Rattle.book.specs.Closed.{unfilled_of}
use Rattle.book.proofs.table.write_unfilled.Given as goal

abbrev pub invariant-loop-place : goal.invariant-loop-place
invariant-loop-place g l =
    record {
      front : take l.place l.list ≡ map (unfilled_of g.O.Order.kind) (take l.place l.orders);
      behind : drop l.place l.list ≡ drop l.place l.initial.list;
    }
