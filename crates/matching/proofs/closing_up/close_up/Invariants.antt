use Rattle.std.proofs.Common.{◌≡◌, ◌≤◌, take, drop}
use Rattle.matching.specs.ClosingUp.{KeptAs}
use Rattle.matching.proofs.closing_up.close_up.Given as goal

-- the front has what is kept of the items asked about so far, and the others stand as they did
abbrev pub invariant-loop-place : goal.invariant-loop-place
invariant-loop-place g l =
    record {
      front : KeptAs g.F.Fn l.keep (take l.place l.initial.items) (take l.end l.items);
      rest : drop l.place l.items ≡ drop l.place l.initial.items;
      behind : l.end ≤ l.place;
    }
