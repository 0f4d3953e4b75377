use Rattle.std.proofs.Common.{◌-◌, ◌≤◌}
use Rattle.midpoint.proofs.next_message.Given as goal

abbrev pub invariant-loop-held : goal.invariant-loop-held
invariant-loop-held g l = l.held ≤ 24

abbrev pub decreases-loop-held : goal.decreases-loop-held
decreases-loop-held g l = 24 - l.held
