use Rattle.std.proofs.Common.{◌-◌, ◌≤◌}
use Rattle.tapeview.proofs.read_up_to.Given as goal

abbrev pub invariant-loop-held : goal.invariant-loop-held
invariant-loop-held g l = l.held ≤ 60009

abbrev pub decreases-loop-held : goal.decreases-loop-held
decreases-loop-held g l = 60009 - l.held
