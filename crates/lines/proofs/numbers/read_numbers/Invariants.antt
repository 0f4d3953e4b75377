use Rattle.lines.proofs.Readings.{Sofar}
use Rattle.lines.proofs.numbers.read_numbers.Given as goal

abbrev pub invariant-loop-place : goal.invariant-loop-place
invariant-loop-place g l = Sofar g.row.N l.bytes l.place-items l.place-index l.rest
