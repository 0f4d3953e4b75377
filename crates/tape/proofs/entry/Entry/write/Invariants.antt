use Rattle.tape.specs.Entries.{entry_bytes, entry_size}
use Rattle.tape.proofs.Entries.{WrittenTo}
use Rattle.tape.proofs.entry.Entry.write.Given as goal

abbrev pub invariant-loop-place : goal.invariant-loop-place
invariant-loop-place l = WrittenTo (entry_bytes l.self) (entry_size l.self) l.fills l.part l.place
