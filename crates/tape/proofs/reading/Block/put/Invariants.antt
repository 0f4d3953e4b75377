use Rattle.std.proofs.Common.{◌≡◌, ℕ, ◌<◌, get_or}
use Rattle.orders.specs.declared.trade.Fill.{Fill}
use Rattle.tape.specs.Block.{fill_at}
use Rattle.tape.proofs.reading.Block.put.Given as goal

abbrev pub invariant-loop-place : goal.invariant-loop-place
invariant-loop-place l = (d : Fill) (k : ℕ) → k < l.place → get_or l.slot-items k d ≡ fill_at l.self.bytes.now l.self.shape.count k
