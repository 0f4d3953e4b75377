use Rattle.std.proofs.Common.{rules, arith}
use Rattle.std.proofs.lemmas.Iterator.{YieldsList-from_map, YieldsList-from_range}
use Rattle.std.proofs.lemmas.Iterator.Consumers.{YieldsList-at}
use Rattle.tape.specs.Asked.{fills_in}
use Rattle.tape.specs.Block.{fill_at}
use Rattle.tape.proofs.reading.Block.judge.Goals as goal

pub returns : goal.returns
returns c =
    let bs = c.args.self.now.bytes.now in
    let n = c.args.self.now.shape.count in
    c.judge.ensures (fills_in bs n)
    (YieldsList-from_map _ (fill_at bs n) (YieldsList-at c.map.ensures.source (YieldsList-from_range 0 n n (cc) (omega arith))) c.map.ensures.closure (λ x r q k. search rules)).runs
