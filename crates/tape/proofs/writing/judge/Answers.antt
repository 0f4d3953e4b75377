use Rattle.std.proofs.lemmas.Iterator.{YieldsList-from_slice}
use Rattle.std.proofs.lemmas.Iterator.Consumers.{YieldsList-from_copied}
use Rattle.tape.proofs.writing.judge.Goals as goal

pub returns : goal.returns
returns c =
    let fs = c.args.fills.now in
    rw c.requires at c.judge.ensures fs (YieldsList-from_copied (YieldsList-from_slice fs cc)).runs
