use Rattle.std.proofs.Common.{◌≡◌, length, rules}
use Rattle.base.specs.Questions.{first_no}
use Rattle.tape.specs.Asked.{read_questions}
use Rattle.tape.proofs.Answered.{fills_read}
use Rattle.tape.proofs.reading.read_block.Goals as goal

pub returns : goal.returns
returns c =
    let bs = c.args.bytes.now in
    let block = c.in_ok-block.ensures in
    let asked : first_no (read_questions bs (length c.args.list.now)) ≡ 0 = search rules in
    fills_read bs c.args.list.now _ _ (λ i. (c.type_inv.bytes i).fits) block.1 asked
    (rw block.0 at c.put.ensures.front)
    c.put.ensures.behind
