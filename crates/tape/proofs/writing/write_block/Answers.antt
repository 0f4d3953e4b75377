use Rattle.std.proofs.Common.{◌≡◌, length, arith, rules}
use Rattle.base.specs.Questions.{first_no}
use Rattle.tape.specs.Asked.{write_questions}
use Rattle.tape.specs.declared.entry.Entry.TheVariants.{Who, What}
use Rattle.tape.proofs.Scan.{every_good}
use Rattle.tape.proofs.Answered.{block_written}
use Rattle.tape.proofs.writing.write_block.Goals as goal

pub returns : goal.returns
returns c =
    let fs = c.args.fills.now in
    let before = c.args.buffer.now in
    let counted = c.in_ok-shape.ensures in
    let few = rw counted at c.in_ok-shape.shape.few in
    let who = every_good Who (length fs) fs c.in_ok-judge.ensures in
    let what = every_good What (length fs) fs c.in_ok-judge-2.ensures in
    let asked : first_no (write_questions fs (length before)) ≡ 0 = search rules in
    block_written fs few who what before _ _ _ _ _ _ _
    asked
    (omega arith)
    (omega (arith, c.if-buffer-end.false))
    (omega arith)
    (omega arith)
    (omega arith)
    (rw counted at c.put_two.ensures)
    c.write.ensures
    c.write-2.ensures
