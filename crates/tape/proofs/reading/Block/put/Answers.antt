use Rattle.std.proofs.Common.{◌≡◌, length, drop, ◌∙◌, arith, rules}
use Rattle.std.proofs.lemmas.List.Edits.{fill_by_more}
use Rattle.std.proofs.lemmas.List.FromFn.{fill_by_all}
use Rattle.std.proofs.lemmas.List.{length-take-le, take_at}
use Rattle.tape.specs.Block.{fill_at}
use Rattle.tape.proofs.reading.Block.put.Goals as goal

pub loop-place-preserved : goal.loop-place-preserved
loop-place-preserved c =
    let f = fill_at c.args.self.now.bytes.now c.args.self.now.shape.count in
    let read : c.fill.result ≡ f c.loop-place.place = search rules in
    λ d. rw read (fill_by_more f c.loop-place.slot-items c.loop-place.place d (omega (arith, c.loop-place-test.true)) (c.loop-place.invariant d))

pub returns-clause-front : goal.returns-clause-front
returns-clause-front c =
    let n = c.args.self.now.shape.count in
    let f = fill_at c.args.self.now.bytes.now n in
    let slots = c.loop-place.slot-items in
    let long : length slots ≡ n = c.loop-place.auto.slot-items ∙ length-take-le n c.args.list.now c.requires in
    take_at slots (drop n c.args.list.now) n long
    ∙ fill_by_all f slots n (f 0) long (λ k h. c.loop-place.invariant (f 0) k (omega (arith, c.loop-place-test.false)))
