use Rattle.std.proofs.Common.{leb, length, arith}
use Rattle.std.proofs.lemmas.Bool.{cond-true, le-leb}
use Rattle.book.proofs.Running.{ran, running_more}
use Rattle.book.proofs.day.run_day.Goals as goal

pub loop-place-preserved : goal.loop-place-preserved
loop-place-preserved g c =
    let run = c.loop-place.invariant in
    let reply = c.apply-reply in
    running_more
    run
    reply.new.self
    reply.new.tape
    _
    reply.result
    _
    c.fills_told-used.ensures
    c.loop-place-test.true
    (omega (arith, run.replies_long))
    c.index-calls-place.is
    reply.auto.tape
    reply.ensures.tape
    reply.ensures.table
    reply.ensures.day

pub returns-clause-ran : goal.returns-clause-ran
returns-clause-ran g c = (
  cond-true (leb (length c.args.calls.now) (length c.args.replies.now)) 0 12 (le-leb (length c.args.calls.now) (length c.args.replies.now) c.if-replies-calls.false),
  ran c.loop-place.invariant (omega (arith, c.loop-place-test.false, c.loop-place.auto.place-end)),
)
