use Rattle.std.proofs.Common.{◌^◌, ◌<◌, replicate, rules}
use Rattle.std.proofs.lemmas.List.{length-replicate}
use Rattle.lines.proofs.Readings.{none_read, one_more, no_more, all_read}
use Rattle.lines.proofs.numbers.read_numbers.Goals as goal

pub loop-place-init : goal.loop-place-init
loop-place-init g c = none_read g.row.N c.args.bytes.now (replicate g.row.N 0) (length-replicate g.row.N 0)

pub loop-place-preserved : goal.loop-place-preserved
loop-place-preserved g c =
    let fits : c.in_ok-place.field-0-0 < 2 ^ 32 = search rules in
    one_more c.loop-place.invariant c.loop-place-test.true c.in_ok-place.field-0-0 c.in_ok-place.field-0-1.now fits c.in_ok-place.ensures.0 c.in_ok-place.ensures.1

pub returns-in_err-place : goal.returns-in_err-place
returns-in_err-place g c =
    rw c.from_residual.ensures (no_more c.loop-place.invariant c.loop-place-test.true c.in_err-place.ensures)

pub returns : goal.returns
returns g c =
    rw c.then_some.ensures (all_read c.loop-place.invariant c.is_empty.result c.is_empty.ensures c.loop-place-test.false)
