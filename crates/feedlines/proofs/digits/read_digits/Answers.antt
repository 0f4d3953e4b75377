use Rattle.std.proofs.Common.{sym, ◌∙◌, arith}
use Rattle.std.proofs.lemmas.List.{length-set}
use Rattle.feedlines.proofs.Spelled.{spelled_more}
use Rattle.feedlines.proofs.digits.read_digits.Goals as goal

pub loop-place-preserved : goal.loop-place-preserved
loop-place-preserved c =
    let message = c.loop-place.message in
    let place = c.loop-place.place in
    let byte = c.in_ok-byte.byte in (
      length-set message place byte ∙ c.loop-place.invariant.0,
      spelled_more c.args.digits.now message place byte (omega (arith, c.loop-place-test.true, c.loop-place.invariant.0)) c.loop-place.invariant.1 (sym c.byte_of.ensures ∙ c.in_ok-byte.was),
    )
