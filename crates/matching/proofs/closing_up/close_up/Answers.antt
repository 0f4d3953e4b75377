use Rattle.std.proofs.Common.{take, refl, subst, arith}
use Rattle.std.proofs.lemmas.Fn.{says_at}
use Rattle.std.proofs.lemmas.Grind.{common_steps}
use Rattle.matching.specs.ClosingUp.{KeptAs}
use Rattle.matching.proofs.ClosingUp.{left_out, put_behind}
use Rattle.matching.proofs.closing_up.close_up.Goals as goal
use Rattle.matching.proofs.closing_up.close_up.Goals.{in-Some, in_default}

pub loop-place-preserved : goal.loop-place-preserved
loop-place-preserved g c =
    let xs = c.args.items.now in
    let ys = c.loop-place.items in
    let before = c.loop-place.invariant in
    let answer = says_at g.F.Fn c.keep.ensures refl in
    elim c.match-keep.branch [
      | in-Some w ↦
          record {
            front =
                rw (w.items-is, w.end-is)
                (put_behind g.F.Fn c.args.keep xs ys c.loop-place.end c.loop-place.place c.index-items-place.result c.keep.result c.loop-place-test.true c.loop-place.auto.items
                before.front before.rest answer w.in-Some.item before.behind w.in-Some.is);
            rest = grind (arith, common_steps);
            behind = omega (arith, before.behind, w.end-is);
          }
      | in_default w ↦
          record {
            front =
                rw (w.items-is, w.end-is)
                (left_out g.F.Fn c.args.keep xs ys c.loop-place.end c.loop-place.place c.index-items-place.result c.keep.result c.loop-place-test.true c.loop-place.auto.items
                before.front before.rest answer w.in_default.is);
            rest = grind (arith, common_steps);
            behind = omega (arith, before.behind, w.end-is);
          }
    ]

pub returns-clause-front : goal.returns-clause-front
returns-clause-front g c =
    subst (λ xs. KeptAs g.F.Fn c.args.keep xs (take c.loop-place.end c.loop-place.items)) (grind (arith, common_steps)) c.loop-place.invariant.front
