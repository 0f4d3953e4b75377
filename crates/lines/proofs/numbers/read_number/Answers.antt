use Rattle.std.proofs.Common.{drop, sym, ap, ◌∙◌}
use Rattle.lines.proofs.Readings.{same_number}
use Rattle.lines.proofs.numbers.read_number.Goals as goal

-- the digits behind the space are those of no number, so no number stands there
pub returns-in_err-n : goal.returns-in_err-n
returns-in_err-n c =
    rw c.from_residual-in_err-n.ensures (
    λ n behind small stops e.
    let cut = c.split_digits.ensures in
    let same = sym cut.whole ∙ c.in_ok-strip_prefix.ensures.cases.1 ∙ ap (drop 1) e in
    c.in_err-n.ensures n small (same_number c.split_digits.result.0.now n c.split_digits.result.1.now behind cut.digits small cut.stops stops same).0
    )
