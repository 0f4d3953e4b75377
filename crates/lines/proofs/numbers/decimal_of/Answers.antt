use Rattle.std.proofs.Common.{◌≢◌, ◌<◌, length, get_or, arith, rules}
use Rattle.lines.proofs.Digits.{digits_utf8, leading_zero, not_parsed, parsed, Ok-from_some, Err-from_none}
use Rattle.lines.proofs.numbers.decimal_of.Goals as goal
use Rattle.lines.proofs.numbers.decimal_of.Goals.{then-digits-lt2, else-digits-lt2+in_default-1}

pub returns-in-48 : goal.returns-in-48
returns-in-48 c = leading_zero c.args.digits.now c.in-48.len_at_least (search rules)

pub returns-in_err-ok : goal.returns-in_err-ok
returns-in_err-ok c =
    let failed = Err-from_none c.from_utf8.result c.in_err-ok.ensures.value in
    let told = rw failed.1 at c.from_utf8.ensures.cases in
    absurd (told.0 (digits_utf8 c.args.digits.now c.requires))

pub returns-in-Ok : goal.returns-in-Ok
returns-in-Ok c =
    let ds = c.args.digits.now in
    let text = rw (Ok-from_some c.from_utf8.result c.in_ok-ok.field-0 c.in_ok-ok.ensures.value) at c.from_utf8.ensures.cases in
    let no_zero : 1 < length ds → get_or ds 0 0 ≢ 48 =
    λ long.
    elim c.if-digits-lt2.branch [
      | then-digits-lt2 w ↦ search (rules, arith)
      | else-digits-lt2+in_default-1 w ↦ search (rules, arith)
    ]
    in
    let told = parsed ds c.parse.result c.requires no_zero (rw text.0 at c.parse.ensures.value.0) in
    rw c.in-Ok.is at told

pub returns-in-Err : goal.returns-in-Err
returns-in-Err c =
    let text = rw (Ok-from_some c.from_utf8.result c.in_ok-ok.field-0 c.in_ok-ok.ensures.value) at c.from_utf8.ensures.cases in
    let reads = rw text.0 at c.parse.ensures.value.0 in
    not_parsed c.args.digits.now c.in-Err.field-0 c.requires (rw c.in-Err.is at reads)
