use Rattle.std.proofs.Common.{Ok, Err, refl, ap, ◌∙◌, inr, rules}
use Rattle.std.proofs.lemmas.List.{take_rest}
use Rattle.std.proofs.lemmas.Result.{err_from_is_err_and}
use Rattle.feed.proofs.Handing.{handed_on}
use Rattle.feed.proofs.call.feed.Goals as goal

pub returns-in_err-fills : goal.returns-in_err-fills
returns-in_err-fills g c =
    let laid = c.in_ok-copy.ensures in
    let refused = c.in_err-fills.ensures in
    let told = err_from_is_err_and c.from_residual-in_err-fills.result c.from_residual-in_err-fills.ensures.1 in
    rw (told.1, told.2) (inr (handed_on c.in_ok-copy.copy.rows _ (Err c.in_err-fills.field-0.0) laid.1 (search rules) refused.called refused.tape refused.table refused.refused refl refl))

pub returns : goal.returns
returns g c =
    let laid = c.in_ok-copy.ensures in
    let made = c.in_ok-fills.ensures in
    let is = c.replace.ensures in
    inr (
    handed_on
    c.in_ok-copy.copy.rows
    _
    (Ok c.in_ok-fills.fills)
    laid.1
    (search rules)
    made.called
    made.tape
    made.table
    made.refused
    (refl, search (rules, take_rest))
    (is.0, ap (λ q. q.security) is.1 ∙ laid.0, ap (λ q. q.rows) is.1)
    )
