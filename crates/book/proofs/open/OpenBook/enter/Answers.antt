use Rattle.std.proofs.Common.{◌<◌, length, refl, rules}
use Rattle.std.proofs.lemmas.List.{take_more_set}
use Rattle.book.proofs.Made.{swept_on}
use Rattle.rules.specs.declared.call.Call.TheVariants.{Enter}
use Rattle.book.proofs.open.OpenBook.enter.Goals as goal

pub returns-clause-called : goal.returns-clause-called
returns-clause-called g c =
    let book = c.args.self.now in
    let within : book.resting < length book.table.now = search rules in
    let joined = take_more_set book.table.now book.resting c.args.order within in
    let swept = c.sweep.ensures in
    swept_on g.O.Order.kind g.P.Priority.ranking book _ _ _ _ _ swept.swept (Enter c.args.order) (search rules) joined swept.in_force (search rules) refl (_, rw joined at swept.swept)
