use Rattle.std.proofs.Common.{refl, rules}
use Rattle.book.proofs.Made.{swept_at, swept_on}
use Rattle.rules.specs.declared.call.Call.TheVariants.{Price}
use Rattle.book.proofs.open.OpenBook.set_price.Goals as goal

pub returns-clause-called : goal.returns-clause-called
returns-clause-called g c =
    let swept = c.sweep-fills.ensures in
    swept_on g.O.Order.kind g.P.Priority.ranking c.args.self.now _ _ _ _ _ swept.swept (Price c.args.price) (search rules) refl (search rules) swept.highest refl (_, swept_at g.O.Order.kind g.P.Priority.ranking _ _ _ _ c.args.price swept.swept (search rules))
