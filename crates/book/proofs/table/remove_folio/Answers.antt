use Rattle.std.proofs.Common.{filter, ap, ◌∙◌, rules}
use Rattle.std.proofs.lemmas.List.{map-id}
use Rattle.matching.proofs.ClosingUp.{kept_where}
use Rattle.rules.specs.Calls.{other_folio}
use Rattle.book.proofs.table.remove_folio.Goals as goal

pub returns-clause-front : goal.returns-clause-front
returns-clause-front g c =
    let other = other_folio g.O.Order.kind c.args.folio in
    kept_where (λ o. o) other (λ x r met. search rules) c.args.orders.now _ c.close_up.ensures.front ∙ ap (filter other) (map-id c.args.orders.now)
