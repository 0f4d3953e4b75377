use Rattle.quotes.proofs.Ticked.{laid_ticked}
use Rattle.quotes.proofs.board.Quotes.with_update.Goals as goal

pub invariant_of-result : goal.invariant_of-result
invariant_of-result c =
    let q = c.args.self in
    let u = c.args.update in
    record { sound = rw c.with_quote.ensures (laid_ticked q.security q.rows u.origin u.side u.quote q.sound c.requires) }
