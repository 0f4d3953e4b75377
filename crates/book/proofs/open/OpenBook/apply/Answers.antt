use Rattle.std.proofs.Common.{length, rules}
use Rattle.book.proofs.Days.{goes_on}
use Rattle.book.proofs.open.OpenBook.apply.Goals as goal

pub returns-in-Cancel-clause-called : goal.returns-in-Cancel-clause-called
returns-in-Cancel-clause-called g c =
    let called = c.cancel.ensures.called (length c.args.tape.now) in search rules

pub returns-in-Cancel-clause-day : goal.returns-in-Cancel-clause-day
returns-in-Cancel-clause-day g c =
    let called = c.cancel.ensures.called (length c.args.tape.now) in
    goes_on g.O.Order.kind g.P.Priority.ranking c.args.self.now _ c.args.call (length c.args.tape.now) _ (search rules) c.cancel.ensures.table
