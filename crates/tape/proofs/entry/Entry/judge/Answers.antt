use Rattle.std.proofs.Common.{◌≡◌, List, Err, ap, ◌∙◌, rules, tests}
use Rattle.std.specs.Iterator.{AlwaysYields}
use Rattle.std.proofs.lemmas.Iterator.{YieldsList}
use Rattle.std.proofs.lemmas.Iterator.Search.{position_from_yields_List}
use Rattle.orders.specs.declared.trade.Fill.{Fill}
use Rattle.tape.specs.Entries.{at_first, judged}
use Rattle.tape.proofs.Scan.{fails, judged_by_position}
use Rattle.tape.proofs.entry.Entry.judge.Given.{Over}
use Rattle.tape.proofs.entry.Entry.judge.Goals.{After-position}
use Rattle.tape.proofs.entry.Entry.judge.Goals as goal

-- what was found decides the answer
found : (g : Over) (c : After-position g) (fs : List Fill) → AlwaysYields g.I.Iterator.next_gives (λ (f : Fill). f) c.args.fills fs → at_first c.args.self c.args.shape.count c.position.result ≡ judged c.args.self fs c.args.shape.count
found g c fs gives =
    let road : YieldsList g.I.Iterator.next_gives (λ (f : Fill). f) c.args.fills fs = record { runs = gives } in
    judged_by_position c.args.self c.args.shape.count fs _
    (position_from_yields_List (fails c.args.self c.args.shape.count fs) _ _ _ c.position.ensures.ran road (λ x b q k. search (rules, tests)))

pub returns-in-Some : goal.returns-in-Some
returns-in-Some g c = λ fs gives. ap Err c.fault.ensures ∙ rw c.in-Some.is at (found g (goal.at.returns-in-Some g c).After-position fs gives)

pub returns : goal.returns
returns g c = λ fs gives. rw c.in-None.is at (found g (goal.at.returns g c).After-position fs gives)
