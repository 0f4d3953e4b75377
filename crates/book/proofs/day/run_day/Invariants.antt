use Rattle.book.proofs.Running.{Running}
use Rattle.book.proofs.day.run_day.Given as goal

abbrev pub invariant-loop-place : goal.invariant-loop-place
invariant-loop-place g l =
    Running
    g.O.Order.kind
    g.P.Priority.ranking
    l.calls
    l.initial.replies
    l.initial.tape
    l.initial.book
    l.book
    l.replies
    l.tape
    l.used
    l.place
