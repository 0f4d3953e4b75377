use Rattle.std.proofs.Common.{inr}
use Rattle.std.proofs.lemmas.Result.{IfOk-weaker}
use Rattle.arguments.proofs.run_on_board.Goals as goal

pub returns-in-Some : goal.returns-in-Some
returns-in-Some g c = IfOk-weaker c.run_on.result _ _ (λ code ran. inr (c.in-Some.board, ran)) c.run_on.ensures
