use Rattle.std.proofs.Common.{max, Some, arith, rules}
use Rattle.base.specs.declared.Side.TheVariants.{Buy}
use Rattle.quotes.proofs.Ticked.{side_ticked}
use Rattle.quotes.proofs.board.Quotes.bid.Goals as goal

pub returns-in-Some-Some-clause-sound : goal.returns-in-Some-Some-clause-sound
returns-in-Some-Some-clause-sound c =
    side_ticked c.args.self.now.security max (λ p q. grind arith) c.args.self.now.rows c.args.self.now.sound Buy (Some c.max.result) (search rules)

pub returns-in_default-clause-sound : goal.returns-in_default-clause-sound
returns-in_default-clause-sound c =
    side_ticked c.args.self.now.security max (λ p q. grind arith) c.args.self.now.rows c.args.self.now.sound Buy _ (search rules)
