use Rattle.std.proofs.Common.{rules}
use Rattle.rules.specs.Sweep.{after_fill, something_left}
use Rattle.matching.proofs.ClosingUp.{kept_where}
use Rattle.matching.proofs.sweep.settle.Goals as goal

pub returns : goal.returns
returns g c =
    let kind = g.O.Order.kind in
    record {
      front = kept_where (after_fill kind c.args.fill.now) (something_left kind) (λ x r met. search rules) c.args.orders.now _ c.close_up.ensures.front;
      bound = c.close_up.ensures.bound;
    }
