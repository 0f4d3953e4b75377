use Rattle.std.proofs.Common.{◌≤◌, length, refl, arith}
use Rattle.std.proofs.lemmas.List.{take_more_set}
use Rattle.rules.specs.Calls.{cross_fill}
use Rattle.book.proofs.open.OpenBook.cross.Goals as goal

pub returns-clause-called : goal.returns-clause-called
returns-clause-called g c =
    let asked = c.in_ok-price.ensures in
    let room : 1 ≤ length c.args.tape.now = grind arith in
    record {
      right = (asked.asked, (c.in_ok-price.price, asked.made, take_more_set c.args.tape.now 0 (cross_fill c.in_ok-price.price c.args.party c.args.volume) (omega (arith, room))));
      state = refl;
    }
