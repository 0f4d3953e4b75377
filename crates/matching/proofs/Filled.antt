-- One step of a sweep, as the code has it: x and y are what was read at the places of the first pair.
use Rattle.std.proofs.Common.{◌≡◌, ℕ, ◌<◌, ◌≤◌, List, length, get_or, take, sym, ap, ◌∙◌, subst, ap₂, arith}
use Rattle.std.proofs.lemmas.List.{length-take-le}
use Rattle.orders.specs.declared.trade.Fill.{Fill}
use Rattle.orders.specs.Kind.{Kind}
use Rattle.orders.specs.Ranking.{Ranking}
use Rattle.rules.specs.Pairs.{First}
use Rattle.rules.specs.Sweep.{fill_of, settled}
use Rattle.law.proofs.Places.{same_place}
use Rattle.matching.specs.Sweeping.{FilledFirst}
use Rattle.matching.proofs.Shorter.{shorter, two_orders}

pub filled_first : {O : Type 0} (kind : Kind O) (rank : Ranking) (price : ℕ) (xs after : List O) (n i j : ℕ) (b s x y : O) (f : Fill) → First kind rank price xs i j b s → x ≡ get_or xs i x → y ≡ get_or xs j y → f ≡ fill_of kind price x y → take n after ≡ settled kind f xs → n ≤ length after → FilledFirst kind rank price xs after f n
filled_first kind rank price xs after n i j b s x y f first buy sell made front fits =
    let its_buy = same_place xs i x b (first.buy_there.0, buy) first.buy_there in
    let its_sell = same_place xs j y s (first.sell_there.0, sell) first.sell_there in
    let is : f ≡ fill_of kind price b s = made ∙ ap₂ (fill_of kind price) its_buy its_sell in
    let short : length (settled kind f xs) < length xs = subst (λ q. length (settled kind q xs) < length xs) (sym is) (shorter kind rank price xs i j b s first) in
    record {
      i = i;
      j = j;
      buy = b;
      sell = s;
      first = first;
      made = is;
      front = front;
      fewer = omega (arith, ap length front, length-take-le n after fits);
      two = two_orders kind rank price xs i j b s first;
    }
