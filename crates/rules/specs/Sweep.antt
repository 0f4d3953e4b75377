-- A sweep: as long as some pair can trade, the first such pair makes a fill.
use Rattle.std.specs.Prelude.{ℕ, Bool, cond, List, [], ◌∷◌, map, filter, ◌==◌, nat_lt}
use Rattle.base.specs.declared.Side.{Side}
use Rattle.base.specs.declared.Side.TheVariants.{Buy, Sell}
use Rattle.orders.specs.declared.trade.Fill.{Fill}
use Rattle.orders.specs.declared.trade.Header.{Header}
use Rattle.orders.specs.declared.trade.Party.{Party}
use Rattle.orders.specs.Kind.{Kind}
use Rattle.orders.specs.Ranking.{Ranking}
use Rattle.rules.specs.Pairs.{First, Still, pair_volume}

-- the party of a fill on one side
abbrev pub party_on : Fill → Side → Party
party_on fill Buy = fill.buyer
party_on fill Sell = fill.seller

-- the fill bears the folio of the order, on the order's side
abbrev pub bears : Fill → Header → Bool
bears fill h = (party_on fill h.side).folio == h.party.folio

module _ {O : Type 0} (kind : Kind O) where
  -- what a pair makes at a price
  abbrev pub fill_of : ℕ → O → O → Fill
  fill_of price b s =
      record {
        price = price;
        volume = pair_volume kind b s;
        buyer = (kind.header b).party;
        seller = (kind.header s).party;
      }

  -- an order after a fill: reduced by the fill's volume if it is one of the two
  abbrev pub after_fill : Fill → O → O
  after_fill fill o = cond (bears fill (kind.header o)) (kind.reduced o fill.volume) o

  abbrev pub something_left : O → Bool
  something_left o = nat_lt 0 (kind.header o).left

  -- what rests after a fill: both orders reduced, and one with nothing left gone
  abbrev pub settled : Fill → List O → List O
  settled fill xs = filter something_left (map (after_fill fill) xs)

  -- from what rests before to the fills, in the order made, and what rests after
  pub data Sweep (rank : Ranking) (price : ℕ) : List O → List Fill → List O → Type 0 where
    ends : {xs : List O} → Still kind price xs → Sweep rank price xs [] xs
    fills : {xs ys : List O} {fs : List Fill} {i j : ℕ} {b s : O} → First kind rank price xs i j b s → Sweep rank price (settled (fill_of price b s) xs) fs ys → Sweep rank price xs (fill_of price b s ∷ fs) ys
