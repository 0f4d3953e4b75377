-- The first pair that can trade makes a fill in turn.
use Rattle.std.proofs.Common.{◌≡◌, ℕ, List, Some, sym, refl, ◌∙◌, arith}
use Rattle.std.proofs.lemmas.Bool.{eq-eqb}
use Rattle.std.proofs.lemmas.Bool.Decides.{nat_tests}
use Rattle.orders.specs.declared.trade.Header.{Header}
use Rattle.orders.specs.Kind.{Kind}
use Rattle.orders.specs.Ranking.{Ranking}
use Rattle.rules.specs.Pairs.{First, comes_before, stands_before}
use Rattle.rules.specs.Sweep.{fill_of}
use Rattle.rules.specs.Promises.{InTurn}

-- of two pairs with one buy, the one whose sell stands before for it comes first
pub sells_compared : (rank : Ranking) (i : ℕ) (b t s : Header) → comes_before rank i b t i b s ≡ stands_before rank b t s
sells_compared rank i b t s = grind (arith, rank.irreflexive b, eq-eqb i i refl)

-- of two pairs with one sell, the one whose buy stands before for it comes first
pub buys_compared : (rank : Ranking) (k i : ℕ) (c b s : Header) → comes_before rank k c s i b s ≡ stands_before rank s c b
buys_compared rank k i c b s = grind (arith, rank.irreflexive s, nat_tests)

module _ {O : Type 0} (kind : Kind O) where
  -- the fill of the first pair is in turn
  pub first_in_turn : {rank : Ranking} {price : ℕ} {xs : List O} {i j : ℕ} {b s : O} → First kind rank price xs i j b s → InTurn kind rank (Some price) xs (fill_of kind price b s)
  first_in_turn {rank} {price} {xs} {i} {j} {b} {s} first =
      record {
        buy = b;
        buy_place = i;
        buy_rested = first.buy_there;
        sell = s;
        sell_place = j;
        sell_rested = first.sell_there;
        buyer = refl;
        seller = refl;
        at_price = refl;
        of_volume = refl;
        could_trade = first.trades;
        no_sell_passed = λ l third there can.
            sym (sells_compared rank i (kind.header b) (kind.header third) (kind.header s))
            ∙ first.none_before i l b third first.buy_there there can;
        no_buy_passed = λ k third there can.
            sym (buys_compared rank k i (kind.header third) (kind.header b) (kind.header s))
            ∙ first.none_before k j third s there first.sell_there can;
      }
