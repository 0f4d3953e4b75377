-- The search row by row: for each buy its first sell, then the first of these pairs.
use Rattle.std.specs.Prelude.{◌≡◌, ℕ, ◌<◌, Bool, true, false, cond, List, Some, None, Option}
use Rattle.orders.specs.declared.trade.Header.{Header}
use Rattle.orders.specs.Kind.{Kind}
use Rattle.orders.specs.Ranking.{Ranking}
use Rattle.rules.specs.Pairs.{can_trade, comes_before, one_house, own_first, stands_before, Place}
use Rattle.matching.specs.declared.search.Candidate.{Candidate}
use Rattle.matching.specs.declared.search.Placed.{Placed}

-- a sell is better for a buy than the best so far, or the first
abbrev pub better : Ranking → Header → Header → Option Placed → Bool
better rank buy sell None = true
better rank buy sell (Some best) = stands_before rank buy sell best.header

-- the pair of a later row comes before the best of the rows so far: of one house first, then the buy that is before
abbrev pub earlier : Ranking → Candidate → Candidate → Bool
earlier rank new best =
    own_first (one_house new.buy.header new.sell.header) (one_house best.buy.header best.sell.header) (rank.before new.buy.header best.buy.header)

-- the better of the best so far and the pair of a row, where there is one
abbrev pub chosen : Ranking → Option Candidate → Option Candidate → Option Candidate
chosen rank best None = best
chosen rank None (Some new) = Some new
chosen rank (Some best) (Some new) = cond (earlier rank new best) (Some new) (Some best)

module _ {O : Type 0} (kind : Kind O) where
  -- the sell at best's place can trade with the buy, and none that can stands before it for the buy
  pub record BestSell (rank : Ranking) (price : ℕ) (xs : List O) (buy : O) (best : Placed) : Type 0 where
    pub sell : O
    pub there : Place xs best.place sell
    pub shows : best.header ≡ kind.header sell
    pub trades : can_trade kind price buy sell ≡ true
    pub none_before : (l : ℕ) (t : O) → Place xs l t → can_trade kind price buy t ≡ true → stands_before rank (kind.header buy) (kind.header t) best.header ≡ false

  -- the first sell for a buy, if it can trade with any
  abbrev pub FirstSell : Ranking → ℕ → List O → O → Option Placed → Type 0
  FirstSell rank price xs buy None = (l : ℕ) (t : O) → Place xs l t → can_trade kind price buy t ≡ false
  FirstSell rank price xs buy (Some best) = BestSell rank price xs buy best

  -- the first pair of one row: the order at the row's place, as the buy, and its first sell
  abbrev pub RowPair : Ranking → ℕ → List O → ℕ → O → Option Candidate → Type 0
  RowPair rank price xs place order None = FirstSell rank price xs order None
  RowPair rank price xs place order (Some new) =
      (new.buy.place ≡ place) × (new.buy.header ≡ kind.header order) × BestSell rank price xs order new.sell

  -- a pair of one of the first rows that can trade, and no pair of these rows that can comes before it
  pub record BestPair (rank : Ranking) (price : ℕ) (xs : List O) (rows : ℕ) (best : Candidate) : Type 0 where
    pub buy : O
    pub sell : O
    pub buy_there : Place xs best.buy.place buy
    pub sell_there : Place xs best.sell.place sell
    pub buyer : best.buy.header ≡ kind.header buy
    pub seller : best.sell.header ≡ kind.header sell
    pub above : best.buy.place < rows
    pub trades : can_trade kind price buy sell ≡ true
    pub none_before : (k l : ℕ) (c t : O) → k < rows → Place xs k c → Place xs l t → can_trade kind price c t ≡ true → comes_before rank k (kind.header c) (kind.header t) best.buy.place best.buy.header best.sell.header ≡ false

  -- the first pair of the first rows, if any of their pairs can trade
  abbrev pub FirstOf : Ranking → ℕ → List O → ℕ → Option Candidate → Type 0
  FirstOf rank price xs rows None = (k l : ℕ) (c t : O) → k < rows → Place xs k c → Place xs l t → can_trade kind price c t ≡ false
  FirstOf rank price xs rows (Some best) = BestPair rank price xs rows best
