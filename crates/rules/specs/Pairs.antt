-- Pairs of resting orders: which can trade at a price, and which comes first.
use Rattle.std.specs.Prelude.{◌≡◌, ℕ, ◌<◌, min, Bool, true, false, cond, ◌&&◌, ◌||◌, List, length, ◌==◌, slice_index_or}
use Rattle.base.specs.declared.Side.{Side}
use Rattle.base.specs.declared.Side.TheVariants.{Buy, Sell}
use Rattle.orders.specs.declared.trade.Header.{Header}
use Rattle.orders.specs.Kind.{Kind}
use Rattle.orders.specs.Ranking.{Ranking}

abbrev pub buys : Side → Bool
buys Buy = true
buys Sell = false

abbrev pub sells : Side → Bool
sells Buy = false
sells Sell = true

abbrev pub one_house : Header → Header → Bool
one_house a b = a.party.house == b.party.house

-- what is of one house comes before what is not; of two alike in this, the rank between them decides
abbrev pub own_first : Bool → Bool → Bool → Bool
own_first own other ranked = cond own (cond other ranked true) (cond other false ranked)

-- for an order, of two opposite ones: one of its own house stands before one of another house; otherwise the ranking decides
abbrev pub stands_before : Ranking → Header → Header → Header → Bool
stands_before rank order a b = own_first (one_house order a) (one_house order b) (rank.before a b)

-- the pair of buy b, at the place i, and sell s comes before the pair of buy c, at the place k, and sell t:
-- pairs of one house come first, then the buy that is before, then, for the same buy, the sell that is before
abbrev pub buy_then_sell : Ranking → ℕ → Header → Header → ℕ → Header → Header → Bool
buy_then_sell rank i b s k c t = rank.before b c || (i == k && rank.before s t)

abbrev pub comes_before : Ranking → ℕ → Header → Header → ℕ → Header → Header → Bool
comes_before rank i b s k c t = own_first (one_house b s) (one_house c t) (buy_then_sell rank i b s k c t)

-- the order that stands at a place of a list
abbrev pub Place : {X : Type 0} → List X → ℕ → X → Type 0
Place xs i x = (i < length xs) × (x ≡ slice_index_or xs i x)

module _ {O : Type 0} (kind : Kind O) where
  -- a pair's volume is the smaller of the two volumes left
  abbrev pub pair_volume : O → O → ℕ
  pair_volume b s = min (kind.header b).left (kind.header s).left

  -- a buy and a sell that both take the pair's volume at the price
  abbrev pub can_trade : ℕ → O → O → Bool
  can_trade price b s =
      (buys (kind.header b).side && sells (kind.header s).side)
      && (kind.takes b (pair_volume b s) price && kind.takes s (pair_volume b s) price)

  -- no pair of the list can trade at the price
  abbrev pub Still : ℕ → List O → Type 0
  Still price xs = (i j : ℕ) (b s : O) → Place xs i b → Place xs j s → can_trade price b s ≡ false

  -- buy b at i and sell s at j are the first pair that can trade: no pair that can trade comes before it
  pub record First (rank : Ranking) (price : ℕ) (xs : List O) (i j : ℕ) (b s : O) : Type 0 where
    pub buy_there : Place xs i b
    pub sell_there : Place xs j s
    pub trades : can_trade price b s ≡ true
    pub none_before : (k l : ℕ) (c t : O) → Place xs k c → Place xs l t → can_trade price c t ≡ true → comes_before rank k (kind.header c) (kind.header t) i (kind.header b) (kind.header s) ≡ false
