-- The promises that every lawful day keeps after each of its calls.
use Rattle.std.specs.Prelude.{◌≡◌, ℕ, ◌+◌, Bool, true, false, cond, ◌&&◌, List, [], ◌∷◌, Some, None, sum_by, Option, ◌==◌}
use Rattle.base.specs.declared.Side.{Side}
use Rattle.base.specs.declared.Side.TheVariants.{Buy, Sell}
use Rattle.orders.specs.declared.trade.Fill.{Fill}
use Rattle.orders.specs.declared.trade.Header.{Header}
use Rattle.orders.specs.Kind.{Kind}
use Rattle.orders.specs.Ranking.{Ranking}
use Rattle.rules.specs.Pairs.{buys, sells, can_trade, pair_volume, stands_before, Place, Still}
use Rattle.rules.specs.Sweep.{party_on, settled}
use Rattle.rules.specs.declared.call.Call.{Call}
use Rattle.rules.specs.declared.call.Call.TheVariants.{Enter, Cancel, Price, Cross}
use Rattle.rules.specs.Calls.{Outcome, refused, filled, cancelled, between_orders, price_after, with_entered}
use Rattle.rules.specs.Day.{Day, Event, Lawful, state_of}
use Rattle.rules.specs.Questions.{State, order_of}

-- an order shows this folio and this side
abbrev pub is_on : Side → Side → Bool
is_on Buy side = buys side
is_on Sell side = sells side

abbrev pub shows : ℕ → Side → Header → Bool
shows folio side h = h.party.folio == folio && is_on side h.side

-- the volume of a fill under a folio on a side
abbrev pub filled_under : ℕ → Side → Fill → ℕ
filled_under folio side f = cond ((party_on f side).folio == folio) f.volume 0

abbrev pub fills_of : Outcome → List Fill
fills_of (refused n) = []
fills_of (filled fs) = fs
fills_of (cancelled v) = []

module _ {O : Type 0} (kind : Kind O) where
  -- no resting pair can trade: with no price in force none can
  abbrev pub NoPairCanTrade : Option ℕ → List O → Type 0
  NoPairCanTrade None xs = Unit {0}
  NoPairCanTrade (Some price) xs = Still kind price xs

  -- a fill is in turn: its two orders rested just before it, could trade at the price in force, which is its price,
  -- and it passes over no third order that could trade with one of the two and stood before the other for it
  pub record InTurn (rank : Ranking) (price : Option ℕ) (xs : List O) (f : Fill) : Type 0 where
    pub buy : O
    pub buy_place : ℕ
    pub buy_rested : Place xs buy_place buy
    pub sell : O
    pub sell_place : ℕ
    pub sell_rested : Place xs sell_place sell
    pub buyer : f.buyer ≡ (kind.header buy).party
    pub seller : f.seller ≡ (kind.header sell).party
    pub at_price : price ≡ Some f.price
    pub of_volume : f.volume ≡ pair_volume kind buy sell
    pub could_trade : can_trade kind f.price buy sell ≡ true
    pub no_sell_passed : (i : ℕ) (third : O) → Place xs i third → can_trade kind f.price buy third ≡ true → stands_before rank (kind.header buy) (kind.header third) (kind.header sell) ≡ false
    pub no_buy_passed : (i : ℕ) (third : O) → Place xs i third → can_trade kind f.price third sell ≡ true → stands_before rank (kind.header sell) (kind.header third) (kind.header buy) ≡ false

  -- each of a call's fills is in turn, the call's earlier fills counted
  abbrev pub AllInTurn : Ranking → Option ℕ → List O → List Fill → Type 0
  AllInTurn rank price xs [] = Unit {0}
  AllInTurn rank price xs (f ∷ fs) = InTurn rank price xs f × AllInTurn rank price (settled kind f xs) fs

  -- of the newest call: each fill between two orders is in turn
  abbrev pub FillsInTurn : State O → Event O → Type 0
  FillsInTurn st e =
      AllInTurn
      e.rank
      (price_after st.price e.call e.outcome)
      (with_entered kind e.call st.resting)
      (between_orders kind e.call (fills_of e.outcome))

  -- the volume of an accepted entry under the folio on the side, or of an accepted cross under the folio
  abbrev pub accepted_volume : ℕ → Side → Call O → ℕ
  accepted_volume folio side (Enter o) = cond (shows folio side (kind.header o)) (kind.header o).entered 0
  accepted_volume folio side (Cancel p) = 0
  accepted_volume folio side (Price q) = 0
  accepted_volume folio side (Cross p v) = cond (p.folio == folio) v 0

  abbrev pub entered_by : ℕ → Side → Event O → ℕ
  entered_by folio side e = elim e.outcome [ refused n ↦ 0 | filled fs ↦ accepted_volume folio side e.call | cancelled v ↦ 0 ]

  -- the answer of an accepted cancel, if the order that it took out is the one with the folio on the side
  abbrev pub taken_out : ℕ → Side → Option O → ℕ → ℕ
  taken_out folio side None v = 0
  taken_out folio side (Some o) v = cond (shows folio side (kind.header o)) v 0

  abbrev pub cancelled_order : Call O → List O → Option O
  cancelled_order (Enter o) xs = None
  cancelled_order (Cancel p) xs = order_of kind p.folio xs
  cancelled_order (Price q) xs = None
  cancelled_order (Cross p v) xs = None

  abbrev pub cancelled_by : ℕ → Side → State O → Event O → ℕ
  cancelled_by folio side st e = elim e.outcome [ refused n ↦ 0 | filled fs ↦ 0 | cancelled v ↦ taken_out folio side (cancelled_order e.call st.resting) v ]

  -- over a day, under one folio on one side
  abbrev pub entered_volume : ℕ → Side → Day O → ℕ
  entered_volume folio side [] = 0
  entered_volume folio side (e ∷ day) = entered_by folio side e + entered_volume folio side day

  abbrev pub filled_volume : ℕ → Side → Day O → ℕ
  filled_volume folio side [] = 0
  filled_volume folio side (e ∷ day) = sum_by (filled_under folio side) (fills_of e.outcome) + filled_volume folio side day

  abbrev pub cancelled_volume : ℕ → Side → Day O → ℕ
  cancelled_volume folio side [] = 0
  cancelled_volume folio side (e ∷ day) = cancelled_by folio side (state_of kind day) e + cancelled_volume folio side day

  abbrev pub left_under : ℕ → Side → O → ℕ
  left_under folio side o = cond (shows folio side (kind.header o)) (kind.header o).left 0

  abbrev pub resting_volume : ℕ → Side → List O → ℕ
  resting_volume folio side xs = sum_by (left_under folio side) xs

  -- what was entered was filled, was cancelled or rests
  abbrev pub Balanced : Day O → Type 0
  Balanced day =
      (folio : ℕ) (side : Side)
      → entered_volume folio side day
      ≡ filled_volume folio side day + cancelled_volume folio side day + resting_volume folio side (state_of kind day).resting

  -- what is kept after the newest call of a day
  pub record Kept (e : Event O) (day : Day O) : Type 0 where
    pub quiet : NoPairCanTrade (state_of kind (e ∷ day)).price (state_of kind (e ∷ day)).resting
    pub in_turn : FillsInTurn (state_of kind day) e
    pub balanced : Balanced (e ∷ day)

  -- and after each of its calls
  abbrev pub KeptThroughout : Day O → Type 0
  KeptThroughout [] = Unit {0}
  KeptThroughout (e ∷ day) = Kept e day × KeptThroughout day

  abbrev pub EveryLawfulDayKeeps : Type 0
  EveryLawfulDayKeeps = (capacity : ℕ) (day : Day O) → Lawful kind capacity day → KeptThroughout day
