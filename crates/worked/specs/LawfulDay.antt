-- One day that is lawful: midpoint orders, the larger volume first, 512 places in the book and on the tape.
use Rattle.std.specs.Prelude.{◌≡◌, ℕ, List, [], ◌∷◌, Some, None, Option}
use Rattle.base.specs.declared.Side.{Side}
use Rattle.base.specs.declared.Side.TheVariants.{Buy, Sell}
use Rattle.orders.specs.declared.trade.Fill.{Fill}
use Rattle.orders.specs.declared.trade.Party.{Party}
use Rattle.rules.specs.declared.call.Call.{Call}
use Rattle.rules.specs.declared.call.Call.TheVariants.{Enter, Cancel, Price, Cross}
use Rattle.rules.specs.Calls.{Outcome, refused, filled, cancelled}
use Rattle.rules.specs.Day.{Day, Event, Lawful, state_of}
use Rattle.rules.specs.Questions.{State}
use Rattle.kinds.specs.declared.midpoint.MidpointOrder.{MidpointOrder}
use Rattle.kinds.specs.Midpoint.{midpoint_kind}
use Rattle.kinds.specs.Priorities.{volume_ranking}

abbrev pub midpoint : ℕ
midpoint = 245050

abbrev pub party : ℕ → ℕ → Party
party house folio = record { house = house; folio = folio }

-- an order with a volume entered and a volume left; its minimum is 1
abbrev pub order_with : Side → ℕ → Party → ℕ → ℕ → MidpointOrder
order_with side protection p entered left =
    record {
      header = record { side = side; party = p; entered = entered; left = left };
      protection = protection;
      minimum = 1;
    }

-- a buy takes prices up to 250000, a sell from 240000
abbrev pub buy_with : Party → ℕ → ℕ → MidpointOrder
buy_with = order_with Buy 250000

abbrev pub buy : Party → ℕ → MidpointOrder
buy p volume = buy_with p volume volume

abbrev pub sell : Party → ℕ → MidpointOrder
sell p volume = order_with Sell 240000 p volume volume

-- the orders, named by their folios
abbrev pub buy_101 : MidpointOrder
buy_101 = buy (party 4 101) 5000

abbrev pub sell_102 : MidpointOrder
sell_102 = sell (party 8 102) 4000

abbrev pub buy_103 : MidpointOrder
buy_103 = buy (party 6 103) 4000

abbrev pub sell_104 : MidpointOrder
sell_104 = sell (party 9 104) 800

-- the buy 101 once some of it is filled
abbrev pub buy_101_left : ℕ → MidpointOrder
buy_101_left = buy_with (party 4 101) 5000

abbrev pub fill_at_midpoint : ℕ → Party → Party → Fill
fill_at_midpoint volume buyer seller = record { price = midpoint; volume = volume; buyer = buyer; seller = seller }

abbrev pub event : Call MidpointOrder → Outcome → Event MidpointOrder
event call outcome = record { rank = volume_ranking; call = call; tape = 512; outcome = outcome }

-- the events, in the order in which they happen
abbrev pub price_set : Event MidpointOrder
price_set = event (Price (Some midpoint)) (filled [])

abbrev pub buy_101_entered : Event MidpointOrder
buy_101_entered = event (Enter buy_101) (filled [])

abbrev pub sell_102_filled : Event MidpointOrder
sell_102_filled = event (Enter sell_102) (filled (fill_at_midpoint 4000 (party 4 101) (party 8 102) ∷ []))

abbrev pub used_folio_refused : Event MidpointOrder
used_folio_refused = event (Enter (buy (party 6 101) 10)) (refused 2)

abbrev pub buy_103_entered : Event MidpointOrder
buy_103_entered = event (Enter buy_103) (filled [])

abbrev pub price_taken_away : Event MidpointOrder
price_taken_away = event (Price None) (filled [])

abbrev pub sell_104_entered : Event MidpointOrder
sell_104_entered = event (Enter sell_104) (filled [])

abbrev pub price_set_again : Event MidpointOrder
price_set_again = event (Price (Some midpoint)) (filled (fill_at_midpoint 800 (party 4 101) (party 9 104) ∷ []))

abbrev pub other_house_refused : Event MidpointOrder
other_house_refused = event (Cancel (party 4 103)) (refused 9)

abbrev pub buy_103_cancelled : Event MidpointOrder
buy_103_cancelled = event (Cancel (party 6 103)) (cancelled 4000)

abbrev pub crossed : Event MidpointOrder
crossed = event (Cross (party 5 105) 300) (filled (fill_at_midpoint 300 (party 5 105) (party 5 105) ∷ []))

-- the newest first
abbrev pub the_day : Day MidpointOrder
the_day =
    crossed
    ∷ buy_103_cancelled
    ∷ other_house_refused
    ∷ price_set_again
    ∷ sell_104_entered
    ∷ price_taken_away
    ∷ buy_103_entered
    ∷ used_folio_refused
    ∷ sell_102_filled
    ∷ buy_101_entered
    ∷ price_set
    ∷ []

abbrev pub book_with : List MidpointOrder → Option ℕ → ℕ → State MidpointOrder
book_with resting price highest = record { resting = resting; price = price; highest = highest }

-- the day is lawful; it leaves 200 of the buy 101, the price, and the folio of the cross as the highest
abbrev pub ALawfulDay : Type 0
ALawfulDay =
    Lawful midpoint_kind 512 the_day
    × (state_of midpoint_kind the_day ≡ book_with (buy_101_left 200 ∷ []) (Some midpoint) 105)
