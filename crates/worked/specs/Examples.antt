-- Worked examples of the rules, about the definitions that the contracts use. Prices are in ten-thousandths of a peso.
use Rattle.std.specs.Prelude.{◌≡◌, ℕ, ◌*◌, ◌≤◌, true, false, List, [], ◌∷◌, ◌++◌, length, take, ℤ, pos, Some, None}
use Rattle.base.specs.declared.Side.{Side}
use Rattle.base.specs.declared.Side.TheVariants.{Buy}
use Rattle.base.specs.Price.{price_in_range}
use Rattle.base.specs.Questions.{first_no}
use Rattle.orders.specs.declared.trade.Fill.{Fill}
use Rattle.orders.specs.declared.trade.Party.{Party}
use Rattle.rules.specs.declared.call.Call.{Call}
use Rattle.rules.specs.declared.call.Call.TheVariants.{Enter, Price}
use Rattle.rules.specs.Calls.{Outcome, Right, filled, refused, state_after}
use Rattle.rules.specs.Pairs.{Still, can_trade}
use Rattle.rules.specs.Questions.{State, questions}
use Rattle.rules.specs.Sweep.{Sweep}
use Rattle.kinds.specs.declared.closing.ClosingOrder.{ClosingOrder}
use Rattle.kinds.specs.declared.closing.Quantity.TheVariants.{AllOrNone}
use Rattle.kinds.specs.declared.midpoint.MidpointOrder.{MidpointOrder}
use Rattle.kinds.specs.Closing.{closing_kind}
use Rattle.kinds.specs.Midpoint.{midpoint_kind}
use Rattle.kinds.specs.Priorities.{volume_ranking}
use Rattle.quotes.specs.declared.ticks.SecurityType.TheVariants.{Equity}
use Rattle.quotes.specs.Board.{Rows, four, highest_bid, lowest_offer, midpoint}
use Rattle.quotes.specs.Message.{clears, fields, message_questions}
use Rattle.quotes.specs.Ticks.{on_tick}
use Rattle.tape.specs.Asked.{read_questions, write_questions}
use Rattle.tape.specs.Block.{block}
use Rattle.worked.specs.LawfulDay.{book_with, buy, buy_101, buy_101_left, fill_at_midpoint, midpoint as midpoint_price, party, sell}

-- Between a highest bid of 245,000 and a lowest offer of 245,100 the midpoint is 245,050: where only the BMV quotes,
-- where the BIVA bids 244,900 and the better offer is its own, and of any quotes that have this best bid and offer.
abbrev pub MidpointOfTheBest : Type 0
MidpointOfTheBest =
    (midpoint (four (Some 245000) (Some 245100) None None) ≡ Some 245050)
    × (midpoint (four (Some 245000) (Some 245200) (Some 244900) (Some 245100)) ≡ Some 245050)
    × ((rows : Rows) → highest_bid rows ≡ Some 245000 → lowest_offer rows ≡ Some 245100 → midpoint rows ≡ Some 245050)

-- a Last Quote: the BMV bids for 500 of the instrument 7001, at a price that stands in eight bytes
abbrev pub bid_at : List ℕ → List ℕ
bid_at price =
    109 ∷ 0 ∷ 0 ∷ 27 ∷ 89 ∷ 77 ∷ 0 ∷ 0 ∷ 0 ∷ 0 ∷ 0 ∷ 0 ∷ 1 ∷ 244 ∷ price ++ (67 ∷ 84 ∷ [])

abbrev pub bid_at_10050 : List ℕ
bid_at_10050 = bid_at (0 ∷ 0 ∷ 0 ∷ 0 ∷ 5 ∷ 253 ∷ 130 ∷ 32 ∷ [])

abbrev pub bid_at_10100 : List ℕ
bid_at_10100 = bid_at (0 ∷ 0 ∷ 0 ∷ 0 ∷ 6 ∷ 5 ∷ 35 ∷ 64 ∷ [])

-- the message quotes the price: its own is in hundred-millionths of a peso, 10,000 times as much
abbrev pub QuotesPrice : List ℕ → ℕ → Type 0
QuotesPrice bs price = (fields bs).price ≡ pos (10000 * price)

-- the number to which an equity's message comes: that of its refusal, or 0 where it is accepted
abbrev pub message_number : ℤ → List ℕ → ℕ
message_number instrument bs = first_no (message_questions instrument Equity bs)

-- any equity's message that quotes the price comes to the number, if none of the six questions before that of the tick
-- is answered no, and the message does not clear a quote
abbrev pub AnyComesTo : ℕ → ℕ → Type 0
AnyComesTo price number =
    (instrument : ℤ) (bs : List ℕ)
    → first_no (take 6 (message_questions instrument Equity bs)) ≡ 0
    → clears (fields bs).volume ≡ false
    → QuotesPrice bs price
    → message_number instrument bs ≡ number

-- An equity may be quoted at 10,000 and then, by steps of 100, from 10,100 on: a message with 10,050 is refused with 19,
-- and one with 10,100 is accepted. This is told of two messages byte by byte, and of all that nothing else refuses.
abbrev pub EquityTicks : Type 0
EquityTicks =
    (on_tick Equity 10000 ≡ true)
    × (on_tick Equity 10050 ≡ false)
    × (on_tick Equity 10100 ≡ true)
    × QuotesPrice bid_at_10050 10050
    × (message_number (pos 7001) bid_at_10050 ≡ 19)
    × QuotesPrice bid_at_10100 10100
    × (message_number (pos 7001) bid_at_10100 ≡ 0)
    × AnyComesTo 10050 19
    × AnyComesTo 10100 0

-- 600 are left of a buy with a minimum of 500; it takes prices up to 250,000, and the sells prices from 240,000 on
abbrev pub buy_of_600 : Party → MidpointOrder
buy_of_600 p =
    record {
      header = record { side = Buy; party = p; entered = 1000; left = 600 };
      protection = 250000;
      minimum = 500;
    }

-- the buy and two sells, each too small for it, which together have more than it wants
abbrev pub too_small_apart : List MidpointOrder
too_small_apart = buy_of_600 (party 4 101) ∷ sell (party 8 102) 499 ∷ sell (party 9 103) 499 ∷ []

-- The minimum is asked of each fill alone. A sell of 499 cannot trade with the buy, one of 500 can, at every price that
-- both take; and two sells of 499 do not help each other: nothing of the three can trade.
abbrev pub MinimumIsForOneFill : Type 0
MinimumIsForOneFill =
    ((p q : Party) (price : ℕ)
    → 240000 ≤ price
    → price ≤ 250000
    → (can_trade midpoint_kind price (buy_of_600 p) (sell q 499) ≡ false)
    × (can_trade midpoint_kind price (buy_of_600 p) (sell q 500) ≡ true))
    × Still midpoint_kind midpoint_price too_small_apart

-- The block of no fills has the count 0 and the length 8, and nothing more. It is written where there are 8 bytes, not
-- where there are 7, and read into a list with no places.
abbrev pub EmptyBlock : Type 0
EmptyBlock =
    (block [] ≡ 0 ∷ 0 ∷ 0 ∷ 0 ∷ 0 ∷ 0 ∷ 0 ∷ 8 ∷ [])
    × (first_no (write_questions [] 8) ≡ 0)
    × (first_no (write_questions [] 7) ≡ 26)
    × (first_no (read_questions (block []) 0) ≡ 0)

-- 300 are left of a closing order that is filled all at once
abbrev pub all_of_300 : Side → Party → ℕ → ClosingOrder
all_of_300 side p entered =
    record { header = record { side = side; party = p; entered = entered; left = 300 }; quantity = AllOrNone }

-- Such an order takes 300 and not 299, at any price, on either side and whatever was entered.
abbrev pub TakesAllOrNone : Type 0
TakesAllOrNone =
    (side : Side) (p : Party) (entered price : ℕ)
    → (closing_kind.takes (all_of_300 side p entered) 300 price ≡ true)
    × (closing_kind.takes (all_of_300 side p entered) 299 price ≡ false)

-- house 6 sells 500; it also has a buy of 10, and house 4 one of 5,000
abbrev pub three_orders : List MidpointOrder
three_orders = buy_101 ∷ buy (party 6 103) 10 ∷ sell (party 6 104) 500 ∷ []

abbrev pub two_fills : List Fill
two_fills = fill_at_midpoint 10 (party 6 103) (party 6 104) ∷ fill_at_midpoint 490 (party 4 101) (party 6 104) ∷ []

-- a sweep of the three orders makes these fills and leaves these orders
abbrev pub ThreeSwept : List Fill → List MidpointOrder → Type 0
ThreeSwept = Sweep midpoint_kind volume_ranking midpoint_price three_orders

-- The sell trades first with its own house, though the other buy is larger and older: 10 with the buy 103, then 490
-- with the buy 101, of which 4,510 are left. No sweep of the three orders comes to anything else.
abbrev pub OwnHouseFirst : Type 0
OwnHouseFirst =
    ThreeSwept two_fills (buy_101_left 4510 ∷ [])
    × ((fs : List Fill) (ys : List MidpointOrder) → ThreeSwept fs ys → (fs ≡ two_fills) × (ys ≡ buy_101_left 4510 ∷ []))

-- the number to which a call comes, in a book of 512 places, with so many on the tape
abbrev pub call_number : State MidpointOrder → ℕ → Call MidpointOrder → ℕ
call_number st tape call = first_no (questions midpoint_kind 512 st tape call)

-- the outcome of a call is right there, under volume priority
abbrev pub ComesOut : State MidpointOrder → ℕ → Call MidpointOrder → Outcome → Type 0
ComesOut = Right midpoint_kind volume_ranking 512

-- a buy of 10 entered by a house under a folio
abbrev pub entry : ℕ → ℕ → Call MidpointOrder
entry house folio = Enter (buy (party house folio) 10)

-- whatever three orders rest, an entry that would be accepted on a tape of three places is refused with 7 on one of two
abbrev pub EntryNeedsThree : Type 0
EntryNeedsThree =
    (st : State MidpointOrder) (o : MidpointOrder)
    → length st.resting ≡ 3
    → call_number st 3 (Enter o) ≡ 0
    → ComesOut st 2 (Enter o) (refused 7)

-- whatever three orders rest, any price in range is accepted on a tape of two places
abbrev pub PriceNeedsTwo : Type 0
PriceNeedsTwo =
    (st : State MidpointOrder) (price : ℕ)
    → length st.resting ≡ 3
    → price_in_range price ≡ true
    → call_number st 2 (Price (Some price)) ≡ 0

-- the three orders above, before a price is in force
abbrev pub three_at_rest : State MidpointOrder
three_at_rest = book_with three_orders None 104

-- With three orders resting there can be three fills once a fourth is entered, and two when a price is set: on a tape of
-- two places an entry is refused and a price is accepted. So it is of the three orders above, where the price fills
-- the tape, and of any three.
abbrev pub TapeOfTwo : Type 0
TapeOfTwo =
    (call_number three_at_rest 3 (entry 4 105) ≡ 0)
    × ComesOut three_at_rest 2 (entry 4 105) (refused 7)
    × ComesOut three_at_rest 2 (Price (Some midpoint_price)) (filled two_fills)
    × EntryNeedsThree
    × PriceNeedsTwo

-- nothing rests, and the highest folio is 149
abbrev pub book_at_149 : State MidpointOrder
book_at_149 = book_with [] (Some midpoint_price) 149

-- the book once folio 200 was entered by a house, with that outcome
abbrev pub after_200 : ℕ → Outcome → State MidpointOrder
after_200 house outcome = state_after midpoint_kind book_at_149 (entry house 200) outcome

-- A refused entry uses up no folio. Folio 200 is refused with 1 under house 0, which is no house; the highest folio stays
-- 149, as in any book where it is, and 150 is accepted next. Had house 4 entered 200, then 150 would be refused with 2.
abbrev pub RefusedFolioLeavesLower : Type 0
RefusedFolioLeavesLower =
    ComesOut book_at_149 512 (entry 0 200) (refused 1)
    × ((after_200 0 (refused 1)).highest ≡ 149)
    × (call_number (after_200 0 (refused 1)) 512 (entry 4 150) ≡ 0)
    × ((st : State MidpointOrder) (number : ℕ)
    → st.highest ≡ 149
    → (state_after midpoint_kind st (entry 0 200) (refused number)).highest ≡ 149)
    × ComesOut book_at_149 512 (entry 4 200) (filled [])
    × (call_number (after_200 4 (filled [])) 512 (entry 4 150) ≡ 2)

-- The examples, one after the other.
pub record WorkedExamples : Type 0 where
  pub midpoint_of_the_best : MidpointOfTheBest
  pub equity_ticks : EquityTicks
  pub minimum_is_for_one_fill : MinimumIsForOneFill
  pub empty_block : EmptyBlock
  pub all_or_none : TakesAllOrNone
  pub own_house_first : OwnHouseFirst
  pub tape_of_two : TapeOfTwo
  pub refused_folio_leaves_lower : RefusedFolioLeavesLower
