-- Each event of the day is right on what it finds.
use Rattle.std.proofs.Common.{ℕ, List, [], ◌∷◌, Some, None, Option, refl, arith, lit<}
use Rattle.rules.specs.Calls.{Right}
use Rattle.rules.specs.Day.{Event}
use Rattle.kinds.specs.declared.midpoint.MidpointOrder.{MidpointOrder}
use Rattle.kinds.specs.Midpoint.{midpoint_kind}
use Rattle.worked.specs.LawfulDay.{ALawfulDay, book_with, buy_101, buy_101_entered, buy_101_left, buy_103, buy_103_cancelled, buy_103_entered, crossed, midpoint, other_house_refused, price_set, price_set_again, price_taken_away, sell_102, sell_102_filled, sell_104, sell_104_entered, used_folio_refused}
use Rattle.worked.proofs.Decided.{ends_by_check, fills_by_check}

-- the event is right where these orders rest, with this price in force and this highest folio
abbrev RightWith : List MidpointOrder → Option ℕ → ℕ → Event MidpointOrder → Type 0
RightWith resting price highest e =
    Right midpoint_kind e.rank 512 (book_with resting price highest) e.tape e.call e.outcome

price_finds_no_orders : RightWith [] None 0 price_set
price_finds_no_orders = (refl, (_, ends_by_check refl))

buy_finds_no_sell : RightWith [] (Some midpoint) 0 buy_101_entered
buy_finds_no_sell = (refl, (_, ends_by_check refl))

sell_fills_against_the_buy : RightWith (buy_101 ∷ []) (Some midpoint) 101 sell_102_filled
sell_fills_against_the_buy =
    (refl, (_, fills_by_check 0 1 buy_101 sell_102 (lit< tt, refl) (lit< tt, refl) refl refl (ends_by_check refl)))

folio_was_used : RightWith (buy_101_left 1000 ∷ []) (Some midpoint) 102 used_folio_refused
folio_was_used = (refl, λ e. omega arith)

second_buy_finds_no_sell : RightWith (buy_101_left 1000 ∷ []) (Some midpoint) 102 buy_103_entered
second_buy_finds_no_sell = (refl, (_, ends_by_check refl))

no_price_no_fills : RightWith (buy_101_left 1000 ∷ buy_103 ∷ []) (Some midpoint) 103 price_taken_away
no_price_no_fills = (refl, (_, (refl, refl)))

sell_finds_no_price : RightWith (buy_101_left 1000 ∷ buy_103 ∷ []) None 103 sell_104_entered
sell_finds_no_price = (refl, (_, (refl, refl)))

-- 4000 is left of the buy 103 and 1000 of the buy 101, but more was entered of 101
larger_entered_fills_first : RightWith (buy_101_left 1000 ∷ buy_103 ∷ sell_104 ∷ []) None 104 price_set_again
larger_entered_fills_first =
    (refl, (_, fills_by_check 0 2 (buy_101_left 1000) sell_104 (lit< tt, refl) (lit< tt, refl) refl refl (ends_by_check refl)))

order_is_of_another_house : RightWith (buy_101_left 200 ∷ buy_103 ∷ []) (Some midpoint) 104 other_house_refused
order_is_of_another_house = (refl, λ e. omega arith)

cancel_answers_what_is_left : RightWith (buy_101_left 200 ∷ buy_103 ∷ []) (Some midpoint) 104 buy_103_cancelled
cancel_answers_what_is_left = (refl, (_, refl, refl))

cross_fills_with_itself : RightWith (buy_101_left 200 ∷ []) (Some midpoint) 104 crossed
cross_fills_with_itself = (refl, (_, refl, refl))

-- the newest event, after those before it
infixr 5 ◌after◌
◌after◌ : {A B : Type 0} → A → B → A × B
newest after earlier = (newest, earlier)

pub a_lawful_day : ALawfulDay
a_lawful_day = (
  cross_fills_with_itself
      after cancel_answers_what_is_left
      after order_is_of_another_house
      after larger_entered_fills_first
      after sell_finds_no_price
      after no_price_no_fills
      after second_buy_finds_no_sell
      after folio_was_used
      after sell_fills_against_the_buy
      after buy_finds_no_sell
      after price_finds_no_orders
      after tt,
  refl,
)
