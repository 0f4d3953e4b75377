-- The worked examples: at numerals each is computed.
use Rattle.std.proofs.Common.{◌≡◌, ℕ, ◌-◌, ◌*◌, Bool, true, false, cond, ◌||◌, leb, List, [], ◌∷◌, ◌++◌, length, take, ℤ, pos, is_some, sym, refl, ap, ◌∙◌, ap₂, arith, lit<}
use Rattle.std.specs.List.{AllByRecursion as All}
use Rattle.std.proofs.lemmas.Bool.{and_from, cond-true, le-leb}
use Rattle.base.specs.declared.Side.TheVariants.{Sell}
use Rattle.base.specs.Price.{price_in_range}
use Rattle.base.specs.Questions.{Question, ask, first_no}
use Rattle.rules.specs.declared.call.Call.TheVariants.{Enter}
use Rattle.rules.specs.Questions.{questions}
use Rattle.kinds.specs.Midpoint.{midpoint_kind}
use Rattle.kinds.specs.Priorities.{volume_ranking}
use Rattle.quotes.specs.declared.ticks.SecurityType.TheVariants.{Equity}
use Rattle.quotes.specs.Board.{half_sum}
use Rattle.quotes.specs.Message.{clears, fields, message_questions, tick_price}
use Rattle.law.proofs.Asked.{Numbered, accepted_yes, all_yes}
use Rattle.law.proofs.Outcomes.{one_outcome}
use Rattle.worked.specs.Examples.{TakesAllOrNone, AnyComesTo, EmptyBlock, EntryNeedsThree, EquityTicks, MidpointOfTheBest, MinimumIsForOneFill, OwnHouseFirst, PriceNeedsTwo, RefusedFolioLeavesLower, TapeOfTwo, ThreeSwept, WorkedExamples, three_orders, too_small_apart, two_fills}
use Rattle.worked.specs.LawfulDay.{buy, buy_101, buy_101_left, midpoint as midpoint_price, order_with, party, sell}
use Rattle.worked.proofs.Decided.{ends_by_check, fills_by_check, folios_differ_by_check, still_by_check}

-- where each question before the last is answered yes, the last decides
last_decides : (qs : List Question) (q : Question) → All (λ p. p.answer ≡ true) qs → first_no (qs ++ (q ∷ [])) ≡ cond q.answer 0 q.number
last_decides [] q before = refl
last_decides (p ∷ qs) q before =
    cond-true p.answer (first_no (qs ++ (q ∷ []))) p.number before.0 ∙ last_decides qs q before.1

midpoint_of_the_best : MidpointOfTheBest
midpoint_of_the_best = (refl, refl, λ rows bid offer. ap₂ half_sum bid offer)

-- where a message clears no quote, the tick of its price decides
tick_decides : (qs : List Question) (cleared : Bool) (quoted : ℤ) (price number : ℕ) → All (λ p. p.answer ≡ true) qs → cleared ≡ false → quoted ≡ pos (10000 * price) → cond (is_some (tick_price Equity (pos (10000 * price)))) 0 19 ≡ number → first_no (qs ++ (ask (cleared || is_some (tick_price Equity quoted)) 19 ∷ [])) ≡ number
tick_decides qs cleared quoted price number before stands priced computed =
    last_decides qs (ask (cleared || is_some (tick_price Equity quoted)) 19) before
    ∙ ap₂ (λ c p. cond (c || is_some (tick_price Equity p)) 0 19) stands priced
    ∙ computed

any_comes_to : (price number : ℕ) → cond (is_some (tick_price Equity (pos (10000 * price)))) 0 19 ≡ number → AnyComesTo price number
any_comes_to price number computed instrument bs others stands priced =
    let before = take 6 (message_questions instrument Equity bs) in
    let numbered : All Numbered before = (λ _ e. omega arith, (λ _ e. omega arith, (λ _ e. omega arith, (λ _ e. omega arith, (λ _ e. omega arith, (λ _ e. omega arith, tt)))))) in
    tick_decides before (clears (fields bs).volume) (fields bs).price price number (all_yes before numbered others) stands priced computed

equity_ticks : EquityTicks
equity_ticks = (refl, refl, refl, refl, refl, refl, refl, any_comes_to 10050 19 refl, any_comes_to 10100 0 refl)

minimum_is_for_one_fill : MinimumIsForOneFill
minimum_is_for_one_fill = (
  λ p q price low high.
      (refl, and_from (leb price 250000) (leb 240000 price) (le-leb price 250000 high) (le-leb 240000 price low)),
  still_by_check midpoint_kind midpoint_price too_small_apart refl,
)

empty_block : EmptyBlock
empty_block = (refl, refl, refl, refl)

all_or_none : TakesAllOrNone
all_or_none side p entered price = (refl, refl)

-- the pair of house 6 first, then what is left of the sell with the other buy
three_swept : ThreeSwept two_fills (buy_101_left 4510 ∷ [])
three_swept =
    fills_by_check 1 2 (buy (party 6 103) 10) (sell (party 6 104) 500) (lit< tt, refl) (lit< tt, refl) refl refl
    (fills_by_check 0 1 buy_101 (order_with Sell 240000 (party 6 104) 500 490) (lit< tt, refl) (lit< tt, refl) refl refl
    (ends_by_check refl))

own_house_first : OwnHouseFirst
own_house_first = (
  three_swept,
  λ fs ys swept.
      one_outcome midpoint_kind volume_ranking midpoint_price three_orders
      (folios_differ_by_check midpoint_kind three_orders refl) fs two_fills ys (buy_101_left 4510 ∷ []) swept three_swept,
)

-- all but the last question of an entry are the same for every tape
entry_needs_three : EntryNeedsThree
entry_needs_three st o three on_three =
    let given = accepted_yes midpoint_kind 512 st 3 (Enter o) on_three in
    let before = take 5 (questions midpoint_kind 512 st 2 (Enter o)) in
    let from_third = given.1.1 in
    let from_fifth = from_third.1.1 in
    let answered : All (λ q. q.answer ≡ true) before = (given.0, (given.1.0, (from_third.0, (from_third.1.0, (from_fifth.0, tt))))) in
    let tape = ask (leb (length st.resting) 2) 7 in
    (sym (last_decides before tape answered ∙ ap (λ n. cond (leb n 2) 0 7) three), λ e. omega arith)

price_needs_two : PriceNeedsTwo
price_needs_two st price three in_range =
    cond-true (price_in_range price) (cond (leb (length st.resting - 1) 2) 0 7) 10 in_range
    ∙ ap (λ n. cond (leb (n - 1) 2) 0 7) three

tape_of_two : TapeOfTwo
tape_of_two = (refl, (refl, λ e. omega arith), (refl, (_, three_swept)), entry_needs_three, price_needs_two)

refused_folio_leaves_lower : RefusedFolioLeavesLower
refused_folio_leaves_lower = (
  (refl, λ e. omega arith),
  refl,
  refl,
  λ st number e. e,
  (refl, (_, ends_by_check refl)),
  refl,
)

pub worked_examples : WorkedExamples
worked_examples =
    record {
      midpoint_of_the_best = midpoint_of_the_best;
      equity_ticks = equity_ticks;
      minimum_is_for_one_fill = minimum_is_for_one_fill;
      empty_block = empty_block;
      all_or_none = all_or_none;
      own_house_first = own_house_first;
      tape_of_two = tape_of_two;
      refused_folio_leaves_lower = refused_folio_leaves_lower;
    }
