-- The questions before each call, in their order, with the number that is given at a no.
use Rattle.std.specs.Prelude.{ℕ, ◌-◌, min, Bool, false, cond, ◌&&◌, List, [], ◌∷◌, ◌++◌, length, is_some, Some, None, Option, ◌==◌, nat_le, nat_lt}
use Rattle.base.specs.Price.{price_in_range}
use Rattle.base.specs.Questions.{Question, ask}
use Rattle.orders.specs.declared.trade.Party.{Party}
use Rattle.orders.specs.Kind.{Kind}
use Rattle.orders.specs.Limits.{house_in_range, folio_in_range, volume_in_range}
use Rattle.rules.specs.declared.call.Call.{Call}
use Rattle.rules.specs.declared.call.Call.TheVariants.{Enter, Cancel, Price, Cross}

-- a book's capacity: its table's places, at most 512
abbrev pub capacity_of : ℕ → ℕ
capacity_of places = min places 512

-- what a call finds: the orders that rest, in rising folio, the price in force and the highest folio
pub record State (O : Type 0) : Type 0 where
  pub resting : List O
  pub price : Option ℕ
  pub highest : ℕ

-- the two questions that an entry and a cross share
abbrev pub party_questions : Party → ℕ → List Question
party_questions p highest =
    ask (house_in_range p.house) 1 ∷ ask (folio_in_range p.folio && nat_lt highest p.folio) 2 ∷ []

module _ {O : Type 0} (kind : Kind O) where
  -- the resting order with a folio
  abbrev pub order_of : ℕ → List O → Option O
  order_of folio [] = None
  order_of folio (o ∷ xs) = cond ((kind.header o).party.folio == folio) (Some o) (order_of folio xs)

  abbrev pub is_of_house : ℕ → Option O → Bool
  is_of_house house None = false
  is_of_house house (Some o) = (kind.header o).party.house == house

  abbrev pub entry_questions : ℕ → State O → ℕ → O → List Question
  entry_questions capacity st tape o =
      party_questions (kind.header o).party st.highest
      ++ ask (volume_in_range (kind.header o).entered && (kind.header o).left == (kind.header o).entered) 3
      ∷ ask (kind.refusal o == 0) (kind.refusal o)
      ∷ ask (nat_lt (length st.resting) capacity) 6
      ∷ ask (nat_le (length st.resting) tape) 7
      ∷ []

  abbrev pub cancel_questions : State O → Party → List Question
  cancel_questions st p =
      ask (is_some (order_of p.folio st.resting)) 8
      ∷ ask (is_of_house p.house (order_of p.folio st.resting)) 9
      ∷ []

  abbrev pub price_questions : State O → ℕ → Option ℕ → List Question
  price_questions st tape None = []
  price_questions st tape (Some price) =
      ask (price_in_range price) 10 ∷ ask (nat_le (length st.resting - 1) tape) 7 ∷ []

  abbrev pub cross_questions : State O → ℕ → Party → ℕ → List Question
  cross_questions st tape p volume =
      party_questions p st.highest
      ++ ask (volume_in_range volume) 3
      ∷ ask (is_some st.price) 11
      ∷ ask (nat_le 1 tape) 7
      ∷ []

  -- capacity, what the call finds, the tape's places, the call
  abbrev pub questions : ℕ → State O → ℕ → Call O → List Question
  questions capacity st tape (Enter o) = entry_questions capacity st tape o
  questions capacity st tape (Cancel p) = cancel_questions st p
  questions capacity st tape (Price price) = price_questions st tape price
  questions capacity st tape (Cross p volume) = cross_questions st tape p volume
