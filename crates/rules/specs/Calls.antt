-- What a call comes to, and what it leaves.
use Rattle.std.specs.Prelude.{◌≡◌, ℕ, Bool, not, List, [], ◌∷◌, ◌++◌, Some, None, filter, Option, ◌==◌, ◌≢◌}
use Rattle.base.specs.Questions.{first_no}
use Rattle.orders.specs.declared.trade.Fill.{Fill}
use Rattle.orders.specs.declared.trade.Party.{Party}
use Rattle.orders.specs.Kind.{Kind}
use Rattle.orders.specs.Ranking.{Ranking}
use Rattle.rules.specs.Sweep.{Sweep, settled}
use Rattle.rules.specs.declared.call.Call.{Call}
use Rattle.rules.specs.declared.call.Call.TheVariants.{Enter, Cancel, Price, Cross}
use Rattle.rules.specs.Questions.{State, questions, order_of}

-- what a call came to: refused with a number, accepted with these fills, or a cancel that answered a volume
pub data Outcome : Type 0 where
  refused : ℕ → Outcome
  filled : List Fill → Outcome
  cancelled : ℕ → Outcome

-- a cross: one fill with its house and folio on both sides
abbrev pub cross_fill : ℕ → Party → ℕ → Fill
cross_fill price p volume = record { price = price; volume = volume; buyer = p; seller = p }

-- the price in force after a call: an accepted price call's, else as it was
abbrev pub price_after : {O : Type 0} → Option ℕ → Call O → Outcome → Option ℕ
price_after price call (refused n) = price
price_after price call (cancelled v) = price
price_after price (Enter o) (filled fs) = price
price_after price (Cancel p) (filled fs) = price
price_after price (Price q) (filled fs) = q
price_after price (Cross p v) (filled fs) = price

module _ {O : Type 0} (kind : Kind O) where
  -- the highest folio after a call: an accepted entry's or cross's, else as it was
  abbrev pub highest_after : ℕ → Call O → Outcome → ℕ
  highest_after highest call (refused n) = highest
  highest_after highest call (cancelled v) = highest
  highest_after highest (Enter o) (filled fs) = (kind.header o).party.folio
  highest_after highest (Cancel p) (filled fs) = highest
  highest_after highest (Price q) (filled fs) = highest
  highest_after highest (Cross p v) (filled fs) = p.folio

  -- one fill after the other
  abbrev pub all_settled : List Fill → List O → List O
  all_settled [] xs = xs
  all_settled (f ∷ fs) xs = all_settled fs (settled kind f xs)

  abbrev pub other_folio : ℕ → O → Bool
  other_folio folio o = not ((kind.header o).party.folio == folio)

  -- what rests once an accepted call has its order in the book
  abbrev pub with_entered : Call O → List O → List O
  with_entered (Enter o) xs = xs ++ (o ∷ [])
  with_entered (Cancel p) xs = xs
  with_entered (Price q) xs = xs
  with_entered (Cross p v) xs = xs

  -- the fills of an entry or a price are between resting orders; in a cross no order takes part
  abbrev pub between_orders : Call O → List Fill → List Fill
  between_orders (Enter o) fs = fs
  between_orders (Cancel p) fs = []
  between_orders (Price q) fs = fs
  between_orders (Cross p v) fs = []

  abbrev pub without_cancelled : Call O → List O → List O
  without_cancelled (Enter o) xs = xs
  without_cancelled (Cancel p) xs = filter (other_folio p.folio) xs
  without_cancelled (Price q) xs = xs
  without_cancelled (Cross p v) xs = xs

  -- what rests after a call: an entered order joins, fills reduce, nothing left or a cancel takes out
  abbrev pub resting_after : List O → Call O → Outcome → List O
  resting_after xs call (refused n) = xs
  resting_after xs call (filled fs) = all_settled (between_orders call fs) (with_entered call xs)
  resting_after xs call (cancelled v) = without_cancelled call xs

  abbrev pub state_after : State O → Call O → Outcome → State O
  state_after st call out =
      record {
        resting = resting_after st.resting call out;
        price = price_after st.price call out;
        highest = highest_after st.highest call out;
      }

  -- a sweep at the price in force, if there is one: with none no pair can trade
  abbrev pub Swept : Ranking → Option ℕ → List O → List Fill → List O → Type 0
  Swept rank None xs fs ys = (fs ≡ []) × (ys ≡ xs)
  Swept rank (Some price) xs fs ys = Sweep kind rank price xs fs ys

  -- the fills that an accepted call makes
  abbrev pub Makes : Ranking → State O → Call O → List Fill → Type 0
  Makes rank st (Enter o) fs = (ys : List O) × Swept rank st.price (st.resting ++ (o ∷ [])) fs ys
  Makes rank st (Cancel p) fs = ⊥
  Makes rank st (Price q) fs = (ys : List O) × Swept rank q st.resting fs ys
  Makes rank st (Cross p v) fs = (price : ℕ) × (st.price ≡ Some price) × (fs ≡ cross_fill price p v ∷ [])

  -- the volume that an accepted cancel answers
  abbrev pub TakesOut : State O → Call O → ℕ → Type 0
  TakesOut st (Enter o) v = ⊥
  TakesOut st (Cancel p) v = (o : O) × (order_of kind p.folio st.resting ≡ Some o) × (v ≡ (kind.header o).left)
  TakesOut st (Price q) v = ⊥
  TakesOut st (Cross p volume) v = ⊥

  -- the outcome is right: the number of the first question answered no, or, where none is, what the call makes
  abbrev pub Right : Ranking → ℕ → State O → ℕ → Call O → Outcome → Type 0
  Right rank capacity st tape call (refused n) =
      (n ≡ first_no (questions kind capacity st tape call)) × (n ≢ 0)
  Right rank capacity st tape call (filled fs) =
      (first_no (questions kind capacity st tape call) ≡ 0) × Makes rank st call fs
  Right rank capacity st tape call (cancelled v) =
      (first_no (questions kind capacity st tape call) ≡ 0) × TakesOut st call v
