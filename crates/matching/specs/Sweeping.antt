-- What one step of a sweep, and a whole sweep in place, leave of the orders and the tape.
use Rattle.std.specs.Prelude.{◌≡◌, ℕ, ◌-◌, ◌<◌, ◌≤◌, List, length, take, drop, Some, None, Option}
use Rattle.orders.specs.declared.trade.Fill.{Fill}
use Rattle.orders.specs.Kind.{Kind}
use Rattle.orders.specs.Ranking.{Ranking}
use Rattle.rules.specs.Pairs.{First, Still}
use Rattle.rules.specs.Sweep.{Sweep, fill_of, settled}
use Rattle.matching.specs.declared.sweep.Swept.{Swept}

module _ {O : Type 0} (kind : Kind O) where
  -- the first pair of xs made the fill f, and n orders then rest, at the front
  pub record FilledFirst (rank : Ranking) (price : ℕ) (xs after : List O) (f : Fill) (n : ℕ) : Type 0 where
    pub i : ℕ
    pub j : ℕ
    pub buy : O
    pub sell : O
    pub first : First kind rank price xs i j buy sell
    pub made : f ≡ fill_of kind price buy sell
    pub front : take n after ≡ settled kind f xs
    pub fewer : n < length xs
    pub two : 2 ≤ length xs

  -- no pair of xs can trade and nothing is altered, or the first pair made a fill
  abbrev pub FillsFirst : Ranking → ℕ → List O → List O → Option (Fill × ℕ) → Type 0
  FillsFirst rank price xs after None = Still kind price xs × (after ≡ xs)
  FillsFirst rank price xs after (Some step) = FilledFirst rank price xs after step.0 step.1

  -- xs was swept: the fills at the tape's front, the rest of the tape unchanged, and what rests at the front of xs;
  -- the places behind that are free
  pub record SweptInPlace (rank : Ranking) (price : ℕ) (xs : List O) (tape : List Fill) (after : List O) (tape_after : List Fill) (done : Swept) : Type 0 where
    pub swept : Sweep kind rank price xs (take done.fills tape_after) (take done.resting after)
    pub fills_fit : done.fills ≤ length tape_after
    pub rest_fits : done.resting ≤ length xs
    pub behind : drop done.fills tape_after ≡ drop done.fills tape
    pub enough : length xs - 1 ≤ length tape

  -- a sweep of xs, or none for want of places on the tape
  abbrev pub SweepsTo : Ranking → ℕ → List O → List Fill → List O → List Fill → Option Swept → Type 0
  SweepsTo rank price xs tape after tape_after None =
      (length tape < length xs - 1) × (after ≡ xs) × (tape_after ≡ tape)
  SweepsTo rank price xs tape after tape_after (Some done) = SweptInPlace rank price xs tape after tape_after done
