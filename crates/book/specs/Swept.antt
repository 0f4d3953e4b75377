-- A sweep at a price, on a book.
use Rattle.std.specs.Prelude.{◌≡◌, ℕ, ◌≤◌, List, Option, length, take, drop}
use Rattle.orders.specs.declared.trade.Fill.{Fill}
use Rattle.orders.specs.Kind.{Kind}
use Rattle.orders.specs.Ranking.{Ranking}
use Rattle.rules.specs.Calls.{Swept}
use Rattle.book.specs.declared.open.OpenBook.{OpenBook}
use Rattle.book.specs.View.{SameTable, view}

-- the resting orders were swept at the price, if there is one: the fills at the tape's front, the rest of the tape
-- unchanged; and nothing else of the book changed
pub record SweptBook {O P : Type 0} (kind : Kind O) (rank : Ranking) (price : Option ℕ) (before : OpenBook O P) (tape : List Fill) (after : OpenBook O P) (tape_after : List Fill) (fills : ℕ) : Type 0 where
  pub swept : Swept kind rank price (view before).resting (take fills tape_after) (view after).resting
  pub fits : fills ≤ length tape_after
  pub behind : drop fills tape_after ≡ drop fills tape
  pub in_force : after.price ≡ before.price
  pub highest : after.highest ≡ before.highest
  pub table : SameTable before after
