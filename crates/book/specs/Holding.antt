-- A book holds a day, and a call carries the day on.
use Rattle.std.specs.Prelude.{◌≡◌, ℕ, ◌∷◌}
use Rattle.orders.specs.Kind.{Kind}
use Rattle.orders.specs.Ranking.{Ranking}
use Rattle.rules.specs.declared.call.Call.{Call}
use Rattle.rules.specs.Calls.{Outcome}
use Rattle.rules.specs.Day.{Day, Event, Lawful, state_of}
use Rattle.rules.specs.Promises.{KeptThroughout}
use Rattle.rules.specs.Questions.{capacity_of}
use Rattle.book.specs.declared.open.OpenBook.{OpenBook}
use Rattle.book.specs.View.{places, view}

-- the day is lawful for the book's capacity, and what rests, the price and the highest folio of the book are the day's
pub record Holds {O P : Type 0} (kind : Kind O) (book : OpenBook O P) (day : Day O) : Type 0 where
  pub lawful : Lawful kind (capacity_of (places book)) day
  pub state : view book ≡ state_of kind day

abbrev pub event : {O : Type 0} → Ranking → Call O → ℕ → Outcome → Event O
event rank call tape out = record { rank = rank; call = call; tape = tape; outcome = out }

-- the day with the call is lawful, the book holds it, and every promise is kept throughout it
pub record GoesOn {O P : Type 0} (kind : Kind O) (after : OpenBook O P) (e : Event O) (day : Day O) : Type 0 where
  pub holds : Holds kind after (e ∷ day)
  pub kept : KeptThroughout kind (e ∷ day)
