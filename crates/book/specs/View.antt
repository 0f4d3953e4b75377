-- A book as its rules see it.
use Rattle.std.specs.Prelude.{◌≡◌, ℕ, ◌-◌, List, length, take, drop}
use Rattle.rules.specs.Questions.{State}
use Rattle.book.specs.declared.open.OpenBook.{OpenBook}

-- the first orders of the table rest
abbrev pub view : {O P : Type 0} → OpenBook O P → State O
view book = record { resting = take book.resting book.table.now; price = book.price; highest = book.highest }

-- the table's places
abbrev pub places : {O P : Type 0} → OpenBook O P → ℕ
places book = length book.table.now

-- of all places of the table, those behind the resting orders are free: only their number is said, and nothing depends
-- on what they hold
abbrev pub Free : {O : Type 0} → List O → ℕ → ℕ → Type 0
Free table resting all = length (drop resting table) ≡ all - resting

-- the book is over the same table as before, with as many places
pub record SameTable {O P : Type 0} (before after : OpenBook O P) : Type 0 where
  pub lent : after.table.ghost_name ≡ before.table.ghost_name
  pub long : places after ≡ places before
  pub free : Free after.table.now after.resting (places before)
