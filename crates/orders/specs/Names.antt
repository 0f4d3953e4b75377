-- The numbers of a kind's questions that have a name.
use Rattle.std.specs.Prelude.{ℕ, Bool, not, ◌&&◌, ◌==◌}

-- no question of that number has a name
abbrev pub is_unnamed : ℕ → Bool
is_unnamed number = not (number == 4) && not (number == 5)
