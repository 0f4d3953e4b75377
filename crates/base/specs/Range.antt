-- Ranges of numbers.
use Rattle.std.specs.Prelude.{ℕ, Bool, ◌&&◌, nat_le}

abbrev pub within : ℕ → ℕ → ℕ → Bool
within lowest highest n = nat_le lowest n && nat_le n highest
