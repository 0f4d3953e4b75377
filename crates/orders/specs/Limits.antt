-- The ranges of houses, folios and volumes.
use Rattle.std.specs.Prelude.{Bool, ℕ}
use Rattle.base.specs.Range.{within}

abbrev pub house_in_range : ℕ → Bool
house_in_range = within 1 999

abbrev pub folio_in_range : ℕ → Bool
folio_in_range = within 1 2147483647

abbrev pub volume_in_range : ℕ → Bool
volume_in_range = within 1 9000000
