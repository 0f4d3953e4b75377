-- A price is a whole number of ten-thousandths of a peso.
use Rattle.std.specs.Prelude.{ℕ, Bool}
use Rattle.base.specs.Range.{within}

abbrev pub lowest_price : ℕ
lowest_price = 1

abbrev pub highest_price : ℕ
highest_price = 100000000

abbrev pub price_in_range : ℕ → Bool
price_in_range = within lowest_price highest_price
