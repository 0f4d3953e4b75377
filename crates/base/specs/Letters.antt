-- The letters of the two sides.
use Rattle.std.specs.Prelude.{◌≡◌, ℕ, cond, Some, None, Option, Result, ◌==◌}
use Rattle.std.specs.Result.{result_ok}
use Rattle.base.specs.declared.Side.{Side}
use Rattle.base.specs.declared.Side.TheVariants.{Buy, Sell}
use Rattle.base.specs.declared.UnknownSide.{UnknownSide}

-- C is a purchase, V a sale, and no other letter is a side
abbrev pub side_of : ℕ → Option Side
side_of letter = cond (letter == 67) (Some Buy) (cond (letter == 86) (Some Sell) None)

-- reading the letter comes to its side, or to none
abbrev pub NamedBy : ℕ → Result Side UnknownSide → Type 0
NamedBy letter r = result_ok r ≡ side_of letter
