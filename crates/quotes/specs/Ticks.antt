-- The ticks of each type of security, in ten-thousandths of a peso.
use Rattle.std.specs.Prelude.{◌≡◌, ◌≢◌, ℕ, ◌-◌, ◌%◌, Bool, ◌&&◌, ◌||◌, List, Result, MatchResult, codes, ◌==◌, nat_le}
use Rattle.quotes.specs.declared.ticks.SecurityType.{SecurityType}
use Rattle.quotes.specs.declared.ticks.UnknownType.{UnknownType}
use Rattle.quotes.specs.declared.ticks.SecurityType.TheVariants.{Equity, Sic, Warrant, FixedIncome}

-- one of lowest, lowest + step, lowest + 2 × step, and so on up to highest
abbrev pub steps_to : ℕ → ℕ → ℕ → ℕ → Bool
steps_to lowest highest step price = nat_le lowest price && (nat_le price highest && (price - lowest) % step == 0)

abbrev pub on_tick : SecurityType → ℕ → Bool
on_tick Equity price = steps_to 10 10000 10 price || steps_to 10100 100000000 100 price
on_tick Sic price = steps_to 100 100000000 100 price
on_tick Warrant price = steps_to 100 100000000 100 price
on_tick FixedIncome price = steps_to 1000 100000000 1000 price

-- the word that names a type of security to a program
abbrev pub type_word : SecurityType → List ℕ
type_word Equity = codes "equity"
type_word Sic = codes "sic"
type_word Warrant = codes "warrant"
type_word FixedIncome = codes "fixed"

-- what reading a word as a type of security gives: the type that the word names, and an error where it names none
abbrev pub Names : List ℕ → Result SecurityType UnknownType → Type 0
Names word r = MatchResult r (λ t. word ≡ type_word t) (λ _. (t : SecurityType) → word ≢ type_word t)
