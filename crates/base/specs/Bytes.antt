-- Numbers in bytes, the highest byte first.
use Rattle.std.specs.Prelude.{ℕ, ◌+◌, ◌*◌, ◌/◌, ◌%◌, ◌^◌, List, [], ◌∷◌, slice_index}

abbrev pub byte : List ℕ → ℕ → ℕ
byte bs at = slice_index bs at

-- the number that stands in two, four or eight bytes from a place on
abbrev pub number2 : List ℕ → ℕ → ℕ
number2 bs at = byte bs at * 2 ^ 8 + byte bs (at + 1)

abbrev pub number4 : List ℕ → ℕ → ℕ
number4 bs at = byte bs at * 2 ^ 24 + byte bs (at + 1) * 2 ^ 16 + byte bs (at + 2) * 2 ^ 8 + byte bs (at + 3)

abbrev pub number8 : List ℕ → ℕ → ℕ
number8 bs at =
    byte bs at * 2 ^ 56 + byte bs (at + 1) * 2 ^ 48 + byte bs (at + 2) * 2 ^ 40 + byte bs (at + 3) * 2 ^ 32
    + byte bs (at + 4) * 2 ^ 24
    + byte bs (at + 5) * 2 ^ 16
    + byte bs (at + 6) * 2 ^ 8
    + byte bs (at + 7)

-- the two or four bytes of a number
abbrev pub bytes2 : ℕ → List ℕ
bytes2 n = n / 2 ^ 8 % 256 ∷ n % 256 ∷ []

abbrev pub bytes4 : ℕ → List ℕ
bytes4 n = n / 2 ^ 24 % 256 ∷ n / 2 ^ 16 % 256 ∷ n / 2 ^ 8 % 256 ∷ n % 256 ∷ []
