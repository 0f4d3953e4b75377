-- Numbers as a line has them.
use Rattle.std.specs.Prelude.{◌≡◌, ℕ, ◌^◌, ◌<◌, List, ◌++◌, All, flat_map, length, codes, decimal, slice_index}
use Rattle.std.specs.Int.{IsInRange}

-- a number in decimal, after one space
abbrev pub spaced : ℕ → List ℕ
spaced n = codes " " ++ decimal n

-- one number after the other
abbrev pub numbers : List ℕ → List ℕ
numbers ns = flat_map spaced ns

-- every number fits 32 bits
abbrev pub Small : List ℕ → Type 0
Small ns = All (λ n. n < 2 ^ 32) ns

-- every byte is one of 0 to 9
abbrev pub AllDigits : List ℕ → Type 0
AllDigits ds = (i : ℕ) → i < length ds → IsInRange 48 57 (slice_index ds i)

-- nothing, or first something that is no digit
abbrev pub NoDigitFirst : List ℕ → Type 0
NoDigitFirst bs = IsInRange 48 57 (slice_index bs 0) → ⊥

-- the text is just count numbers of 32 bits, ns
pub record Writes (count : ℕ) (text ns : List ℕ) : Type 0 where
  pub size : length ns ≡ count
  pub small : Small ns
  pub is : text ≡ numbers ns
