-- Bytes written in hexadecimal digits.
use Rattle.std.specs.Prelude.{◌≡◌, ℕ, ◌+◌, ◌-◌, ◌*◌, ◌<◌, cond, ◌&&◌, List, length, Some, None, Option, nat_le, slice_index}

-- 0 to 9, a to f and A to F, and nothing else
abbrev pub digit_value : ℕ → Option ℕ
digit_value d =
    cond (nat_le 48 d && nat_le d 57) (Some (d - 48))
    (cond (nat_le 97 d && nat_le d 102) (Some (d - 97 + 10))
    (cond (nat_le 65 d && nat_le d 70) (Some (d - 65 + 10)) None))

-- the byte of two digits, the higher first
abbrev pub of_values : Option ℕ → Option ℕ → Option ℕ
of_values None low = None
of_values (Some high) None = None
of_values (Some high) (Some low) = Some (high * 16 + low)

abbrev pub byte_of : ℕ → ℕ → Option ℕ
byte_of high low = of_values (digit_value high) (digit_value low)

-- 48 digits spell 24 bytes, two digits each
pub record Spells (digits bytes : List ℕ) : Type 0 where
  pub digits_long : length digits ≡ 48
  pub bytes_long : length bytes ≡ 24
  pub each : (i : ℕ) → i < 24 → byte_of (slice_index digits (2 * i)) (slice_index digits (2 * i + 1)) ≡ Some (slice_index bytes i)
