use Rattle.std.proofs.Common.{◌≡◌, ℕ, ◌+◌, ◌*◌, ◌<◌, length, get_or, Some}
use Rattle.feedlines.specs.Digits.{byte_of}
use Rattle.feedlines.proofs.digits.read_digits.Given as goal

-- the digits so far spell the bytes so far
abbrev pub invariant-loop-place : goal.invariant-loop-place
invariant-loop-place l =
    (length l.message ≡ 24)
    × ((i : ℕ) → i < l.place → byte_of (get_or l.digits (2 * i) 0) (get_or l.digits (2 * i + 1) 0) ≡ Some (get_or l.message i 0))
