-- A number and its bytes, there and back.
use Rattle.std.proofs.Common.{◌≡◌, ℕ, ◌+◌, ◌<◌, ◌≤◌, List, length, get_or, take, drop, sym, refl, ap, ◌∙◌, arith}
use Rattle.std.specs.Int.{w16, w32, from_be_bytes}
use Rattle.std.proofs.lemmas.Nat.{be_bytes_2, be_bytes_4}
use Rattle.std.proofs.lemmas.List.{drop-drop, get_or-drop, get_or-take, get_or_past, length-drop, length-take-le}
use Rattle.tape.specs.Forms.{Bytes}
use Rattle.base.specs.Bytes.{bytes2, bytes4, number2, number4}

module _ (bs : List ℕ) (at : ℕ) where
  part : (n k : ℕ) → k < n → get_or (take n (drop at bs)) k 0 ≡ get_or bs (at + k) 0
  part n k h = get_or-take n (drop at bs) k 0 h ∙ get_or-drop at bs k 0

  first : (n : ℕ) → 0 < n → get_or (take n (drop at bs)) 0 0 ≡ get_or bs at 0
  first n h = part n 0 h ∙ ap (λ k. get_or bs k 0) (let e : at + 0 ≡ at = omega arith in e)

  -- a number is the one that the library reads from its bytes
  read2 : number2 bs at ≡ from_be_bytes w16 (take 2 (drop at bs))
  read2 = rw (← first 2 (omega arith), ← part 2 1 (omega arith)) refl

  read4 : number4 bs at ≡ from_be_bytes w32 (take 4 (drop at bs))
  read4 = rw (← first 4 (omega arith), ← part 4 1 (omega arith), ← part 4 2 (omega arith), ← part 4 3 (omega arith)) refl

  module _ (small : Bytes bs) where
    small_part : (n k : ℕ) → at + n ≤ length bs → get_or (take n (drop at bs)) k 0 < 256
    small_part n k h = grind (arith, part n k, small (at + k), get_or_past (take n (drop at bs)) k 0, length-take-le n (drop at bs), length-drop at bs)

    -- the bytes of the number that stands at a place are those that stand there
    pub stand2 : at + 2 ≤ length bs → bytes2 (number2 bs at) ≡ take 2 (drop at bs)
    stand2 h = be_bytes_2 (take 2 (drop at bs)) (number2 bs at) (length-take-le 2 (drop at bs) (omega (arith, length-drop at bs))) (λ k. small_part 2 k h) read2

    pub stand4 : at + 4 ≤ length bs → bytes4 (number4 bs at) ≡ take 4 (drop at bs)
    stand4 h = be_bytes_4 (take 4 (drop at bs)) (number4 bs at) (length-take-le 4 (drop at bs) (omega (arith, length-drop at bs))) (λ k. small_part 4 k h) read4

-- a number behind a place is that number of what lies behind it
module _ (bs ys : List ℕ) (at j : ℕ) (behind : drop at bs ≡ ys) where
  pub behind2 : number2 bs (at + j) ≡ number2 ys j
  behind2 = read2 bs (at + j) ∙ ap (λ zs. from_be_bytes w16 (take 2 zs)) (sym (drop-drop j at bs) ∙ ap (drop j) behind) ∙ sym (read2 ys j)

  pub behind4 : number4 bs (at + j) ≡ number4 ys j
  behind4 = read4 bs (at + j) ∙ ap (λ zs. from_be_bytes w32 (take 4 zs)) (sym (drop-drop j at bs) ∙ ap (drop j) behind) ∙ sym (read4 ys j)
