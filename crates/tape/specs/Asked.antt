-- The questions before a block is read or written, and what a refusal tells.
use Rattle.std.specs.Prelude.{ℕ, ◌+◌, Bool, cond, not, ◌&&◌, List, [], ◌∷◌, ◌++◌, map, length, is_some, Some, None, Option, ◌==◌, nat_le}
use Rattle.std.specs.List.{range_with_len}
use Rattle.base.specs.declared.Refusal.{Refusal}
use Rattle.base.specs.Bytes.{number4}
use Rattle.base.specs.Price.{price_in_range}
use Rattle.base.specs.Questions.{Question, ask, first_no}
use Rattle.orders.specs.declared.trade.Fill.{Fill}
use Rattle.orders.specs.declared.trade.Party.{Party}
use Rattle.orders.specs.Limits.{house_in_range, folio_in_range, volume_in_range}
use Rattle.tape.specs.Block.{block_length, fill_at, what_at, who_at}
use Rattle.tape.specs.Faults.{block_refusal}

abbrev pub most_fills : ℕ
most_fills = 3000

abbrev pub party_in_range : Party → Bool
party_in_range p = folio_in_range p.folio && house_in_range p.house

abbrev pub who_in_range : Fill → Bool
who_in_range f = party_in_range f.buyer && party_in_range f.seller

abbrev pub what_in_range : Fill → Bool
what_in_range f = volume_in_range f.volume && price_in_range f.price

-- the place of the first fill that fails a test, counted on from i; none where every one passes
abbrev pub first_bad : (Fill → Bool) → ℕ → List Fill → Option ℕ
first_bad test i [] = None
first_bad test i (f ∷ fs) = cond (test f) (first_bad test (i + 1) fs) (Some i)

abbrev pub every : (Fill → Bool) → List Fill → Bool
every test fs = not (is_some (first_bad test 0 fs))

abbrev pub entry_questions : List Fill → List Question
entry_questions fs = ask (every who_in_range fs) 23 ∷ ask (every what_in_range fs) 24 ∷ []

-- the fills whose entries stand in the bytes, if they are a block of so many
abbrev pub fills_in : List ℕ → ℕ → List Fill
fills_in bs count = map (fill_at bs count) (range_with_len 0 count)

abbrev pub size_questions : List ℕ → List Question
size_questions bs =
    ask (nat_le 8 (length bs)) 20
    ∷ ask (nat_le (number4 bs 0) most_fills) 21
    ∷ ask (number4 bs 4 == block_length (number4 bs 0) && length bs == block_length (number4 bs 0)) 22
    ∷ []

-- reading bytes into a list of so many places
abbrev pub read_questions : List ℕ → ℕ → List Question
read_questions bs places =
    size_questions bs ++ (entry_questions (fills_in bs (number4 bs 0)) ++ (ask (nat_le (number4 bs 0) places) 25 ∷ []))

-- writing fills into a buffer of so many bytes
abbrev pub write_questions : List Fill → ℕ → List Question
write_questions fs room =
    ask (nat_le (length fs) most_fills) 21 ∷ entry_questions fs ++ (ask (nat_le (block_length (length fs)) room) 26 ∷ [])

-- an entry's place in the block, by the first fill that fails a test
abbrev pub offset_of : (ℕ → ℕ) → Option ℕ → ℕ
offset_of at None = 0
offset_of at (Some i) = at i

-- a wrong length stands at the length, an entry out of range at its own offset, all else at 0
abbrev pub place_of : List Fill → ℕ → ℕ → ℕ
place_of fs count number =
    cond (number == 22) 4
    (cond (number == 23) (offset_of who_at (first_bad who_in_range 0 fs))
    (cond (number == 24) (offset_of (what_at count) (first_bad what_in_range 0 fs)) 0))

abbrev pub told : List Fill → ℕ → ℕ → Refusal
told fs count number = block_refusal number (place_of fs count number)

-- what a refused reading and a refused writing tell
abbrev pub read_refusal : List ℕ → ℕ → Refusal
read_refusal bs places = told (fills_in bs (number4 bs 0)) (number4 bs 0) (first_no (read_questions bs places))

abbrev pub write_refusal : List Fill → ℕ → Refusal
write_refusal fs room = told fs (length fs) (first_no (write_questions fs room))
