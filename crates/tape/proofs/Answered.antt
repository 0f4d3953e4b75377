-- What reading and writing answer, by what was asked.
use Rattle.std.proofs.Common.{◌≡◌, ℕ, zero, suc, ◌+◌, ◌*◌, ◌<◌, ◌≤◌, Bool, true, false, cond, not, List, [], ◌∷◌, ◌++◌, length, get_or, take, drop, is_some, sym, refl, ap, ◌∙◌, subst, arith}
use borrow.Rule.Slice.PartMut.{put_mid, post_of}
use Rattle.std.specs.List.{AllByRecursion as All, flat_map}
use Rattle.std.proofs.lemmas.List.FromFn.{get_or-map-range_with_len, length-map-range_with_len}
use Rattle.std.proofs.lemmas.List.{append_assoc, length-append, length-take-le, take_at}
use Rattle.std.proofs.lemmas.Slice.{drop-append-drop, drop-put_mid, take-put_mid}
use Rattle.std.proofs.lemmas.Bool.Decides.{nat_tests}
use Rattle.std.proofs.lemmas.Bool.{and_from, and_parts}
use Rattle.base.specs.Bytes.{bytes4, number4}
use Rattle.base.specs.Questions.{Question, first_no}
use Rattle.orders.specs.declared.trade.Fill.{Fill}
use Rattle.tape.specs.Asked.{every, fills_in, first_bad, most_fills, read_questions, size_questions, what_in_range, who_in_range, write_questions}
use Rattle.tape.specs.Block.{LaysOut, block, block_length, fill_at, what_entry, who_entry}
use Rattle.tape.specs.Forms.{Bytes}
use Rattle.tape.specs.Read.{FillsRead, Sized}
use Rattle.tape.specs.Written.{BlockWritten, ReadsBack}
use Rattle.tape.proofs.Entries.{length_entries}
use Rattle.tape.proofs.Laid.{Fits, block_lays_out, laid_fills, one_form, one_list}

-- no question has the number 0
abbrev pub Numbered : List Question → Type 0
Numbered qs = All (λ q. 0 < q.number) qs

-- behind questions that are all answered yes, the first no is that of the rest
pub past : (qs rest : List Question) → Numbered qs → first_no qs ≡ 0 → first_no (qs ++ rest) ≡ first_no rest
past [] rest numbered all = refl
past (q ∷ qs) rest numbered all = elim q.answer as (λ t. cond t (first_no qs) q.number ≡ 0 → cond t (first_no (qs ++ rest)) q.number ≡ first_no rest) [ true ↦ λ e. past qs rest numbered.1 e | false ↦ λ e. absurd (omega (arith, e, numbered.0)) ] all

-- bytes of the right sizes, with every entry in range, are read into any list that has room
read_asked : (bs : List ℕ) (places : ℕ) → first_no (size_questions bs) ≡ 0 → every who_in_range (fills_in bs (number4 bs 0)) ≡ true → every what_in_range (fills_in bs (number4 bs 0)) ≡ true → number4 bs 0 ≤ places → first_no (read_questions bs places) ≡ 0
read_asked bs places asked who what enough = grind (arith, nat_tests)

-- the fills in a block of the right sizes are laid out by it
pub lays_out : (bs : List ℕ) (count : ℕ) → Sized bs count → LaysOut bs (fills_in bs count)
lays_out bs count sized =
    let n = length-map-range_with_len (fill_at bs count) 0 count in
    record {
      counted = sym sized.counted ∙ sym n;
      measured = sized.measured;
      long = sized.long ∙ ap block_length (sym n);
      each = λ i d h. get_or-map-range_with_len (fill_at bs count) 0 count i i d (omega (arith, h)) (omega arith) ∙ ap (λ m. fill_at bs m i) (sym n);
    }

pub fills_read : (bs : List ℕ) (before after : List Fill) (count : ℕ) → Bytes bs → Sized bs count → first_no (read_questions bs (length before)) ≡ 0 → take count after ≡ fills_in bs count → drop count after ≡ drop count before → FillsRead bs before after count
fills_read bs before after count small sized asked front behind =
    let laid = subst (LaysOut bs) (sym front) (lays_out bs count sized) in
    record {
      asked = asked;
      counted = sym (ap length front ∙ length-map-range_with_len (fill_at bs count) 0 count);
      laid_out = laid;
      one_form = one_form bs (take count after) small laid;
      behind = behind;
    }

-- bytes that lay out fills have the right sizes
sized_from : (bs : List ℕ) (fs : List Fill) → LaysOut bs fs → length fs ≤ most_fills → Sized bs (length fs)
sized_from bs fs laid few =
    let n = number4 bs 0 in
    let counted = laid.counted in
    let measured = laid.measured in
    let long = laid.long in
    record {
      asked = grind (arith, nat_tests, and_from);
      counted = sym counted;
      few = few;
      measured = measured;
      long = long;
    }

-- where every fill passes a test, the one at each place does
passes : (test : Fill → Bool) (fs : List Fill) (i : ℕ) → not (is_some (first_bad test i fs)) ≡ true → (k : ℕ) (d : Fill) → k < length fs → test (get_or fs k d) ≡ true
passes test [] i all k d below = absurd (omega arith)
passes test (f ∷ fs) i all zero d below = grind (arith, nat_tests)
passes test (f ∷ fs) i all (suc k) d below =
    let rest : not (is_some (first_bad test (i + 1) fs)) ≡ true = grind (arith, nat_tests) in
    passes test fs (i + 1) rest k d (omega arith)

-- what is in range fits its bytes
fits : (f : Fill) → who_in_range f ≡ true → what_in_range f ≡ true → Fits f
fits f who what =
    record {
      price = grind (arith, nat_tests, and_parts);
      volume = grind (arith, nat_tests, and_parts);
      buy_folio = grind (arith, nat_tests, and_parts);
      sell_folio = grind (arith, nat_tests, and_parts);
      buy_house = grind (arith, nat_tests, and_parts);
      sell_house = grind (arith, nat_tests, and_parts);
    }

module _ (fs : List Fill) (few : length fs ≤ most_fills) (who : every who_in_range fs ≡ true) (what : every what_in_range fs ≡ true) where
  -- the block of fills that are all in range lays them out, and is read back as they are
  pub in_range_laid : LaysOut (block fs) fs
  in_range_laid =
      block_lays_out fs few (λ i d h. fits (get_or fs i d) (passes who_in_range fs 0 who i d h) (passes what_in_range fs 0 what i d h))

  pub in_range_back : ReadsBack (block fs) fs
  in_range_back =
      let bs = block fs in
      let laid = in_range_laid in
      let same = laid_fills bs fs laid in
      record {
        accepted = λ places enough.
            let sized = sized_from bs fs laid few in
            read_asked bs places sized.asked
            (rw (← sized.counted, ← same) who)
            (rw (← sized.counted, ← same) what)
            (rw (← sized.counted) enough);
        same = λ gs other. one_list bs gs fs other laid;
      }

  -- the three parts of a block, written one behind the other
  pub block_written : (before sizes whos whats : List ℕ) (at m k end : ℕ) → first_no (write_questions fs (length before)) ≡ 0 → end ≡ block_length (length fs) → end ≤ length before → at ≡ 8 + 12 * length fs → m ≡ 12 * length fs → k ≡ 8 * length fs → sizes ≡ bytes4 (length fs) ++ bytes4 end → whos ≡ flat_map who_entry fs → whats ≡ flat_map what_entry fs → BlockWritten fs before (put_mid at k (put_mid 8 m (sizes ++ post_of 0 8 before) whos) whats) end
  block_written before sizes whos whats at m k end asked ends room whats-at whos-end whats-end sizes-are whos-are whats-are =
      let n = length fs in
      let one = sizes ++ post_of 0 8 before in
      let two = put_mid 8 m one whos in
      let after = put_mid at k two whats in
      let sizes_long : length sizes ≡ 8 = ap length sizes-are in
      let whos_long : length whos ≡ 12 * n = ap length whos-are ∙ length_entries who_entry 12 (λ f. refl) fs in
      let whats_long : length whats ≡ 8 * n = ap length whats-are ∙ length_entries what_entry 8 (λ f. refl) fs in
      let one_long : 8 ≤ length one = omega (arith, length-append sizes (post_of 0 8 before)) in
      let front_two : take at two ≡ sizes ++ whos = grind (arith, take-put_mid 8 m one whos at, take_at sizes (post_of 0 8 before) 8) in
      let two_long : at ≤ length two = grind (arith, length-append, length-take-le 8 one one_long) in
      let front : take end after ≡ block fs = grind (arith, take-put_mid at k two whats end, append_assoc) in
      let behind : drop end after ≡ drop end before =
      grind (arith, drop-put_mid at k two whats end, drop-put_mid 8 m one whos end, drop-append-drop 8 before sizes end) in
      record {
        asked = asked;
        measured = ends;
        front = front;
        behind = behind;
        laid_out = subst (λ ys. LaysOut ys fs) (sym front) in_range_laid;
        reads_back = subst (λ ys. ReadsBack ys fs) (sym front) in_range_back;
      }
