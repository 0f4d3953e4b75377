-- Numbers read one after the other, each behind a space.
use Rattle.std.proofs.Common.{◌≡◌, ℕ, ◌+◌, ◌^◌, ◌<◌, ◌≤◌, List, [], ◌∷◌, ◌++◌, length, get_or, take, drop, set, ◌==◌, Bool, true, false, true-eqb, false-eqb, decimal, MatchOption, sym, refl, ap, ◌∙◌, append_assoc, append-nil, arith}
use Rattle.std.proofs.lemmas.Fmt.{digits_decimal}
use Rattle.std.proofs.lemmas.List.{drop_all, drop_more, length-set, nil_from_length, take_all, take_more_set, flat_map_more}
use Rattle.std.proofs.lemmas.List.Elements.{AllWithin-more_set}
use Rattle.std.specs.Bool.{then_some}
use Rattle.std.specs.List.{AllWithin}
use Rattle.lines.specs.Numbers.{spaced, numbers, AllDigits, NoDigitFirst, Writes}
use Rattle.lines.proofs.Digits.{own, same_run}

-- bytes that begin with a digit run are a number and a rest in one way
pub same_number : (ds : List ℕ) (n : ℕ) (xs ys : List ℕ) → AllDigits ds → n < 2 ^ 32 → NoDigitFirst xs → NoDigitFirst ys → ds ++ xs ≡ decimal n ++ ys → (ds ≡ decimal n) × (xs ≡ ys)
same_number ds n xs ys all small = same_run ds (decimal n) xs ys all (digits_decimal own n (omega arith))

pub numbers_stop : (ns : List ℕ) → NoDigitFirst (numbers ns)
numbers_stop [] digit = omega arith
numbers_stop (n ∷ ns) digit = omega arith

-- the first i of count numbers are read, rest is what is left, and no other numbers have these bytes
pub record Sofar (count : ℕ) (bytes read : List ℕ) (i : ℕ) (rest : List ℕ) : Type 0 where
  pub size : length read ≡ count
  pub small : AllWithin (λ n. n < 2 ^ 32) read 0 i
  pub front : bytes ≡ numbers (take i read) ++ rest
  pub only : (ns : List ℕ) → Writes count bytes ns → rest ≡ numbers (drop i ns)

pub none_read : (count : ℕ) (bytes read : List ℕ) → length read ≡ count → Sofar count bytes read 0 bytes
none_read count bytes read size = record { size = size; small = λ k d low high. absurd (omega arith); front = refl; only = λ ns w. w.is }

module _ {count : ℕ} {bytes read : List ℕ} {i : ℕ} {rest : List ℕ} (sofar : Sofar count bytes read i rest) where
  -- the next of some numbers that have these bytes
  next : i < count → (ns : List ℕ) → Writes count bytes ns → rest ≡ spaced (get_or ns i 0) ++ numbers (drop (i + 1) ns)
  next more ns w = let size = w.size in sofar.only ns w ∙ ap numbers (drop_more ns i 0 (omega arith))

  next_small : i < count → (ns : List ℕ) → Writes count bytes ns → get_or ns i 0 < 2 ^ 32
  next_small more ns w = let size = w.size in w.small i 0 (omega arith)

  pub one_more : i < count → (n : ℕ) (behind : List ℕ) → n < 2 ^ 32 → rest ≡ spaced n ++ behind → NoDigitFirst behind → Sofar count bytes (set read i n) (i + 1) behind
  one_more more n behind fits is stops =
      let size = sofar.size in
      let pushed : take (i + 1) (set read i n) ≡ take i read ++ (n ∷ []) = take_more_set read i n (omega arith) in
      record {
        size = length-set read i n ∙ sofar.size;
        small = AllWithin-more_set read i n (omega arith) (λ m. m < 2 ^ 32) sofar.small fits;
        front =
            sofar.front
            ∙ ap (λ (l : List ℕ). numbers (take i read) ++ l) is
            ∙ sym (append_assoc (numbers (take i read)) (spaced n) behind)
            ∙ ap (λ (l : List ℕ). l ++ behind) (flat_map_more spaced [] (take i read) n ∙ sym (ap numbers pushed));
        only =
            λ ns w.
            let both = sym is ∙ next more ns w in
            let tails : decimal n ++ behind ≡ decimal (get_or ns i 0) ++ numbers (drop (i + 1) ns) = cc in
            (same_number
            (decimal n)
            (get_or ns i 0)
            behind
            (numbers (drop (i + 1) ns))
            (digits_decimal own n (omega arith))
            (next_small more ns w)
            stops
            (numbers_stop (drop (i + 1) ns))
            tails).1;
      }

  pub no_more : i < count → ((n : ℕ) (behind : List ℕ) → n < 2 ^ 32 → NoDigitFirst behind → rest ≡ spaced n ++ behind → ⊥) → (ns : List ℕ) → Writes count bytes ns → ⊥
  no_more more none ns w =
      none (get_or ns i 0) (numbers (drop (i + 1) ns)) (next_small more ns w) (numbers_stop (drop (i + 1) ns)) (next more ns w)

  -- all the numbers are read: they are the text's where nothing is left of it, and else the text has more
  pub all_read : (empty : Bool) → empty ≡ (length rest == 0) → count ≤ i → MatchOption (then_some empty read) ((ns : List ℕ) → Writes count bytes ns → ⊥) (Writes count bytes)
  all_read true is done =
      let size = sofar.size in
      record {
        size = size;
        small = λ k d h. sofar.small k d (omega arith) (omega arith);
        is =
            sofar.front
            ∙ ap (λ (l : List ℕ). numbers (take i read) ++ l) (nil_from_length rest (true-eqb _ 0 is))
            ∙ append-nil (numbers (take i read))
            ∙ ap numbers (take_all i read (omega arith));
      }
  all_read false is done =
      λ ns w.
      let size = w.size in
      false-eqb _ 0 is (ap length (sofar.only ns w ∙ ap numbers (drop_all i ns (omega arith))))
