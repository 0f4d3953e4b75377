-- Digits, the numbers that they write, and where they end.
use Rattle.std.proofs.Common.{◌≡◌, ℕ, zero, suc, ◌^◌, ◌<◌, List, [], ◌∷◌, ◌++◌, length, get_or, Ok, Err, Some, None, IsUtf8, decimal, Result, MatchOption, ◌≢◌, sym, refl, ap, ◌∙◌, subst, ⊎_elim, arith}
use Rattle.std.specs.Str.Parse.{digits_value, ParsesUnsigned}
use Rattle.std.specs.Int.{IsInRange}
use Rattle.std.specs.Result.{result_ok}
use Rattle.std.proofs.lemmas.Fmt.{IsAscii-from_digits, decimal_digit, decimal_nonempty, decimal-digits_value, first_decimal, digits_value-decimal}
use Rattle.std.proofs.lemmas.Str.Parse.{IsNumeralModel, numerals_by_value, tells_by_index, parse_digits}
use Rattle.std.proofs.lemmas.Option.{none-some, same_Some}
use Rattle.std.proofs.lemmas.Bool.{cases_lt}
use Rattle.std.proofs.lemmas.Str.{IsUtf8-from_ascii}
use Rattle.lines.specs.Numbers.{AllDigits, NoDigitFirst}

-- digits and what they are worth, in the words of the library's lemmas
pub own : IsNumeralModel AllDigits (digits_value 10)
own = numerals_by_value AllDigits tells_by_index

pub digits_utf8 : (ds : List ℕ) → AllDigits ds → IsUtf8 ds
digits_utf8 ds all = IsUtf8-from_ascii ds (IsAscii-from_digits ds (own.to ds all))

-- only 0 itself has a zero in front
pub leading_zero : (ds : List ℕ) → 1 < length ds → get_or ds 0 0 ≡ 48 → (n : ℕ) → n < 2 ^ 32 → ds ≢ decimal n
leading_zero ds long zero_first zero small e = let one = ap length (e ∙ decimal_digit 0 (omega arith)) in omega arith
leading_zero ds long zero_first (suc n) small e =
    let first = first_decimal (suc n) (omega arith) (omega arith) in
    let same_first = ap (λ (l : List ℕ). get_or l 0 0) e in
    omega arith

-- the result of which `ok` gives a value, or none
pub Ok-from_some : {T E : Type 0} (r : Result T E) (x : T) → Some x ≡ result_ok r → r ≡ Ok x
Ok-from_some (Ok y) x e = ap Ok (sym (same_Some x y e))
Ok-from_some (Err d) x e = absurd (none-some x (sym e))

pub Err-from_none : {T E : Type 0} (r : Result T E) → None ≡ result_ok r → (d : E) × (r ≡ Err d)
Err-from_none (Ok y) e = absurd (none-some y e)
Err-from_none (Err d) e = (d, refl)

-- digits that were not parsed are no number's decimal
pub not_parsed : {E : Type 0} (ds : List ℕ) (d : E) → AllDigits ds → ParsesUnsigned 32 10 ds (Err d) → (n : ℕ) → n < 2 ^ 32 → ds ≢ decimal n
not_parsed {E} ds d all reads =
    λ n small is.
    let some = decimal_nonempty n (omega arith) in
    let long = ap length is in
    let worth : digits_value 10 ds ≡ n = ap (digits_value 10) is ∙ digits_value-decimal own n (omega arith) in
    parse_digits own {E = E} 32 ds (Err d) reads all (omega arith, omega arith)

-- digits that were parsed are their number's decimal, and others are no number's of 32 bits
pub parsed : {E : Type 0} (ds : List ℕ) (r : Result ℕ E) → AllDigits ds → (1 < length ds → get_or ds 0 0 ≢ 48) → ParsesUnsigned 32 10 ds r → MatchOption (result_ok r) ((n : ℕ) → n < 2 ^ 32 → ds ≢ decimal n) (λ n. ds ≡ decimal n)
parsed {E} ds (Ok n) all no_zero reads =
    let told = parse_digits own {E = E} 32 ds (Ok n) reads all in
    let alone : get_or ds 0 0 ≡ 48 → length ds ≡ 1 =
    λ zero. ⊎_elim (λ long. absurd (no_zero long zero)) (λ short. omega (arith, told.0.0)) (cases_lt 1 (length ds)) in
    sym (decimal-digits_value own ds all told.0.0 alone (omega (arith, told.0.1))) ∙ ap decimal (sym told.1)
parsed {E} ds (Err d) all no_zero reads = not_parsed ds d all reads

-- the longest run of digits at the front is one, whatever stands behind it
pub same_run : (ds es xs ys : List ℕ) → AllDigits ds → AllDigits es → NoDigitFirst xs → NoDigitFirst ys → ds ++ xs ≡ es ++ ys → (ds ≡ es) × (xs ≡ ys)
same_run [] [] xs ys p q r s e = (refl, e)
same_run [] (b ∷ es) xs ys p q r s e = absurd (r (subst (λ (l : List ℕ). IsInRange 48 57 (get_or l 0 0)) (sym e) (q 0 (omega arith))))
same_run (a ∷ ds) [] xs ys p q r s e = absurd (s (subst (λ (l : List ℕ). IsInRange 48 57 (get_or l 0 0)) e (p 0 (omega arith))))
same_run (a ∷ ds) (b ∷ es) xs ys p q r s e =
    let heads : a ≡ b = cc in
    let tails : ds ++ xs ≡ es ++ ys = cc in
    let rest = same_run ds es xs ys (λ i h. p (suc i) (omega arith)) (λ i h. q (suc i) (omega arith)) r s tails in
    (λ i. heads i ∷ rest.0 i, rest.1)
