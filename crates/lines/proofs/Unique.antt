-- No two readable calls have the same line, so a line is read as the one call that it writes.
use Rattle.std.proofs.Common.{◌≡◌, ℕ, suc, ◌^◌, ◌<◌, List, [], ◌∷◌, ◌++◌, length, get_or, drop, Some, None, decimal, sym, refl, ap, ◌∙◌, append-nil, arith}
use Rattle.std.proofs.lemmas.Fmt.{digits_decimal, decimal_injective}
use Rattle.base.specs.declared.Side.{Side}
use Rattle.base.specs.declared.Side.TheVariants.{Buy, Sell}
use Rattle.orders.specs.declared.trade.Party.{Party}
use Rattle.rules.specs.declared.call.Call.{Call}
use Rattle.rules.specs.declared.call.Call.TheVariants.{Enter, Cancel, Price, Cross}
use Rattle.kinds.specs.declared.midpoint.MidpointOrder.{MidpointOrder}
use Rattle.lines.specs.Lines.{side_word, order_numbers, numbers_of, line_of, Readable}
use Rattle.lines.specs.Numbers.{numbers, Small}
use Rattle.lines.proofs.Digits.{own}
use Rattle.lines.proofs.Readings.{same_number, numbers_stop}

same_numbers : (ns ms : List ℕ) → Small ns → Small ms → numbers ns ≡ numbers ms → ns ≡ ms
same_numbers [] [] p q e = refl
same_numbers [] (m ∷ ms) p q e = let long = ap length e in absurd (omega arith)
same_numbers (n ∷ ns) [] p q e = let long = ap length e in absurd (omega arith)
same_numbers (n ∷ ns) (m ∷ ms) p q e =
    let fits = p 0 0 (omega arith) in
    let same_fits = q 0 0 (omega arith) in
    let tails : decimal n ++ numbers ns ≡ decimal m ++ numbers ms = cc in
    let parts = same_number (decimal n) m (numbers ns) (numbers ms) (digits_decimal own n (omega arith)) same_fits (numbers_stop ns) (numbers_stop ms) tails in
    let heads = decimal_injective n m (omega arith) (omega arith) parts.0 in
    let rest = same_numbers ns ms (λ k d h. p (suc k) d (omega arith)) (λ k d h. q (suc k) d (omega arith)) parts.1 in
    λ i. heads i ∷ rest i

after_side : (side : Side) (xs : List ℕ) → drop 1 (side_word side ++ xs) ≡ xs
after_side Buy xs = refl
after_side Sell xs = refl

same_side : (s t : Side) (xs ys : List ℕ) → side_word s ++ xs ≡ side_word t ++ ys → s ≡ t
same_side Buy Buy xs ys e = refl
same_side Sell Sell xs ys e = refl
same_side s t xs ys e = let letters = ap (λ (l : List ℕ). get_or l 0 0) e in absurd (omega arith)

-- a dash is no number
dash_apart : (n : ℕ) → n < 2 ^ 32 → 45 ∷ [] ≡ decimal n ++ [] → ⊥
dash_apart n small e =
    let dash = e ∙ append-nil (decimal n) in
    let long = ap length dash in
    let first = ap (λ (l : List ℕ). get_or l 0 0) dash in
    let digit = digits_decimal own n (omega arith) 0 (omega arith) in
    omega arith

abbrev party_of : List ℕ → Party
party_of ns = record { house = get_or ns 0 0; folio = get_or ns 1 0 }

abbrev order_of : Side → List ℕ → ℕ → MidpointOrder
order_of side ns left =
    record {
      header = record { side = side; party = party_of ns; entered = get_or ns 2 0; left = left };
      protection = get_or ns 3 0;
      minimum = get_or ns 4 0;
    }

same_order : (o p : MidpointOrder) → Readable (Enter o) → Readable (Enter p) → line_of (Enter o) ≡ line_of (Enter p) → o ≡ p
same_order o p a b e =
    let behind = λ (q : MidpointOrder). after_side q.header.side (numbers (order_numbers q)) in
    let sides = same_side o.header.side p.header.side (numbers (order_numbers o)) (numbers (order_numbers p)) (ap (drop 2) e) in
    let ns = same_numbers (order_numbers o) (order_numbers p) a.0 b.0 (sym (behind o) ∙ ap (drop 3) e ∙ behind p) in
    let left : o.header.left ≡ p.header.left = a.1 ∙ ap (λ (l : List ℕ). get_or l 2 0) ns ∙ sym b.1 in
    λ i. order_of (sides i) (ns i) (left i)

abbrev letter_of : Call MidpointOrder → ℕ
letter_of (Enter o) = 69
letter_of (Cancel p) = 75
letter_of (Price price) = 80
letter_of (Cross p volume) = 88

begins : (c : Call MidpointOrder) → get_or (line_of c) 0 0 ≡ letter_of c
begins (Price None) = refl
begins (Price (Some price)) = refl
begins c = refl

pub one_call : (c d : Call MidpointOrder) → Readable c → Readable d → line_of c ≡ line_of d → c ≡ d
one_call (Enter o) (Enter p) a b e = ap Enter (same_order o p a b e)
one_call (Cancel o) (Cancel p) a b e =
    let ns = same_numbers (numbers_of (Cancel o)) (numbers_of (Cancel p)) a.0 b.0 (ap (drop 1) e) in
    λ i. Cancel (party_of (ns i))
one_call (Price None) (Price None) a b e = refl
one_call (Price None) (Price (Some q)) a b e = absurd (dash_apart q (b.0 0 0 (omega arith)) (ap (drop 2) e))
one_call (Price (Some q)) (Price None) a b e = absurd (dash_apart q (a.0 0 0 (omega arith)) (sym (ap (drop 2) e)))
one_call (Price (Some q)) (Price (Some r)) a b e =
    let ns = same_numbers (numbers_of (Price (Some q))) (numbers_of (Price (Some r))) a.0 b.0 (ap (drop 1) e) in
    λ i. Price (Some (get_or (ns i) 0 0))
one_call (Cross o u) (Cross p v) a b e =
    let ns = same_numbers (numbers_of (Cross o u)) (numbers_of (Cross p v)) a.0 b.0 (ap (drop 1) e) in
    λ i. Cross (party_of (ns i)) (get_or (ns i) 2 0)
-- other calls have other first letters
one_call c d a b e =
    let letters = sym (begins c) ∙ ap (λ (l : List ℕ). get_or l 0 0) e ∙ begins d in
    absurd (omega arith)
