-- A sweep under way: whatever sweep follows from here, with the fills made so far it is a sweep from the start.
use Rattle.std.proofs.Common.{◌≡◌, ℕ, ◌+◌, ◌-◌, ◌<◌, ◌≤◌, List, [], ◌∷◌, ◌++◌, length, take, drop, set, ap, ◌∙◌, arith}
use Rattle.std.proofs.lemmas.List.{append_assoc, append-nil, drop-set-lt, length-set, length-take-le, take-append-drop, take-append-le, take_more_set}
use Rattle.std.proofs.lemmas.Grind.{drop_more_same}
use Rattle.orders.specs.declared.trade.Fill.{Fill}
use Rattle.orders.specs.Kind.{Kind}
use Rattle.orders.specs.Ranking.{Ranking}
use Rattle.rules.specs.Pairs.{Still}
use Rattle.rules.specs.Sweep.{Sweep, ends, fills}
use Rattle.matching.specs.Sweeping.{FilledFirst, SweptInPlace}

-- of xs and the tape, made fills stand on the tape and the first rests of the orders still rest
pub record Going {O : Type 0} (kind : Kind O) (rank : Ranking) (price : ℕ) (xs : List O) (tape₀ : List Fill) (orders : List O) (tape : List Fill) (made rests : ℕ) : Type 0 where
  pub onward : (fs : List Fill) (ys : List O) → Sweep kind rank price (take rests orders) fs ys → Sweep kind rank price xs (take made tape ++ fs) ys
  pub behind : drop made tape ≡ drop made tape₀
  pub bound : made + rests ≤ length xs
  pub fits : made ≤ length tape

module _ {O : Type 0} (kind : Kind O) (rank : Ranking) (price : ℕ) (xs orders : List O) (tape₀ tape : List Fill) (made rests : ℕ) (long : length orders ≡ length xs) (as_long : length tape ≡ length tape₀) (enough : length xs - 1 ≤ length tape₀) (g : Going kind rank price xs tape₀ orders tape made rests) (after : List O) where
  -- one fill more
  pub going_more : (left : ℕ) (f : Fill) → FilledFirst kind rank price (take rests orders) after f left → length after ≡ length (take rests orders) → Going kind rank price xs tape₀ (after ++ drop rests orders) (set tape made f) (made + 1) left
  going_more left f step same =
      let front = length-take-le rests orders (omega (arith, g.bound)) in
      let room : made < length tape = omega (arith, g.bound, step.two) in
      record {
        onward = λ fs ys s.
            rw (take_more_set tape made f room, append_assoc (take made tape) (f ∷ []) fs)
            (g.onward (f ∷ fs) ys
            (rw step.made
            (fills {ys = ys} {fs = fs} step.first
            (rw (← step.made, ← step.front, ← take-append-le left after (drop rests orders) (omega (arith, step.fewer))) s))));
        behind = drop-set-lt (made + 1) tape made f (omega arith) ∙ drop_more_same tape tape₀ made g.behind;
        bound = omega (arith, g.bound, step.fewer);
        fits = omega (arith, length-set tape made f);
      }

  -- no pair is left
  pub swept_in_place : Still kind price (take rests orders) → after ≡ take rests orders → SweptInPlace kind rank price xs tape₀ (after ++ drop rests orders) tape (record { fills = made; resting = rests })
  swept_in_place still same =
      let whole : after ++ drop rests orders ≡ orders = ap (λ ys. ys ++ drop rests orders) same ∙ take-append-drop rests orders in
      record {
        swept =
            rw (whole, ← append-nil (take made tape)) (g.onward [] (take rests orders) (ends still));
        fills_fit = g.fits;
        rest_fits = omega (arith, g.bound);
        behind = g.behind;
        enough = enough;
      }
