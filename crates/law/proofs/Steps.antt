-- What holds after one call if it held before.
use Rattle.std.proofs.Common.{◌≡◌, ℕ, suc, ◌+◌, Bool, true, cond, eqb, List, [], ◌∷◌, ◌++◌, Some, None, sum_by, filter, Option, sym, refl, ap, subst, inl, inr, arith}
use Rattle.std.proofs.lemmas.List.Sums.{sum_by-cons, sum_by_push}
use Rattle.std.proofs.lemmas.Bool.{cases_Bool}
use Rattle.std.proofs.lemmas.Bool.Decides.{nat_tests}
use Rattle.base.specs.declared.Side.{Side}
use Rattle.base.specs.declared.Side.TheVariants.{Buy, Sell}
use Rattle.orders.specs.declared.trade.Fill.{Fill}
use Rattle.orders.specs.declared.trade.Party.{Party}
use Rattle.orders.specs.Kind.{Kind}
use Rattle.orders.specs.Ranking.{Ranking}
use Rattle.rules.specs.declared.call.Call.{Call}
use Rattle.rules.specs.declared.call.Call.TheVariants.{Enter, Cancel, Price, Cross}
use Rattle.rules.specs.Calls.{Outcome, Right, between_orders, cancelled, cross_fill, filled, other_folio, refused, state_after}
use Rattle.rules.specs.Day.{Event}
use Rattle.rules.specs.Promises.{AllInTurn, FillsInTurn, NoPairCanTrade, cancelled_by, entered_by, filled_under, fills_of, left_under, resting_volume, shows, taken_out}
use Rattle.rules.specs.Questions.{State, order_of}
use Rattle.law.proofs.Asked.{cross_accepted, entry_accepted}
use Rattle.law.proofs.Places.{all_from_places, kept_all, place_kept}
use Rattle.law.proofs.Sound.{Apart, Sound, all_settled_sound, apart_from_rising, folio_of, kept_sound, pushed_sound, raised_sound}
use Rattle.law.proofs.Sweeps.{swept_comes_to}

-- a cross fills its volume under its folio on both sides
cross_balance : (price : ℕ) (p : Party) (volume folio : ℕ) (side : Side) → filled_under folio side (cross_fill price p volume) ≡ cond (eqb p.folio folio) volume 0
cross_balance price p volume folio Buy = refl
cross_balance price p volume folio Sell = refl

module _ {O : Type 0} (kind : Kind O) where
  -- a call with no fill has none between orders
  none_between : (call : Call O) → between_orders kind call [] ≡ []
  none_between (Enter o) = refl
  none_between (Cancel p) = refl
  none_between (Price q) = refl
  none_between (Cross p v) = refl

  -- fewer orders have no pair that can trade where more had none
  pub fewer_quiet : (price : Option ℕ) (p : O → Bool) (xs : List O) → NoPairCanTrade kind price xs → NoPairCanTrade kind price (filter p xs)
  fewer_quiet None p xs quiet = tt
  fewer_quiet (Some price) p xs quiet = λ i j b s at_b at_s.
      let before_b = place_kept p xs i b at_b in
      let before_s = place_kept p xs j s at_s in
      quiet before_b.0 before_s.0 b s before_b.1 before_s.1

  -- the order with a folio, and the others
  pub cancel_balance : (cancels : ℕ) (o : O) (xs : List O) → Apart kind xs → order_of kind cancels xs ≡ Some o → (folio : ℕ) (side : Side) → resting_volume kind folio side xs ≡ left_under kind folio side o + resting_volume kind folio side (filter (other_folio kind cancels) xs)
  cancel_balance cancels o [] apart found folio side = let z : ◌≡◌ {A = ℕ} 0 1 = cc in absurd (omega arith)
  cancel_balance cancels o (x ∷ xs) apart found folio side =
      elim (cases_Bool (eqb (folio_of kind x) cancels)) [
        | inl same ↦
            let others : filter (other_folio kind cancels) xs ≡ xs =
            kept_all (other_folio kind cancels) xs
            (all_from_places (λ y. other_folio kind cancels y ≡ true) xs
            (λ k y at. grind (arith, nat_tests, same, at.1, apart 0 (suc k) y (omega arith) (omega (arith, at.0))))) in
            grind (arith, same, found, others, sum_by-cons (left_under kind folio side) x xs)
        | inr differs ↦
            let later : order_of kind cancels xs ≡ Some o = grind (arith, differs, found) in
            grind (
              arith,
              differs,
              cancel_balance cancels o xs (λ i j d lt within. apart (suc i) (suc j) d (omega arith) (omega arith)) later folio side,
              sum_by-cons (left_under kind folio side) x xs,
              sum_by-cons (left_under kind folio side) x (filter (other_folio kind cancels) xs),
            )
      ]

  -- what holds after a call
  pub record Step (st : State O) (e : Event O) : Type 0 where
    pub sound : Sound kind (state_after kind st e.call e.outcome).highest (state_after kind st e.call e.outcome).resting
    pub quiet : NoPairCanTrade kind (state_after kind st e.call e.outcome).price (state_after kind st e.call e.outcome).resting
    pub in_turn : FillsInTurn kind st e
    pub balance : (folio : ℕ) (side : Side) → entered_by kind folio side e + resting_volume kind folio side st.resting ≡ sum_by (filled_under folio side) (fills_of e.outcome) + cancelled_by kind folio side st e + resting_volume kind folio side (state_after kind st e.call e.outcome).resting

  -- a call with what it came to
  abbrev event : Ranking → ℕ → Call O → Outcome → Event O
  event rank tape call out = record { rank = rank; call = call; tape = tape; outcome = out }

  module _ (capacity : ℕ) (rank : Ranking) (st : State O) (tape : ℕ) (sound : Sound kind st.highest st.resting) (quiet : NoPairCanTrade kind st.price st.resting) where
    -- a refusal changes nothing
    refused_step : (call : Call O) (n : ℕ) → Step st (event rank tape call (refused n))
    refused_step call n =
        record {
          sound = sound;
          quiet = quiet;
          in_turn = subst (AllInTurn kind rank _ _) (sym (none_between call)) tt;
          balance = λ folio side. omega arith;
        }

    -- an entry joins, and a sweep follows
    entry_step : (o : O) (fs : List Fill) → Right kind rank capacity st tape (Enter o) (filled fs) → Step st (event rank tape (Enter o) (filled fs))
    entry_step o fs right =
        let accepted = entry_accepted kind capacity st tape o right.0 in
        let joined = st.resting ++ (o ∷ []) in
        let pushed = pushed_sound kind st.highest st.resting o sound accepted.0 accepted.2 in
        let comes = swept_comes_to kind (folio_of kind o) rank st.price joined fs right.1.0 pushed right.1.1 in
        record {
          sound = all_settled_sound kind (folio_of kind o) fs joined pushed;
          quiet = comes.quiet;
          in_turn = comes.in_turn;
          balance = λ folio side.
              omega (
                arith,
                comes.balance folio side,
                sum_by_push (left_under kind folio side) st.resting o,
                ap (λ n. cond (shows folio side (kind.header o)) n 0) accepted.1,
              );
        }

    -- a price is swept at
    price_step : (q : Option ℕ) (fs : List Fill) → Right kind rank capacity st tape (Price q) (filled fs) → Step st (event rank tape (Price q) (filled fs))
    price_step q fs right =
        let comes = swept_comes_to kind st.highest rank q st.resting fs right.1.0 sound right.1.1 in
        record {
          sound = all_settled_sound kind st.highest fs st.resting sound;
          quiet = comes.quiet;
          in_turn = comes.in_turn;
          balance = λ folio side. omega (arith, comes.balance folio side);
        }

    -- a cross fills what it enters and leaves the resting orders
    cross_step : (p : Party) (v : ℕ) (fs : List Fill) → Right kind rank capacity st tape (Cross p v) (filled fs) → Step st (event rank tape (Cross p v) (filled fs))
    cross_step p v fs right =
        let above = cross_accepted kind capacity st tape p v right.0 in
        record {
          sound = raised_sound kind st.highest p.folio st.resting (omega arith) sound;
          quiet = quiet;
          in_turn = tt;
          balance = λ folio side.
              omega (
                arith,
                ap (sum_by (filled_under folio side)) right.1.2,
                sum_by-cons (filled_under folio side) (cross_fill right.1.0 p v) [],
                cross_balance right.1.0 p v folio side,
              );
        }

    -- a cancel takes out what it answers
    cancel_step : (p : Party) (v : ℕ) → Right kind rank capacity st tape (Cancel p) (cancelled v) → Step st (event rank tape (Cancel p) (cancelled v))
    cancel_step p v right =
        record {
          sound = kept_sound kind st.highest (other_folio kind p.folio) st.resting sound;
          quiet = fewer_quiet st.price (other_folio kind p.folio) st.resting quiet;
          in_turn = tt;
          balance = λ folio side.
              omega (
                arith,
                cancel_balance p.folio right.1.0 st.resting (apart_from_rising kind st.resting sound.rising) right.1.1 folio side,
                ap (λ found. taken_out kind folio side found v) right.1.1,
                ap (λ n. cond (shows folio side (kind.header right.1.0)) n 0) right.1.2,
              );
        }

    -- what is right keeps all of it
    pub step : (call : Call O) (out : Outcome) → Right kind rank capacity st tape call out → Step st (event rank tape call out)
    step call (refused n) right = refused_step call n
    step (Enter o) (filled fs) right = entry_step o fs right
    step (Cancel p) (filled fs) right = absurd right.1
    step (Price q) (filled fs) right = price_step q fs right
    step (Cross p v) (filled fs) right = cross_step p v fs right
    step (Enter o) (cancelled v) right = absurd right.1
    step (Cancel p) (cancelled v) right = cancel_step p v right
    step (Price q) (cancelled v) right = absurd right.1
    step (Cross p w) (cancelled v) right = absurd right.1
