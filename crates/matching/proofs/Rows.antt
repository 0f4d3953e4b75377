-- The first sell of a buy, one order more.
use Rattle.std.proofs.Common.{◌≡◌, ℕ, ◌+◌, ◌<◌, true, false, cond, ◌&&◌, ◌⊎◌, List, [], ◌∷◌, ◌++◌, length, get_or, take, Some, None, Option, sym, refl, inl, inr, arith}
use Rattle.std.proofs.lemmas.List.{length-take-le, take_more}
use Rattle.std.proofs.lemmas.Bool.{and_cases, and_parts, both_ways, cond_both, false_from_ne_true, true≢false}
use Rattle.orders.specs.Kind.{Kind}
use Rattle.orders.specs.Ranking.{Ranking}
use Rattle.rules.specs.Pairs.{can_trade, stands_before, Place}
use Rattle.matching.specs.declared.search.Placed.{Placed}
use Rattle.matching.specs.Rows.{better, FirstSell}
use Rattle.matching.proofs.Orders.{stands_irreflexive, stands_transitive}
use Rattle.matching.proofs.Places.{place_old, place_new, place_cases}

module _ {O : Type 0} (kind : Kind O) (rank : Ranking) (price : ℕ) (buy : O) where
  -- an order that cannot trade with the buy, or is no better than the best so far, is passed over
  pub sell_passed : (xs : List O) (x : O) (best : Option Placed) → FirstSell kind rank price xs buy best → (can_trade kind price buy x ≡ false) ⊎ (better rank (kind.header buy) (kind.header x) best ≡ false) → FirstSell kind rank price (xs ++ (x ∷ [])) buy best
  sell_passed xs x None none no-better = λ l t p.
      elim (place_cases xs x l t p) [
        | inl old ↦ none l t old
        | inr new ↦ elim no-better [ inl not ↦ rw new.1 not | inr bad ↦ absurd (true≢false bad) ]
      ]
  sell_passed xs x (Some best) first no-better =
      record {
        sell = first.sell;
        there = place_old xs x best.place first.sell first.there;
        shows = first.shows;
        trades = first.trades;
        none_before = λ l t p can.
            elim (place_cases xs x l t p) [
              | inl old ↦ first.none_before l t old can
              | inr new ↦ elim no-better [
                | inl not ↦ absurd (both_ways (can_trade kind price buy x) not (rw new.1 at can))
                | inr worse ↦ rw new.1 worse
              ]
            ];
      }

  -- one that can trade and is better takes its place
  pub sell_taken : (xs : List O) (x : O) (i : ℕ) (best : Option Placed) → i ≡ length xs → FirstSell kind rank price xs buy best → can_trade kind price buy x ≡ true → better rank (kind.header buy) (kind.header x) best ≡ true → FirstSell kind rank price (xs ++ (x ∷ [])) buy (Some (record { place = i; header = kind.header x }))
  sell_taken xs x i best at first can is-better =
      record {
        sell = x;
        there = rw at (place_new xs x);
        shows = refl;
        trades = can;
        none_before = λ l t p trades.
            elim (place_cases xs x l t p) [
              | inl old ↦ earlier best first is-better l t old trades
              | inr new ↦ rw new.1 (stands_irreflexive rank (kind.header buy) (kind.header x))
            ];
      }
    where
      earlier : (was : Option Placed) → FirstSell kind rank price xs buy was → better rank (kind.header buy) (kind.header x) was ≡ true → (l : ℕ) (t : O) → Place xs l t → can_trade kind price buy t ≡ true → stands_before rank (kind.header buy) (kind.header t) (kind.header x) ≡ false
      earlier None none b l t p trades = absurd (both_ways (can_trade kind price buy t) (none l t p) trades)
      earlier (Some was) f b l t p trades =
          false_from_ne_true
          (stands_before rank (kind.header buy) (kind.header t) (kind.header x))
          (λ before. both_ways (stands_before rank (kind.header buy) (kind.header t) was.header) (f.none_before l t p trades) (stands_transitive rank (kind.header buy) (kind.header t) (kind.header x) was.header before b))

  -- the order x, read at i, is the best if the buy can trade with it and it is better; otherwise the best so far is
  pub sell_more : (xs : List O) (i : ℕ) (x : O) (best now : Option Placed) → i < length xs → x ≡ get_or xs i x → now ≡ cond (can_trade kind price buy x && better rank (kind.header buy) (kind.header x) best) (Some (record { place = i; header = kind.header x })) best → FirstSell kind rank price (take i xs) buy best → FirstSell kind rank price (take (i + 1) xs) buy now
  sell_more xs i x best now within read is first =
      rw (is, take_more xs i x within, ← read)
      (cond_both (can_trade kind price buy x && better rank (kind.header buy) (kind.header x) best) (Some (record { place = i; header = kind.header x })) best
      (λ r. FirstSell kind rank price (take i xs ++ (x ∷ [])) buy r)
      (λ both. let parts = and_parts _ _ both in sell_taken (take i xs) x i best (sym (length-take-le i xs (omega arith))) first parts.0 parts.1)
      (λ not_both. sell_passed (take i xs) x best first (and_cases _ _ not_both)))
