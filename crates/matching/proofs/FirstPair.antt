-- The first pair of the first rows, one row more.
use Rattle.std.proofs.Common.{◌≡◌, ℕ, ◌+◌, ◌<◌, ◌≤◌, true, false, ◌⊎◌, List, length, Some, None, MatchOption, Option, ◌∙◌, subst, inl, inr, arith}
use Rattle.std.specs.Option.{option_map}
use Rattle.std.proofs.lemmas.Bool.{both_ways, cases_lt, cond_both, false_from_ne_true}
use Rattle.orders.specs.Kind.{Kind}
use Rattle.orders.specs.Ranking.{Ranking}
use Rattle.rules.specs.Pairs.{can_trade, comes_before, Place, Still, First}
use Rattle.law.proofs.Places.{same_place}
use Rattle.law.proofs.Turns.{sells_compared}
use Rattle.matching.specs.declared.search.Candidate.{Candidate}
use Rattle.matching.specs.Rows.{BestPair, FirstOf, RowPair, chosen, earlier}
use Rattle.matching.proofs.Orders.{rows_transitive, row_raised}

module _ {O : Type 0} (kind : Kind O) (rank : Ranking) (price : ℕ) (xs : List O) where
  -- a row below n + 1 is one below n, or n with the order there
  row_cases : (n k : ℕ) (order c : O) → Place xs n order → k < n + 1 → Place xs k c → (k < n) ⊎ ((k ≡ n) × (c ≡ order))
  row_cases n k order c there below p =
      elim (cases_lt k n) [
        | inl under ↦ inl under
        | inr over ↦
            let e : k ≡ n = omega arith in
            inr (e, same_place xs n c order (subst (λ (i : ℕ). Place xs i c) e p) there)
      ]

  -- the best stays where no pair of row n comes before it
  stays : (n : ℕ) (order : O) (best : Candidate) → Place xs n order → BestPair kind rank price xs n best → ((l : ℕ) (t : O) → Place xs l t → can_trade kind price order t ≡ true → comes_before rank n (kind.header order) (kind.header t) best.buy.place best.buy.header best.sell.header ≡ false) → BestPair kind rank price xs (n + 1) best
  stays n order best there first row =
      record {
        buy = first.buy;
        sell = first.sell;
        buy_there = first.buy_there;
        sell_there = first.sell_there;
        buyer = first.buyer;
        seller = first.seller;
        above = omega (arith, first.above);
        trades = first.trades;
        none_before = λ k l c t below p q can.
            elim (row_cases n k order c there below p) [
              | inl under ↦ first.none_before k l c t under p q can
              | inr here ↦ rw (here.0, here.1) (row l t q (rw here.1 at can))
            ];
      }

  -- a row without a pair
  none_more : (n : ℕ) (order : O) (best : Option Candidate) → Place xs n order → ((l : ℕ) (t : O) → Place xs l t → can_trade kind price order t ≡ false) → FirstOf kind rank price xs n best → FirstOf kind rank price xs (n + 1) best
  none_more n order None there row first = λ k l c t below p q.
      elim (row_cases n k order c there below p) [ inl under ↦ first k l c t under p q | inr here ↦ rw here.1 (row l t q) ]
  none_more n order (Some best) there row first =
      stays n order best there first (λ l t q can. absurd (both_ways (can_trade kind price order t) (row l t q) can))

  -- the first pair of row n, once no pair of an earlier row comes before it
  taken : (n : ℕ) (order : O) (new : Candidate) → Place xs n order → RowPair kind rank price xs n order (Some new) → ((k l : ℕ) (c t : O) → k < n → Place xs k c → Place xs l t → can_trade kind price c t ≡ true → comes_before rank k (kind.header c) (kind.header t) n (kind.header order) new.sell.header ≡ false) → BestPair kind rank price xs (n + 1) new
  taken n order new there row before =
      let best = row.2 in
      record {
        buy = order;
        sell = best.sell;
        buy_there = rw row.0 there;
        sell_there = best.there;
        buyer = row.1;
        seller = best.shows;
        above = omega (arith, row.0);
        trades = best.trades;
        none_before = λ k l c t below p q can.
            rw (row.0, row.1)
            (elim (row_cases n k order c there below p) [
              | inl under ↦ before k l c t under p q can
              | inr here ↦ rw (here.0, here.1) (sells_compared rank n (kind.header order) (kind.header t) new.sell.header ∙ best.none_before l t q (rw here.1 at can))
            ]);
      }

  -- the pair of the row comes before the best so far, and takes its place
  replaced : (n : ℕ) (order : O) (best new : Candidate) → Place xs n order → RowPair kind rank price xs n order (Some new) → BestPair kind rank price xs n best → earlier rank new best ≡ true → BestPair kind rank price xs (n + 1) new
  replaced n order best new there row first sooner =
      taken n order new there row (λ k l c t under p q can.
      false_from_ne_true
      (comes_before rank k (kind.header c) (kind.header t) n (kind.header order) new.sell.header)
      (λ before.
      both_ways
      (comes_before rank k (kind.header c) (kind.header t) best.buy.place best.buy.header best.sell.header)
      (first.none_before k l c t under p q can)
      (rows_transitive rank k n best.buy.place (kind.header c) (kind.header t) (kind.header order) new.sell.header best.buy.header best.sell.header (λ e. omega arith) before (rw row.1 at sooner))))

  -- it does not, and the best stays
  not_sooner : (n : ℕ) (order : O) (best new : Candidate) → Place xs n order → RowPair kind rank price xs n order (Some new) → BestPair kind rank price xs n best → earlier rank new best ≡ false → BestPair kind rank price xs (n + 1) best
  not_sooner n order best new there row first later =
      stays n order best there first (λ l t q can.
      false_from_ne_true
      (comes_before rank n (kind.header order) (kind.header t) best.buy.place best.buy.header best.sell.header)
      (λ before.
      both_ways
      (earlier rank new best)
      later
      (rw row.1 (row_raised rank n best.buy.place (kind.header order) (kind.header t) new.sell.header best.buy.header best.sell.header (λ e. omega (arith, first.above)) (row.2.none_before l t q can) before))))

  -- one row more
  pub row_more : (n : ℕ) (order : O) (best row : Option Candidate) → Place xs n order → RowPair kind rank price xs n order row → FirstOf kind rank price xs n best → FirstOf kind rank price xs (n + 1) (chosen rank best row)
  row_more n order best None there row first = none_more n order best there row first
  row_more n order None (Some new) there row first =
      taken n order new there row (λ k l c t under p q can. absurd (both_ways (can_trade kind price c t) (first k l c t under p q) can))
  row_more n order (Some best) (Some new) there row first =
      cond_both
      (earlier rank new best)
      (Some new)
      (Some best)
      (λ r. FirstOf kind rank price xs (n + 1) r)
      (replaced n order best new there row first)
      (not_sooner n order best new there row first)

  -- all rows read
  pub first_of_all : (n : ℕ) (best : Option Candidate) → length xs ≤ n → FirstOf kind rank price xs n best → MatchOption {T = ℕ × ℕ} (option_map (λ pair. (pair.buy.place, pair.sell.place)) best) (Still kind price xs) (λ p. (b : O) × (s : O) × First kind rank price xs p.0 p.1 b s)
  first_of_all n None all none = λ i j b s p q. none i j b s (omega (arith, p.0)) p q
  first_of_all n (Some best) all first = (
    first.buy,
    first.sell,
    record {
      buy_there = first.buy_there;
      sell_there = first.sell_there;
      trades = first.trades;
      none_before = λ k l c t p q can. rw (← first.buyer, ← first.seller) (first.none_before k l c t (omega (arith, p.0)) p q can);
    },
  )
