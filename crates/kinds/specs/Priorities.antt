-- What the two priorities mean, and that each is an order.
use Rattle.std.specs.Prelude.{◌≡◌, ◌<◌, ◌≤◌, Bool, false, not, ◌&&◌, ◌||◌, ◌⊎◌, Decides, ◌==◌, ◌≢◌, nat_lt}
use Rattle.std.proofs.Common.{inl, inr, ⊎_elim, sym, arith}
use Rattle.std.proofs.lemmas.Bool.{cases_Bool, cases_order}
use Rattle.std.proofs.lemmas.Bool.Decides.{same_from_decides, Decides-like, Decides-not, Decides-ltb, Decides-eqb, Decides-and, Decides-or}
use Rattle.orders.specs.declared.trade.Header.{Header}
use Rattle.orders.specs.Ranking.{Ranking}

-- the lower folio is before
abbrev pub arrival_before : Header → Header → Bool
arrival_before a b = nat_lt a.party.folio b.party.folio

-- the larger volume entered is before; of equal volumes the lower folio
abbrev pub volume_before : Header → Header → Bool
volume_before a b = nat_lt b.entered a.entered || (a.entered == b.entered && arrival_before a b)

-- a test that decides an order on headers is a ranking
module _ (before : Header → Header → Bool) (Before : Header → Header → Type 0) (decides : (a b : Header) → Decides (before a b) (Before a b)) where
  pub never : (a : Header) → (Before a a → ⊥) → before a a ≡ false
  never a no_way = ⊎_elim (λ e. absurd (no_way ((decides a a).0 e))) (λ e. e) (cases_Bool (before a a))

  abbrev ranking_by : ((a : Header) → Before a a → ⊥) → ((a b c : Header) → Before a b → Before b c → Before a c) → ((a b : Header) → (a.party.folio ≢ b.party.folio) → (Before b a → Before a b → ⊥) × ((Before a b → ⊥) → Before b a)) → Ranking
  ranking_by irreflexive transitive total =
      record {
        before = before;
        irreflexive = λ a. never a (irreflexive a);
        transitive = λ a b c p q. (decides a c).1 (transitive a b c ((decides a b).0 p) ((decides b c).0 q));
        total =
            λ a b apart.
            same_from_decides
            (before b a)
            (not (before a b))
            (Decides-like (before b a) (total a b apart).0 (total a b apart).1 (decides b a))
            (Decides-not (before a b) (decides a b));
      }

-- what arrival_before tests
abbrev Earlier : Header → Header → Type 0
Earlier a b = a.party.folio < b.party.folio

abbrev pub arrival_ranking : Ranking
arrival_ranking =
    ranking_by
    arrival_before
    Earlier
    (λ a b. Decides-ltb a.party.folio b.party.folio)
    (λ a p. omega arith)
    (λ a b c p q. omega arith)
    (λ a b apart. (λ p q. omega arith, λ p. omega arith))

-- what volume_before tests
abbrev Larger : Header → Header → Type 0
Larger a b = (b.entered < a.entered) ⊎ ((a.entered ≡ b.entered) × Earlier a b)

larger : (a b : Header) → b.entered ≤ a.entered → (a.entered ≡ b.entered → Earlier a b) → Larger a b
larger a b no_less earlier = ⊎_elim (λ e. inr (e, earlier e)) (λ h. inl (omega arith)) (cases_order a.entered b.entered)

pub larger_transitive : (a b c : Header) → Larger a b → Larger b c → Larger a c
larger_transitive a b c p q = larger a c (omega arith) (λ e. omega arith)

pub larger_total : (a b : Header) → (a.party.folio ≢ b.party.folio) → (Larger a b → ⊥) → Larger b a
larger_total a b apart p =
    let no_more : b.entered < a.entered → ⊥ = λ h. p (inl h) in
    larger b a (omega arith) (λ e. let no_earlier : Earlier a b → ⊥ = λ h. p (inr (sym e, h)) in omega arith)

abbrev pub volume_ranking : Ranking
volume_ranking =
    ranking_by
    volume_before
    Larger
    (λ a b.
    Decides-or
    (nat_lt b.entered a.entered)
    (a.entered == b.entered && arrival_before a b)
    (Decides-ltb b.entered a.entered)
    (Decides-and
    (a.entered == b.entered)
    (arrival_before a b)
    (Decides-eqb a.entered b.entered)
    (Decides-ltb a.party.folio b.party.folio)))
    (λ a p. omega arith)
    larger_transitive
    (λ a b apart. (λ p q. omega arith, larger_total a b apart))
