-- Quotes that are all on their tick: each of the four is, and laying one on its tick on them keeps it so.
use Rattle.std.proofs.Common.{◌≡◌, ℕ, ◌⊎◌, inl, inr, true, ℤ, pos, negsuc, Some, None, Option, refl, arith}
use Rattle.std.proofs.lemmas.Bool.{and_parts}
use Rattle.base.specs.declared.Side.{Side}
use Rattle.base.specs.declared.Side.TheVariants.{Buy, Sell}
use Rattle.quotes.specs.declared.message.Origin.{Origin}
use Rattle.quotes.specs.declared.message.Origin.TheVariants.{Bmv, Biva}
use Rattle.quotes.specs.declared.message.QuoteUpdate.{QuoteUpdate}
use Rattle.quotes.specs.declared.message.RawQuote.{RawQuote}
use Rattle.quotes.specs.declared.ticks.SecurityType.{SecurityType}
use Rattle.quotes.specs.Message.{tick_price, Says}
use Rattle.quotes.specs.Board.{Rows, standing, laid, best, ticked, all_ticked}

module _ (security : SecurityType) where
  pub each : (rows : Rows) → all_ticked security rows ≡ true → (origin : Origin) (side : Side) → ticked security (standing rows origin side) ≡ true
  each rows h Bmv Buy = (and_parts _ _ (and_parts _ _ h).0).0
  each rows h Bmv Sell = (and_parts _ _ (and_parts _ _ h).0).1
  each rows h Biva Buy = (and_parts _ _ (and_parts _ _ h).1).0
  each rows h Biva Sell = (and_parts _ _ (and_parts _ _ h).1).1

  pub laid_ticked : (rows : Rows) (origin : Origin) (side : Side) (q : Option ℕ) → all_ticked security rows ≡ true → ticked security q ≡ true → all_ticked security (laid rows origin side q) ≡ true
  laid_ticked rows Bmv Buy q h t = rw (t, each rows h Bmv Sell, each rows h Biva Buy, each rows h Biva Sell) refl
  laid_ticked rows Bmv Sell q h t = rw (each rows h Bmv Buy, t, each rows h Biva Buy, each rows h Biva Sell) refl
  laid_ticked rows Biva Buy q h t = rw (each rows h Bmv Buy, each rows h Bmv Sell, t, each rows h Biva Sell) refl
  laid_ticked rows Biva Sell q h t = rw (each rows h Bmv Buy, each rows h Bmv Sell, each rows h Biva Buy, t) refl

  -- what is chosen is one of the two
  pub best_ticked : (pick : ℕ → ℕ → ℕ) → ((p q : ℕ) → (pick p q ≡ p) ⊎ (pick p q ≡ q)) → (a b : Option ℕ) → ticked security a ≡ true → ticked security b ≡ true → ticked security (best pick a b) ≡ true
  best_ticked pick one None b h k = k
  best_ticked pick one (Some p) None h k = h
  best_ticked pick one (Some p) (Some q) h k = elim (one p q) [ inl e ↦ rw e h | inr e ↦ rw e k ]

  -- so is the best of a side
  pub side_ticked : (pick : ℕ → ℕ → ℕ) → ((p q : ℕ) → (pick p q ≡ p) ⊎ (pick p q ≡ q)) → (rows : Rows) → all_ticked security rows ≡ true → (side : Side) (q : Option ℕ) → q ≡ best pick (standing rows Bmv side) (standing rows Biva side) → ticked security q ≡ true
  side_ticked pick one rows h side q is = rw is (best_ticked pick one _ _ (each rows h Bmv side) (each rows h Biva side))

  tick_price_ticked : (z : ℤ) → ticked security (tick_price security z) ≡ true
  tick_price_ticked (pos n) = grind arith
  tick_price_ticked (negsuc n) = refl

  pub update_ticked : (f : RawQuote) (u : QuoteUpdate) → Says security f u → ticked security u.quote ≡ true
  update_ticked f u says = grind (arith, says.becomes, tick_price_ticked)
