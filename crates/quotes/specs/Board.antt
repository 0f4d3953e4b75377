-- The four quotes, the best bid and offer, and the midpoint.
use Rattle.std.specs.Prelude.{◌≡◌, ℕ, ◌+◌, ◌/◌, min, max, Bool, true, ◌&&◌, List, [], ◌∷◌, ℤ, Some, None, Option, slice_index_or}
use Rattle.base.specs.declared.Side.{Side}
use Rattle.base.specs.declared.Side.TheVariants.{Buy, Sell}
use Rattle.base.specs.Price.{price_in_range}
use Rattle.base.specs.Questions.{first_no}
use Rattle.quotes.specs.declared.message.Origin.{Origin}
use Rattle.quotes.specs.declared.message.Origin.TheVariants.{Bmv, Biva}
use Rattle.quotes.specs.declared.message.QuoteUpdate.{QuoteUpdate}
use Rattle.quotes.specs.declared.ticks.SecurityType.{SecurityType}
use Rattle.quotes.specs.Message.{fields, message_questions, Says}
use Rattle.quotes.specs.Ticks.{on_tick}

-- a row for each origin, and in it the bid and then the offer; a quote is a price or none
abbrev pub Rows : Type 0
Rows = List (List (Option ℕ))

abbrev pub quote : Rows → ℕ → ℕ → Option ℕ
quote rows row column = slice_index_or (slice_index_or rows row []) column None

abbrev pub standing : Rows → Origin → Side → Option ℕ
standing rows Bmv Buy = quote rows 0 0
standing rows Bmv Sell = quote rows 0 1
standing rows Biva Buy = quote rows 1 0
standing rows Biva Sell = quote rows 1 1

abbrev pub four : Option ℕ → Option ℕ → Option ℕ → Option ℕ → Rows
four bmv_bid bmv_offer biva_bid biva_offer = (bmv_bid ∷ bmv_offer ∷ []) ∷ (biva_bid ∷ biva_offer ∷ []) ∷ []

-- a new board's
abbrev pub no_quotes : Rows
no_quotes = four None None None None

-- one quote replaced, the other three as they were
abbrev pub laid : Rows → Origin → Side → Option ℕ → Rows
laid rows Bmv Buy q = four q (standing rows Bmv Sell) (standing rows Biva Buy) (standing rows Biva Sell)
laid rows Bmv Sell q = four (standing rows Bmv Buy) q (standing rows Biva Buy) (standing rows Biva Sell)
laid rows Biva Buy q = four (standing rows Bmv Buy) (standing rows Bmv Sell) q (standing rows Biva Sell)
laid rows Biva Sell q = four (standing rows Bmv Buy) (standing rows Bmv Sell) (standing rows Biva Buy) q

-- of two quotes the one that pick chooses, where both stand; else the one that stands
abbrev pub best : (ℕ → ℕ → ℕ) → Option ℕ → Option ℕ → Option ℕ
best pick None q = q
best pick (Some p) None = Some p
best pick (Some p) (Some q) = Some (pick p q)

abbrev pub highest_bid : Rows → Option ℕ
highest_bid rows = best max (standing rows Bmv Buy) (standing rows Biva Buy)

abbrev pub lowest_offer : Rows → Option ℕ
lowest_offer rows = best min (standing rows Bmv Sell) (standing rows Biva Sell)

-- half the sum where both stand
abbrev pub half_sum : Option ℕ → Option ℕ → Option ℕ
half_sum None q = None
half_sum (Some bid) None = None
half_sum (Some bid) (Some offer) = Some ((bid + offer) / 2)

abbrev pub midpoint : Rows → Option ℕ
midpoint rows = half_sum (highest_bid rows) (lowest_offer rows)

-- a quote that stands is on its tick
abbrev pub ticked : SecurityType → Option ℕ → Bool
ticked security None = true
ticked security (Some price) = on_tick security price

abbrev pub all_ticked : SecurityType → Rows → Bool
all_ticked security rows =
    (ticked security (standing rows Bmv Buy) && ticked security (standing rows Bmv Sell))
    && (ticked security (standing rows Biva Buy) && ticked security (standing rows Biva Sell))

-- the midpoint m is exact, with nothing rounded away, and a price
pub record Exact (rows : Rows) (m : ℕ) : Type 0 where
  pub bid : ℕ
  pub offer : ℕ
  pub bid_stands : highest_bid rows ≡ Some bid
  pub offer_stands : lowest_offer rows ≡ Some offer
  pub twice : m + m ≡ bid + offer
  pub in_range : price_in_range m ≡ true

-- the message at the front of the bytes is accepted and laid on the rows, which gives after
pub record Lays (instrument : ℤ) (security : SecurityType) (rows : Rows) (bytes : List ℕ) (after : Rows) : Type 0 where
  pub accepted : first_no (message_questions instrument security bytes) ≡ 0
  pub update : QuoteUpdate
  pub says : Says security (fields bytes) update
  pub changed : after ≡ laid rows update.origin update.side update.quote
