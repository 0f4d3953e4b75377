-- The Last Quote message: where its fields stand, and the questions asked of them.
use Rattle.std.specs.Prelude.{◌≡◌, ℕ, ◌/◌, ◌%◌, Bool, false, cond, ◌&&◌, ◌||◌, List, [], ◌∷◌, length, drop, ℤ, pos, negsuc, is_some, Some, None, Option, Result, MatchResult, ◌==◌, nat_le}
use Rattle.std.specs.Borrow.{Bor}
use Rattle.std.specs.Int.Signed.{non_neg}
use Rattle.std.specs.Int.{w32, w64}
use Rattle.std.proofs.Common.{to_z}
use Rattle.base.specs.Bytes.{byte, number4, number8}
use Rattle.base.specs.Letters.{side_of}
use Rattle.base.specs.Questions.{Question, ask, first_no}
use Rattle.quotes.specs.declared.fault.MessageFault.{MessageFault}
use Rattle.quotes.specs.declared.message.Origin.{Origin}
use Rattle.quotes.specs.declared.message.Origin.TheVariants.{Bmv, Biva}
use Rattle.quotes.specs.declared.message.QuoteUpdate.{QuoteUpdate}
use Rattle.quotes.specs.declared.message.RawQuote.{RawQuote}
use Rattle.quotes.specs.declared.ticks.SecurityType.{SecurityType}
use Rattle.quotes.specs.Faults.{NamesFirstNo}
use Rattle.quotes.specs.Ticks.{on_tick}

-- a number of four or eight bytes, the highest first, signed by its top bit
abbrev pub int32 : List ℕ → ℕ → ℤ
int32 bs at = to_z w32 (number4 bs at)

abbrev pub int64 : List ℕ → ℕ → ℤ
int64 bs at = to_z w64 (number8 bs at)

-- the fields of a message; the type of trading, at 23, is ignored
abbrev pub fields : List ℕ → RawQuote
fields bs =
    record {
      kind = byte bs 0;
      instrument = int32 bs 1;
      origin = byte bs 5;
      volume = int64 bs 6;
      price = int64 bs 14;
      side = byte bs 22;
    }

-- the letter m
abbrev pub last_quote : ℕ
last_quote = 109

-- the letters M and I
abbrev pub origin_of : ℕ → Option Origin
origin_of letter = cond (letter == 77) (Some Bmv) (cond (letter == 73) (Some Biva) None)

-- written out: through the library's equality, which is by an order, the check's search for `lay` stops at its limit
abbrev pub same_int : ℤ → ℤ → Bool
same_int (pos a) (pos b) = a == b
same_int (pos a) (negsuc b) = false
same_int (negsuc a) (pos b) = false
same_int (negsuc a) (negsuc b) = a == b

-- a message's price is in hundred-millionths of a peso: 10,000 times a price on its tick, or no price
abbrev pub tick_price : SecurityType → ℤ → Option ℕ
tick_price security (pos n) = cond (n % 10000 == 0 && on_tick security (n / 10000)) (Some (n / 10000)) None
tick_price security (negsuc n) = None

-- a volume of 0 clears the quote, and its price is not looked at
abbrev pub clears : ℤ → Bool
clears volume = same_int volume (pos 0)

abbrev pub field_questions : ℤ → SecurityType → RawQuote → List Question
field_questions instrument security f =
    ask (f.kind == last_quote) 14
    ∷ ask (same_int f.instrument instrument) 15
    ∷ ask (is_some (origin_of f.origin)) 16
    ∷ ask (is_some (side_of f.side)) 17
    ∷ ask (non_neg f.volume) 18
    ∷ ask (clears f.volume || is_some (tick_price security f.price)) 19
    ∷ []

abbrev pub message_questions : ℤ → SecurityType → List ℕ → List Question
message_questions instrument security bs =
    ask (nat_le 24 (length bs)) 13 ∷ field_questions instrument security (fields bs)

-- the quote that the fields name, and what it becomes
pub record Says (security : SecurityType) (f : RawQuote) (update : QuoteUpdate) : Type 0 where
  pub from_origin : origin_of f.origin ≡ Some update.origin
  pub on_side : side_of f.side ≡ Some update.side
  pub becomes : update.quote ≡ cond (clears f.volume) None (tick_price security f.price)

-- the fields are judged: accepted where no question is answered no, with the update that they say; refused by the first that is
abbrev pub Judges : ℤ → SecurityType → RawQuote → Result QuoteUpdate MessageFault → Type 0
Judges instrument security f r =
    MatchResult r
    (λ u. (first_no (field_questions instrument security f) ≡ 0) × Says security f u)
    (NamesFirstNo (field_questions instrument security f))

-- the message at the front of the bytes is read: accepted with the update that its fields say, and the bytes behind it; or refused
abbrev pub ReadsMessage : ℤ → SecurityType → List ℕ → Result (QuoteUpdate × Bor (List ℕ)) MessageFault → Type 0
ReadsMessage instrument security bytes r =
    MatchResult r
    (λ p. (first_no (message_questions instrument security bytes) ≡ 0) × Says security (fields bytes) p.0 × (p.1.now ≡ drop 24 bytes))
    (NamesFirstNo (message_questions instrument security bytes))
