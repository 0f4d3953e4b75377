-- The tape block: the bytes of a list of fills, and where in them each entry of each fill stands.
use Rattle.std.specs.Prelude.{◌≡◌, ℕ, ◌+◌, ◌*◌, ◌<◌, List, ◌++◌, length, slice_index_or}
use Rattle.std.specs.List.{flat_map}
use Rattle.base.specs.Bytes.{bytes2, bytes4, number2, number4}
use Rattle.orders.specs.declared.trade.Fill.{Fill}
use Rattle.orders.specs.declared.trade.Party.{Party}

-- who traded: buy folio, sell folio, buy house, sell house
abbrev pub parties_entry : Party → Party → List ℕ
parties_entry buyer seller = bytes4 buyer.folio ++ (bytes4 seller.folio ++ (bytes2 buyer.house ++ bytes2 seller.house))

abbrev pub who_entry : Fill → List ℕ
who_entry f = parties_entry f.buyer f.seller

-- what was traded: volume, price
abbrev pub what_entry : Fill → List ℕ
what_entry f = bytes4 f.volume ++ bytes4 f.price

-- the bytes of a block of so many fills: the sizes take 8, a who-entry 12, a what-entry 8
abbrev pub block_length : ℕ → ℕ
block_length count = 8 + 20 * count

-- the sizes (count and length), then who traded in each fill, then what was traded in each
abbrev pub block : List Fill → List ℕ
block fs = bytes4 (length fs) ++ (bytes4 (block_length (length fs)) ++ (flat_map who_entry fs ++ flat_map what_entry fs))

-- where the entries of the fill of that place (from 0) stand in a block of so many fills
abbrev pub who_at : ℕ → ℕ
who_at i = 8 + 12 * i

abbrev pub what_at : ℕ → ℕ → ℕ
what_at count i = 8 + 12 * count + 8 * i

-- the fill whose entries stand there
abbrev pub fill_at : List ℕ → ℕ → ℕ → Fill
fill_at bs count i =
    record {
      price = number4 bs (what_at count i + 4);
      volume = number4 bs (what_at count i);
      buyer = record { house = number2 bs (who_at i + 8); folio = number4 bs (who_at i) };
      seller = record { house = number2 bs (who_at i + 10); folio = number4 bs (who_at i + 4) };
    }

-- the bytes lay out the fills: the sizes are told first, each fill's entries stand at its place, and nothing else is there
pub record LaysOut (bs : List ℕ) (fs : List Fill) : Type 0 where
  pub counted : number4 bs 0 ≡ length fs
  pub measured : number4 bs 4 ≡ length bs
  pub long : length bs ≡ block_length (length fs)
  pub each : (i : ℕ) (d : Fill) → i < length fs → slice_index_or fs i d ≡ fill_at bs (length fs) i
