-- Every list of fills that may be written has exactly one block, and every block exactly one list.
use Rattle.std.specs.Prelude.{◌≡◌, ℕ, ◌<◌, ◌≤◌, true, List, length, slice_index}
use Rattle.orders.specs.declared.trade.Fill.{Fill}
use Rattle.tape.specs.Asked.{every, most_fills, what_in_range, who_in_range}
use Rattle.tape.specs.Block.{LaysOut, block}
use Rattle.tape.specs.Written.{ReadsBack}

-- fills that may be written: not too many, and every entry in range
pub record Writable (fs : List Fill) : Type 0 where
  pub few : length fs ≤ most_fills
  pub who : every who_in_range fs ≡ true
  pub what : every what_in_range fs ≡ true

-- every element is a byte
abbrev pub Bytes : List ℕ → Type 0
Bytes bs = (i : ℕ) → slice_index bs i < 256

pub record OneForm : Type 0 where
  -- in the block of fills each entry of each fill stands at its place
  pub laid_out : (fs : List Fill) → Writable fs → LaysOut (block fs) fs
  -- whatever is written is read back as the same fills
  pub read_back : (fs : List Fill) → Writable fs → ReadsBack (block fs) fs
  -- whatever bytes lay out fills are the block of those fills
  pub the_block : (bs : List ℕ) (fs : List Fill) → Bytes bs → LaysOut bs fs → bs ≡ block fs
  -- no list has two blocks
  pub one_block : (bs cs : List ℕ) (fs : List Fill) → Bytes bs → Bytes cs → LaysOut bs fs → LaysOut cs fs → bs ≡ cs
  -- no block has two lists
  pub one_list : (bs : List ℕ) (fs gs : List Fill) → LaysOut bs fs → LaysOut bs gs → fs ≡ gs
