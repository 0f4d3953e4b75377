-- What reading answers, and what the list of fills then holds.
use Rattle.std.specs.Prelude.{◌≡◌, ℕ, ◌≤◌, List, length, take, drop, Result, MatchResult}
use Rattle.base.specs.Bytes.{number4}
use Rattle.base.specs.Questions.{first_no}
use Rattle.orders.specs.declared.trade.Fill.{Fill}
use Rattle.tape.specs.declared.fault.BlockFault.{BlockFault}
use Rattle.tape.specs.Asked.{most_fills, read_questions, read_refusal, size_questions}
use Rattle.tape.specs.Block.{LaysOut, block, block_length}
use Rattle.tape.specs.Faults.{refusal}

-- the sizes are right, and they tell so many fills
pub record Sized (bs : List ℕ) (count : ℕ) : Type 0 where
  pub asked : first_no (size_questions bs) ≡ 0
  pub counted : count ≡ number4 bs 0
  pub few : count ≤ most_fills
  pub measured : number4 bs 4 ≡ length bs
  pub long : length bs ≡ block_length count

-- the sizes are wrong, by the first question that is answered no
abbrev pub MisSized : List ℕ → BlockFault → Type 0
MisSized bs fault = ((refusal fault).number ≡ first_no (size_questions bs)) × ((places : ℕ) → refusal fault ≡ read_refusal bs places)

-- the fills of the block stand at the list's front, and the list is as it was behind them
pub record FillsRead (bs : List ℕ) (before after : List Fill) (count : ℕ) : Type 0 where
  pub asked : first_no (read_questions bs (length before)) ≡ 0
  pub counted : count ≡ length (take count after)
  pub laid_out : LaysOut bs (take count after)
  pub one_form : bs ≡ block (take count after)
  pub behind : drop count after ≡ drop count before

abbrev pub Read : List ℕ → List Fill → List Fill → Result ℕ BlockFault → Type 0
Read bs before after r =
    MatchResult r
    (λ count. FillsRead bs before after count)
    (λ fault. (refusal fault ≡ read_refusal bs (length before)) × (after ≡ before))
