-- What writing answers, and what the buffer then holds.
use Rattle.std.specs.Prelude.{◌≡◌, ℕ, ◌≤◌, List, length, take, drop, Result, MatchResult}
use Rattle.base.specs.Questions.{first_no}
use Rattle.orders.specs.declared.trade.Fill.{Fill}
use Rattle.tape.specs.declared.fault.BlockFault.{BlockFault}
use Rattle.tape.specs.Asked.{read_questions, write_questions, write_refusal}
use Rattle.tape.specs.Block.{LaysOut, block, block_length}
use Rattle.tape.specs.Faults.{refusal}

-- the bytes are read, into any list that has room, as these fills and no others
pub record ReadsBack (bs : List ℕ) (fs : List Fill) : Type 0 where
  pub accepted : (places : ℕ) → length fs ≤ places → first_no (read_questions bs places) ≡ 0
  pub same : (gs : List Fill) → LaysOut bs gs → gs ≡ fs

-- the block of the fills stands at the buffer's front, and the buffer is as it was behind it
pub record BlockWritten (fs : List Fill) (before after : List ℕ) (long : ℕ) : Type 0 where
  pub asked : first_no (write_questions fs (length before)) ≡ 0
  pub measured : long ≡ block_length (length fs)
  pub front : take long after ≡ block fs
  pub behind : drop long after ≡ drop long before
  pub laid_out : LaysOut (take long after) fs
  pub reads_back : ReadsBack (take long after) fs

abbrev pub Written : List Fill → List ℕ → List ℕ → Result ℕ BlockFault → Type 0
Written fs before after r =
    MatchResult r
    (λ long. BlockWritten fs before after long)
    (λ fault. (refusal fault ≡ write_refusal fs (length before)) × (after ≡ before))
