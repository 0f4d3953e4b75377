use Rattle.std.proofs.Common.{length, ⊎_elim, add-zero, arith}
use Rattle.std.proofs.lemmas.List.{get_or_past}
use Rattle.std.proofs.lemmas.Bool.{cases_lt}
use Rattle.lines.proofs.numbers.split_digits.Goals as goal

pub returns : goal.returns
returns c =
    let bytes = c.args.bytes.now in
    let count = c.digits_at_front.result in
    let cut = c.split_at.ensures in
    let told = c.digits_at_front.ensures in
    let first = rw (add-zero count) at (cut.by_index.2 0 0) in
    record {
      whole = cut.by_index.0;
      digits = λ i h. let same = cut.by_index.1 i 0 (omega arith) in let digit = told.before i (omega arith) in omega arith;
      stops =
          λ digit.
          ⊎_elim
          (λ inside. told.stops inside (omega arith))
          (λ past. let none = get_or_past bytes count 0 past in omega arith)
          (cases_lt count (length bytes));
    }
