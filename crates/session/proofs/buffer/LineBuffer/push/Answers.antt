use Rattle.std.proofs.Common.{◌≡◌, ℕ, ◌+◌, ◌<◌, List, [], ◌∷◌, ◌++◌, length, take, set, sym, ◌∙◌, arith, rules}
use Rattle.std.proofs.lemmas.List.{length_push, length-take-le, take_all, take-append-le, take_more_set}
use Rattle.session.proofs.buffer.LineBuffer.push.Goals as goal

-- there is a place for the byte
room : (xs : List ℕ) (n b : ℕ) → length xs ≡ 81 → n < 81 → take (n + 1) (set xs n b) ≡ take 81 (take n xs ++ (b ∷ []))
room xs n b long less =
    let front = length-take-le n xs (omega arith) in
    take_more_set xs n b (omega arith) ∙ sym (take_all 81 (take n xs ++ (b ∷ [])) (let m = length_push (take n xs) b in omega arith))

-- all places are taken
full : (xs : List ℕ) (n b : ℕ) → length xs ≡ 81 → n ≡ 81 → take n xs ≡ take 81 (take n xs ++ (b ∷ []))
full xs n b long all =
    let front = length-take-le n xs (omega arith) in
    sym (take-append-le 81 (take n xs) (b ∷ []) (omega arith) ∙ take_all 81 (take n xs) (omega arith))

pub returns-then-at-lt-KEPT : goal.returns-then-at-lt-KEPT
returns-then-at-lt-KEPT c =
    let long : length c.args.self.now.bytes ≡ 81 = search rules in
    room c.args.self.now.bytes c.args.self.now.len c.args.byte long (omega arith)

pub returns-else-at-lt-KEPT : goal.returns-else-at-lt-KEPT
returns-else-at-lt-KEPT c =
    let long : length c.args.self.now.bytes ≡ 81 = search rules in
    full c.args.self.now.bytes c.args.self.now.len c.args.byte long (let w = c.args.self.now.within in omega arith)
