use Rattle.std.proofs.Common.{◌≤◌, length, refl, ◌∙◌, arith, w32, w64, SFits, rules}
use Rattle.std.proofs.lemmas.List.{take_rest, length-drop}
use Rattle.std.proofs.lemmas.Int.{to_z-of_z}
use Rattle.quotes.proofs.message.take_apart.Goals as goal

pub returns : goal.returns
returns c =
    let rest = take_rest c.args.bytes.now 24 in
    let long : 24 ≤ length c.args.bytes.now = search rules in
    let fits_i : SFits w32 c.from_be_bytes.result = search rules in
    let fits_v : SFits w64 c.from_be_bytes-2.result = search rules in
    let fits_p : SFits w64 c.from_be_bytes-3.result = search rules in
    let instrument = to_z-of_z w32 c.from_be_bytes.result fits_i ∙ c.from_be_bytes.ensures in
    let volume = to_z-of_z w64 c.from_be_bytes-2.result fits_v ∙ c.from_be_bytes-2.ensures in
    let price = to_z-of_z w64 c.from_be_bytes-3.result fits_p ∙ c.from_be_bytes-3.ensures in
    (rw (instrument, volume, price) refl, cc, simp (rest, length-drop) (omega arith))
