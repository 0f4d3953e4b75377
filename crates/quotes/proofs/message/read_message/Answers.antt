use Rattle.std.proofs.Common.{◌≡◌, ℕ, ◌≤◌, List, length, ℤ, sym, ◌∙◌, subst, arith, rules, w32, SFits, to_z, of_z}
use Rattle.std.proofs.lemmas.Int.{to_z-of_z}
use Rattle.std.proofs.lemmas.Bool.{cond-true, le-leb}
use Rattle.base.specs.Questions.{first_no}
use Rattle.quotes.specs.declared.message.RawQuote.{RawQuote}
use Rattle.quotes.specs.declared.ticks.SecurityType.{SecurityType}
use Rattle.quotes.specs.Message.{fields, field_questions, message_questions, Says}
use Rattle.quotes.proofs.message.read_message.Goals as goal

-- of 24 bytes and more, the questions of the message are those of its fields
long : (i : ℤ) (s : SecurityType) (bs : List ℕ) (raw : RawQuote) → SFits w32 i → 24 ≤ length bs → raw ≡ fields bs → first_no (field_questions (to_z w32 (of_z w32 i)) s raw) ≡ first_no (message_questions i s bs)
long i s bs raw f h e = rw (e, to_z-of_z w32 i f) (sym (cond-true _ _ 13 (le-leb 24 (length bs) h)))

pub returns-in_err-update : goal.returns-in_err-update
returns-in_err-update c =
    let bs = c.args.bytes.now in
    let cut = rw c.in_ok-raw.ensures.ok_part at c.take_apart.ensures in
    let h : 24 ≤ length bs = omega (arith, cut.2) in
    let e = c.in_err-update.ensures ∙ long c.args.instrument c.args.security bs c.in_ok-raw.raw c.ranges.instrument h cut.0 in
    search (rules, e)

pub returns : goal.returns
returns c =
    let bs = c.args.bytes.now in
    let cut = rw c.in_ok-raw.ensures.ok_part at c.take_apart.ensures in
    let h : 24 ≤ length bs = omega (arith, cut.2) in
    let met = c.in_ok-update.ensures in (
      sym (long c.args.instrument c.args.security bs c.in_ok-raw.raw c.ranges.instrument h cut.0) ∙ met.0,
      subst (λ (f : RawQuote). Says c.args.security f c.in_ok-update.update) cut.0 met.1,
      cut.1,
    )
