use Rattle.std.proofs.Common.{ℕ, List, ◌∷◌, sym, ap, ◌∙◌, subst}
use Rattle.feedlines.specs.Lines.{ReadsAs}
use Rattle.feedlines.proofs.reading.read_feed_line.Goals as goal

pub returns-in-Q : goal.returns-in-Q
returns-in-Q c =
    let whole = c.in_ok-letter.ensures.cases.0 ∙ ap (λ (letter : ℕ). letter ∷ c.in_ok-letter.fields.now) c.in-Q.is in
    subst (λ (line : List ℕ). ReadsAs line c.read_quote.result) (sym whole) c.read_quote.ensures
