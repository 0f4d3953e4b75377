-- The lines that the programs write.
use Rattle.std.specs.Prelude.{ℕ, List, [], ◌∷◌, ◌++◌, codes}
use Rattle.lines.specs.declared.output.OutputLine.{OutputLine}
use Rattle.lines.specs.declared.output.OutputLine.TheVariants.{Fill, Cancel, Refused, RefusedAt, Left, End}
use Rattle.lines.specs.Faults.{refusal}
use Rattle.lines.specs.Numbers.{numbers}

-- the bytes of a line, before its end: a word, and then its numbers
abbrev pub line_text : OutputLine → List ℕ
line_text (Fill f) = codes "F" ++ numbers (f.price ∷ f.volume ∷ f.buyer.folio ∷ f.seller.folio ∷ f.buyer.house ∷ f.seller.house ∷ [])
line_text (Cancel folio volume) = codes "K" ++ numbers (folio ∷ volume ∷ [])
line_text (Refused fault) = codes "R" ++ numbers ((refusal fault).number ∷ [])
line_text (RefusedAt refused) = codes "R" ++ numbers (refused.number ∷ refused.place ∷ [])
line_text (Left folio left) = codes "L" ++ numbers (folio ∷ left ∷ [])
line_text (End n) = codes "end" ++ numbers (n ∷ [])
