use Rattle.std.proofs.Common.{sym, ◌∙◌}
use Rattle.tape.proofs.Answered.{in_range_back, in_range_laid}
use Rattle.tape.proofs.Laid.{one_form, one_list}
use Rattle.tape.proofs.forms.every_list_has_one_block.Goals as goal

pub returns : goal.returns
returns c =
    record {
      laid_out = λ fs w. in_range_laid fs w.few w.who w.what;
      read_back = λ fs w. in_range_back fs w.few w.who w.what;
      the_block = λ bs fs small laid. one_form bs fs small laid;
      one_block = λ bs cs fs small₁ small₂ laid₁ laid₂. one_form bs fs small₁ laid₁ ∙ sym (one_form cs fs small₂ laid₂);
      one_list = λ bs fs gs l m. one_list bs fs gs l m;
    }
