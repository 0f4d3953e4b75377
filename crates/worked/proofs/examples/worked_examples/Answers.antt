use Rattle.worked.proofs.WorkedExamples.{worked_examples}
use Rattle.worked.proofs.examples.worked_examples.Goals as goal

pub returns : goal.returns
returns c = worked_examples
