use Rattle.worked_examples.proofs.Worked.{all_examples}
use Rattle.worked_examples.proofs.worked_examples_stand.Goals as goal

pub returns : goal.returns
returns c = all_examples
