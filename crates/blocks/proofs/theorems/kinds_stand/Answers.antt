use Rattle.blocks.proofs.Repeating.{stand}
use Rattle.blocks.proofs.theorems.kinds_stand.Goals as goal

pub returns : goal.returns
returns c = stand
