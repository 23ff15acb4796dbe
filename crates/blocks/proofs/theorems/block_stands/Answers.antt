use Rattle.blocks.proofs.Meaning.{stand}
use Rattle.blocks.proofs.theorems.block_stands.Goals as goal

pub returns : goal.returns
returns c = stand
