use Rattle.frames.proofs.Giving.{four_quarters}
use Rattle.frames.proofs.theorems.four_quarters_stand.Goals as goal

pub returns : goal.returns
returns c = four_quarters
