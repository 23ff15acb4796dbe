use Rattle.machine.proofs.Joins.{joined_stands}
use Rattle.machine.proofs.joined.on_top.Goals as goal

pub returns : goal.returns
returns c = joined_stands _ _ _ c.join.ensures
