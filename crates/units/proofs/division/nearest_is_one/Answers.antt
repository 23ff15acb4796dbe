use Rattle.units.proofs.Round.{one_only}
use Rattle.units.proofs.division.nearest_is_one.Goals as goal

pub returns : goal.returns
returns c = one_only
