use Rattle.machine.proofs.Roundings.{roundings}
use Rattle.machine.proofs.standing.roundings_stand.Goals as goal

pub returns : goal.returns
returns c = roundings
