use Rattle.std.proofs.Common.{sym}
use Rattle.units.proofs.Ranged.{tolerance_made}
use Rattle.units.proofs.quantity.Tolerance.new.Goals as goal

pub returns : goal.returns
returns c = sym (tolerance_made _)
