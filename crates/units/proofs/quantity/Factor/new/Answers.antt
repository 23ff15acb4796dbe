use Rattle.std.proofs.Common.{sym}
use Rattle.units.proofs.Ranged.{factor_made}
use Rattle.units.proofs.quantity.Factor.new.Goals as goal

pub returns : goal.returns
returns c = sym (factor_made _)
