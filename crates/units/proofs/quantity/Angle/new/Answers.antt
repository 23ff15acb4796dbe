use Rattle.std.proofs.Common.{sym}
use Rattle.units.proofs.Ranged.{angle_made}
use Rattle.units.proofs.quantity.Angle.new.Goals as goal

pub returns : goal.returns
returns c = sym (angle_made _)
