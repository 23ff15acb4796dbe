use Rattle.std.proofs.Common.{w64}
use Rattle.std.proofs.lemmas.Int.{to_z-of_z}
use Rattle.units.proofs.Ranged.{length_is}
use Rattle.units.proofs.quantity.Length.new.Goals as goal

pub returns : goal.returns
returns c = length_is _ c.args.units (to_z-of_z w64 c.args.units c.ranges.units)
