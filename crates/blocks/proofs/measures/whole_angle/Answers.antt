use Rattle.std.proofs.Common.{arith}
use Rattle.std.proofs.lemmas.Int.{ints}
use Rattle.units.specs.Quantities.{angle_of}
use Rattle.blocks.proofs.Measured.{unsigned_is, angle_far, angle_unsigned, angle_turned}
use Rattle.blocks.proofs.measures.whole_angle.Goals as goal
use Rattle.blocks.proofs.measures.whole_angle.Goals.{then-ticks-lt0, else-ticks-lt0}

pub returns : goal.returns
returns c =
    let made = unsigned_is angle_of angle_far _ _ _ c.try_from.ensures (rw c.ok.ensures.value at c.and_then.ensures) in
    elim c.if-ticks-lt0.branch [ then-ticks-lt0 w ↦ angle_turned c.args.ticks _ _ _ w.turned-is made (omega (arith, ints)) (omega (arith, ints)) (omega (arith, ints)) | else-ticks-lt0 w ↦ angle_unsigned c.args.ticks _ _ _ w.turned-is made (omega (arith, ints)) (omega (arith, ints)) ]
