use Rattle.std.proofs.Common.{take}
use Rattle.reader.proofs.Shapes.{Sofar}
use Rattle.reader.proofs.number.read_magnitude.Given as goal

abbrev pub invariant-loop-i : goal.invariant-loop-i
invariant-loop-i l = Sofar (take l.i l.s) l.value l.digits l.decimals l.point
