use Rattle.std.proofs.Common.{◌≡◌, ◌^◌, ◌<◌, ◌≤◌, take}
use Rattle.std.specs.Str.Parse.{digits_value}
use Rattle.reader.proofs.Shapes.{Code}
use Rattle.reader.proofs.number.read_code.Given as goal

abbrev pub invariant-loop-i : goal.invariant-loop-i
invariant-loop-i l = (l.i ≤ 8) × Code (take l.i l.s) × (l.value ≡ digits_value 10 (take l.i l.s)) × (l.value < 10 ^ l.i)
