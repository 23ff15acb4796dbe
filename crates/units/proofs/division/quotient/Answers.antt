use Rattle.std.proofs.Common.{arith}
use borrow.Author.Differences.{ints}
use Rattle.units.proofs.Round.{bits_up, bits_down}
use Rattle.units.proofs.division.quotient.Goals as goal

pub returns-then-dividend-ge0 : goal.returns-then-dividend-ge0
returns-then-dividend-ge0 c =
    bits_up c.args.dividend c.args.divisor c.ranges.dividend c.ranges.divisor c.requires.0 c.requires.1.0 c.requires.1.1 (omega (arith, ints))

pub returns-else-dividend-ge0 : goal.returns-else-dividend-ge0
returns-else-dividend-ge0 c =
    bits_down c.args.dividend c.args.divisor c.ranges.dividend c.ranges.divisor c.requires.0 c.requires.1.0 c.requires.1.1 (omega (arith, ints))
