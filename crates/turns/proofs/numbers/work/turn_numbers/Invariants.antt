use Rattle.std.proofs.Common.{◌-◌}
use Rattle.turns.proofs.Turning.{Towards}
use Rattle.turns.proofs.numbers.work.turn_numbers.Given as goal

abbrev pub invariant-loop : goal.invariant-loop
invariant-loop l = Towards l.fn.angle.ticks (l.end - l.counter) l.numbers.cosine l.numbers.sine
