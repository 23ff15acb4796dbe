use Rattle.std.proofs.Common.{[], sym, rules}
use Rattle.units.specs.declared.axis.Axis.TheVariants.{X, Y, Z}
use Rattle.machine.proofs.Taken.{taken_fits}
use Rattle.machine.proofs.bounds.Bounds.admitted.Goals as goal

pub invariant_of-result : goal.invariant_of-result
invariant_of-result c = let h = taken_fits c.args.self.now [] _ (sym c.in_ok-admit.ensures) X in search rules

pub invariant_of-result-2 : goal.invariant_of-result-2
invariant_of-result-2 c = let h = taken_fits c.args.self.now [] _ (sym c.in_ok-admit.ensures) Y in search rules

pub invariant_of-result-3 : goal.invariant_of-result-3
invariant_of-result-3 c = let h = taken_fits c.args.self.now [] _ (sym c.in_ok-admit.ensures) Z in search rules
