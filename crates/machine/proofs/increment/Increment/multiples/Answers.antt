use Rattle.std.proofs.Common.{rules}
use Rattle.machine.specs.Admitted.{coordinates, coordinates_within}
use Rattle.machine.specs.Nearness.{multiples_within}
use Rattle.machine.specs.RangesLemmas.{in_range}
use Rattle.machine.proofs.increment.Increment.multiples.Goals as goal

pub returns-clause-bound : goal.returns-clause-bound
returns-clause-bound c = multiples_within c.args.self.units (coordinates c.args.to) _ (in_range c.args.self) (coordinates_within c.args.to) (search rules)
