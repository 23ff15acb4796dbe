use Rattle.std.proofs.Common.{rules}
use Rattle.machine.specs.Admitted.{coordinates, coordinates_within}
use Rattle.machine.specs.Count.{lengths}
use Rattle.machine.specs.Counts.{counts_within, lengths_fit}
use Rattle.machine.proofs.count.rounding.lower_counts.Goals as goal

pub returns-clause-bound : goal.returns-clause-bound
returns-clause-bound c =
    let i = c.args.increments in
    counts_within (lengths i) (coordinates c.args.to) _ (lengths_fit i) (coordinates_within c.args.to) (search rules)
