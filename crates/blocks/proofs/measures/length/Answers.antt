use Rattle.blocks.proofs.Measured.{length_of_units}
use Rattle.blocks.proofs.measures.length.Goals as goal

pub returns : goal.returns
returns c = length_of_units c.args.inch c.args.n _ _ c.units.ensures c.and_then.ensures
