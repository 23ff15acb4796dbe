use Rattle.std.proofs.Common.{rules}
use Rattle.chains.specs.Chains.{steps_of}
use Rattle.chains.proofs.Moves.{moved_as}
use Rattle.chains.proofs.chain.Chain.moved_axes.Goals as goal

pub returns-clause-moved : goal.returns-clause-moved
returns-clause-moved c = moved_as (steps_of c.args.self.now) c.args.named _ (search rules)
