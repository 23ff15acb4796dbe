use Rattle.std.proofs.Common.{rules}
use Rattle.chains.specs.declared.step.Step.TheVariants.{Scale}
use Rattle.frames.proofs.tested.Tested.scale.Goals as goal

pub returns-clause-image : goal.returns-clause-image
returns-clause-image c = c.moved_by.ensures.image (Scale c.args.by) (λ a r l h. search rules)
