use Rattle.std.proofs.Common.{rules}
use Rattle.chains.specs.declared.step.Step.TheVariants.{Offset}
use Rattle.frames.proofs.tested.Tested.offset.Goals as goal

pub returns-clause-image : goal.returns-clause-image
returns-clause-image c = c.moved_by.ensures.image (Offset c.args.by) (λ a r l h. search rules)
