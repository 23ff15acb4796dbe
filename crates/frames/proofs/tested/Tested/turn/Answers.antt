use Rattle.std.proofs.Common.{rules, of_calls}
use Rattle.chains.specs.declared.step.Step.TheVariants.{Turn}
use Rattle.frames.proofs.tested.Tested.turn.Goals as goal

pub returns-clause-image : goal.returns-clause-image
returns-clause-image c = c.moved_by.ensures.image (Turn c.args.plane c.args.angle) (λ a r l h. search (rules, of_calls))
