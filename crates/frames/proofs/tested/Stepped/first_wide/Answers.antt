use Rattle.std.proofs.Common.{rules, of_calls}
use Rattle.frames.specs.Pushing.{is_wide}
use Rattle.frames.proofs.tested.Stepped.first_wide.Goals as goal

pub returns : goal.returns
returns c = c.first_axis.ensures (is_wide c.args.self.now.moved c.args.tolerance.units c.args.self.now.image) (λ a r l h. search (rules, of_calls))
