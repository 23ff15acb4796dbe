use Rattle.std.proofs.Common.{rules, of_calls}
use Rattle.frames.specs.Pushing.{is_beyond}
use Rattle.frames.proofs.tested.Stepped.first_beyond.Goals as goal

pub returns : goal.returns
returns c = c.first_axis.ensures (is_beyond c.args.self.now.moved c.args.self.now.image) (λ a r l h. search (rules, of_calls))
