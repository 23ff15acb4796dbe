use Rattle.frames.proofs.Axes.{Filled}
use Rattle.frames.proofs.tested.Tested.moved_by.Given as goal

abbrev pub invariant-loop-a : goal.invariant-loop-a
invariant-loop-a g l = Filled (goal.F-post g l.new) l.moved l.fn.self.image l.image l.a
