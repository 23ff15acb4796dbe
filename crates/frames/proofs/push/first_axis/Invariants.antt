use Rattle.std.proofs.Common.{◌≡◌, ℕ, ◌<◌, Bool, false}
use Rattle.frames.specs.Axes.{GivesAt}
use Rattle.frames.proofs.push.first_axis.Given as goal

abbrev pub invariant-loop-a : goal.invariant-loop-a
invariant-loop-a g l = (f : ℕ → Bool) → GivesAt (goal.F-post g l.test) f → (k : ℕ) → k < l.a → f k ≡ false
