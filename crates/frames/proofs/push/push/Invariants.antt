use Rattle.std.proofs.Common.{◌≡◌, ◌+◌, drop, Ok}
use Rattle.chains.specs.Chains.{steps_of}
use Rattle.frames.specs.Pushing.{through_steps}
use Rattle.frames.proofs.push.push.Given as goal

abbrev pub invariant-loop-i : goal.invariant-loop-i
invariant-loop-i l = through_steps (drop l.i (steps_of l.chain)) (l.i + 1) l.moved l.tolerance.units l.initial.p.image ≡ Ok l.p.image
