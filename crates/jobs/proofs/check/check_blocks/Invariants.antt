use Rattle.std.proofs.Common.{◌≡◌, ◌+◌}
use Rattle.jobs.proofs.check.check_blocks.Given as goal

abbrev pub invariant-loop-line : goal.invariant-loop-line
invariant-loop-line l = l.tally.right + l.tally.declined ≡ l.line-iterator.count
