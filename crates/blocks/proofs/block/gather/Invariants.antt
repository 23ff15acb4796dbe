use Rattle.std.proofs.Common.{◌≡◌}
use Rattle.blocks.proofs.Turns.{Kept}
use Rattle.blocks.proofs.block.gather.Given as goal

abbrev pub invariant-loop-read : goal.invariant-loop-read
invariant-loop-read l =
    (goal.iterator-loop-read).can_next l.read-iterator × (goal.iterator-loop-read).is_finite l.read-iterator
    × (l.read-iterator.bytes.now ≡ l.bytes) × Kept l.bytes l.read-iterator.place l.g.slots l.g.order
