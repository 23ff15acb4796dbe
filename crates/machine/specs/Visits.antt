-- Several moves of an end, one after another.
use Rattle.std.specs.Prelude.{◌≡◌, ℕ, ◌<◌, List, [], ◌∷◌, length, take, Ok, Err, slice_index_or}
use Rattle.units.specs.declared.axis.Point.{Point}
use Rattle.machine.specs.Meaning.{Meaning, origin}
use Rattle.machine.specs.Replies.{Reply, reply_to, after_move}
use Rattle.machine.specs.declared.visit.Visit.{Visit}

-- the end after these moves
abbrev pub after_moves : Meaning → List Point → Meaning
after_moves m [] = m
after_moves m (p ∷ ps) = after_moves (after_move m p) ps

-- why a visit ended: all moves were taken, or the next one got that fault
abbrev pub EndedBy : Meaning → List Point → ℕ → Reply → Type 0
EndedBy m ps n (Ok u) = n ≡ length ps
EndedBy m ps n (Err f) = (n < length ps) × (reply_to m (slice_index_or ps n origin) ≡ Err f)

-- the moves before the first declined one are taken, and no other is made
pub record Visited (m : Meaning) (ps : List Point) (v : Visit) (after : Meaning) : Type 0 where
  pub taken : (k : ℕ) → k < v.taken → reply_to m (slice_index_or ps k origin) ≡ Ok tt
  pub ended : EndedBy m ps v.taken v.end
  pub left : after ≡ after_moves m (take v.taken ps)
