-- Moves one after another.
use Rattle.std.proofs.Common.{◌≡◌, ℕ, ◌+◌, ◌<◌, ◌≤◌, List, [], ◌∷◌, ◌++◌, length, get_or, take, Ok, Err, sym, refl, ap, ◌∙◌, arith, below_more}
use Rattle.std.proofs.lemmas.List.{take_more}
use Rattle.units.specs.declared.axis.Point.{Point}
use Rattle.units.specs.declared.fault.Fault.{Fault}
use Rattle.machine.specs.declared.bounds.Bounds.{Bounds}
use Rattle.machine.specs.Meaning.{Meaning, origin}
use Rattle.machine.specs.Replies.{Reply, reply, reply_to, moved, after_move}
use Rattle.machine.specs.Visits.{after_moves, Visited}

-- n moves have been taken, and the end is now c
pub record Going (m : Meaning) (ps : List Point) (n : ℕ) (c : Meaning) : Type 0 where
  pub bound : n ≤ length ps
  pub taken : (k : ℕ) → k < n → reply_to m (get_or ps k origin) ≡ Ok tt
  pub left : c ≡ after_moves m (take n ps)

moved_boxes : (m : Meaning) (p : Point) (r : Reply) → (moved m p r).boxes ≡ m.boxes
moved_boxes m p (Ok u) = refl
moved_boxes m p (Err f) = refl

-- no move changes the boxes
pub boxes_kept : (m : Meaning) (ps : List Point) → (after_moves m ps).boxes ≡ m.boxes
boxes_kept m [] = refl
boxes_kept m (p ∷ ps) = boxes_kept (after_move m p) ps ∙ moved_boxes m p (reply_to m p)

after_one : (m : Meaning) (ps : List Point) (p : Point) → after_moves m (ps ++ (p ∷ [])) ≡ after_move (after_moves m ps) p
after_one m [] p = refl
after_one m (q ∷ ps) p = after_one (after_move m q) ps p

pub same_reply : (m : Meaning) (ps : List Point) (n : ℕ) (c : Meaning) → Going m ps n c → (p : Point) → reply_to c p ≡ reply_to m p
same_reply m ps n c g p = ap (λ (bs : List Bounds). reply bs p) (ap (λ (d : Meaning). d.boxes) g.left ∙ boxes_kept m (take n ps))

pub go_on_lem : (m : Meaning) (ps : List Point) (n : ℕ) (c d : Meaning) → Going m ps n c → n < length ps → Ok tt ≡ reply_to c (get_or ps n origin) → d ≡ after_move c (get_or ps n origin) → Going m ps (n + 1) d
go_on_lem m ps n c d g h r e = record {
  bound = omega arith;
  taken = below_more _ _ g.taken (sym (same_reply m ps n c g (get_or ps n origin)) ∙ sym r);
  left = e ∙ ap (λ (x : Meaning). after_move x (get_or ps n origin)) g.left ∙ sym (after_one m (take n ps) (get_or ps n origin)) ∙ ap (λ (xs : List Point). after_moves m xs) (sym (take_more ps n origin h));
}

pub stop : (m : Meaning) (ps : List Point) (n : ℕ) (c d : Meaning) (f : Fault) → Going m ps n c → n < length ps → Err f ≡ reply_to c (get_or ps n origin) → d ≡ after_move c (get_or ps n origin) → Visited m ps (record { taken = n; end = Err f }) d
stop m ps n c d f g h r e = record {
  taken = g.taken;
  ended = (h, sym (same_reply m ps n c g (get_or ps n origin)) ∙ sym r);
  left = e ∙ ap (λ (t : Reply). moved c (get_or ps n origin) t) (sym r) ∙ g.left;
}
