-- The joined reply is that of the longer list.
use Rattle.std.proofs.Common.{◌≡◌, ℕ, ◌+◌, Bool, true, false, cond, ◌||◌, List, [], ◌∷◌, Ok, Err, refl, ap, ◌∙◌, arith}
use Rattle.units.specs.declared.axis.Axis.{Axis}
use Rattle.units.specs.declared.axis.Axis.TheVariants.{X, Y, Z}
use Rattle.units.specs.declared.axis.Point.{Point}
use Rattle.units.specs.declared.fault.Fault.{Fault}
use Rattle.units.specs.declared.fault.Fault.TheVariants.{Outside}
use Rattle.machine.specs.declared.bounds.Bounds.{Bounds}
use Rattle.machine.specs.Meaning.{Meaning, topped}
use Rattle.machine.specs.Replies.{Reply, beyond, out, depth, told, reply, reply_to, moved, after_move}
use Rattle.machine.specs.Joined.{joined, OnTop}

abbrev three : Bool → ℕ → Bool → ℕ → Bool → ℕ → Reply
three a l b m c n = cond a (Err (Outside 0 X l)) (cond b (Err (Outside 0 Y m)) (cond c (Err (Outside 0 Z n)) (Ok tt)))

cap : (a : Axis) (d : ℕ) → ◌≡◌ {A = Reply} (Err (Outside 0 a (told (told d + 1)))) (Err (Outside 0 a (told (d + 1))))
cap a d = ap (λ (n : ℕ). Err (Outside 0 a n)) (omega arith)

joins_at : (x1 y1 x2 y2 x3 y3 : Bool) (d1 d2 d3 : ℕ) →
    joined (three (x1 || false) (told (cond x1 0 1)) (x2 || false) (told (cond x2 0 1)) (x3 || false) (told (cond x3 0 1))) (three y1 (told d1) y2 (told d2) y3 (told d3))
    ≡ three (x1 || y1) (told (cond x1 0 (d1 + 1))) (x2 || y2) (told (cond x2 0 (d2 + 1))) (x3 || y3) (told (cond x3 0 (d3 + 1)))
joins_at true true x2 y2 x3 y3 d1 d2 d3 = refl
joins_at true false x2 true x3 y3 d1 d2 d3 = refl
joins_at true false x2 false x3 true d1 d2 d3 = refl
joins_at true false x2 false x3 false d1 d2 d3 = refl
joins_at false true true y2 x3 y3 d1 d2 d3 = cap X d1
joins_at false true false y2 true y3 d1 d2 d3 = cap X d1
joins_at false true false y2 false y3 d1 d2 d3 = cap X d1
joins_at false false true true x3 y3 d1 d2 d3 = refl
joins_at false false true false x3 true d1 d2 d3 = refl
joins_at false false true false x3 false d1 d2 d3 = refl
joins_at false false false true true y3 d1 d2 d3 = cap Y d2
joins_at false false false true false y3 d1 d2 d3 = cap Y d2
joins_at false false false false true true d1 d2 d3 = refl
joins_at false false false false true false d1 d2 d3 = refl
joins_at false false false false false true d1 d2 d3 = cap Z d3
joins_at false false false false false false d1 d2 d3 = refl

joins : (b : Bounds) (bs : List Bounds) (p : Point) → joined (reply (b ∷ []) p) (reply bs p) ≡ reply (b ∷ bs) p
joins b bs p =
    joins_at (beyond b X p.x) (out bs X p.x) (beyond b Y p.y) (out bs Y p.y) (beyond b Z p.z) (out bs Z p.z)
    (depth bs X p.x) (depth bs Y p.y) (depth bs Z p.z)

pub joined_stands : (top below r : Reply) → r ≡ joined top below → OnTop top below r
joined_stands top below r e b bs p t l = e ∙ ap (λ u. joined u below) t ∙ ap (λ u. joined (reply (b ∷ []) p) u) l ∙ joins b bs p

stays : (m : Meaning) (p : Point) (f : Fault) (r : Reply) → m ≡ moved m p (joined (Err f) r)
stays m p f (Ok u) = refl
stays m p f (Err g) = refl

joined_is : (b : Bounds) (m : Meaning) (p : Point) (top : Reply) → top ≡ reply (b ∷ []) p → joined top (reply_to m p) ≡ reply_to (topped b m) p
joined_is b m p top e = joined_stands top (reply_to m p) (joined top (reply_to m p)) refl b m.boxes p e refl

-- a move that the box on top declines changes nothing
pub held_back : (b : Bounds) (m : Meaning) (p : Point) (f : Fault) → Err f ≡ reply (b ∷ []) p → topped b m ≡ after_move (topped b m) p
held_back b m p f own = stays (topped b m) p f (reply_to m p) ∙ ap (moved (topped b m) p) (joined_is b m p (Err f) own)
