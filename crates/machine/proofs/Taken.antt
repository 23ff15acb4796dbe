-- What a taken move says of its coordinates.
use Rattle.std.proofs.Common.{◌≡◌, ℕ, ◌≤◌, Bool, true, false, cond, ◌||◌, List, ◌∷◌, ℤ, nat_abs, Ok, Err, refl, arith}
use lib.Signed.{lt_z}
use Rattle.std.proofs.lemmas.Int.{ints}
use Rattle.units.specs.declared.axis.Axis.{Axis}
use Rattle.units.specs.declared.axis.Axis.TheVariants.{X, Y, Z}
use Rattle.units.specs.declared.axis.Side.TheVariants.{Lower, Upper}
use Rattle.units.specs.declared.axis.Point.{Point}
use Rattle.units.specs.declared.fault.Fault.{Fault}
use Rattle.units.specs.declared.fault.Fault.TheVariants.{Outside}
use Rattle.machine.specs.declared.bounds.Bounds.{Bounds}
use Rattle.machine.specs.Ranges.{within}
use Rattle.machine.specs.Meaning.{at}
use Rattle.machine.specs.Replies.{Reply, beyond, out, depth, told, reply}
use Rattle.machine.specs.RangesLemmas.{by_axis, limit_fits}

between : (n : ℕ) (lo hi v : ℤ) → nat_abs lo ≤ n → nat_abs hi ≤ n → (lt_z v lo || lt_z hi v) ≡ false → nat_abs v ≤ n
between n lo hi v a b e = grind (arith, ints)

pub inside_fits : (b : Bounds) (a : Axis) (v : ℤ) → beyond b a v ≡ false → nat_abs v ≤ 2000000000
inside_fits b a v e = between 2000000000 (at b.lower a) (at b.upper a) v (limit_fits b Lower a) (limit_fits b Upper a) e

or_first : (a b : Bool) → (a || b) ≡ false → a ≡ false
or_first true b e = e
or_first false b e = refl

never : (f : Fault) → ◌≡◌ {A = Reply} (Err f) (Ok tt) → ⊥
never f e = let z : ◌≡◌ {A = ℕ} 0 1 = cc in omega arith

all_false : (x y z : Bool) (d e f : Fault) → ◌≡◌ {A = Reply} (cond x (Err d) (cond y (Err e) (cond z (Err f) (Ok tt)))) (Ok tt) → (x ≡ false) × (y ≡ false) × (z ≡ false)
all_false true y z d e f h = absurd (never d h)
all_false false true z d e f h = absurd (never e h)
all_false false false true d e f h = absurd (never f h)
all_false false false false d e f h = (refl, refl, refl)

none_out : (bs : List Bounds) (p : Point) → reply bs p ≡ Ok tt → (out bs X p.x ≡ false) × (out bs Y p.y ≡ false) × (out bs Z p.z ≡ false)
none_out bs p e =
    all_false (out bs X p.x) (out bs Y p.y) (out bs Z p.z)
    (Outside 0 X (told (depth bs X p.x))) (Outside 0 Y (told (depth bs Y p.y))) (Outside 0 Z (told (depth bs Z p.z))) e

pub taken_axis_lem : (bs : List Bounds) (p : Point) → reply bs p ≡ Ok tt → (a : Axis) → out bs a (at p a) ≡ false
taken_axis_lem bs p e X = (none_out bs p e).0
taken_axis_lem bs p e Y = (none_out bs p e).1
taken_axis_lem bs p e Z = (none_out bs p e).2

-- a taken move is within the range of limits
pub taken_fits : (b : Bounds) (bs : List Bounds) (p : Point) → reply (b ∷ bs) p ≡ Ok tt → (a : Axis) → nat_abs (at p a) ≤ 2000000000
taken_fits b bs p e a = inside_fits b a (at p a) (or_first _ (out bs a (at p a)) (taken_axis_lem (b ∷ bs) p e a))

pub taken_within : (b : Bounds) (bs : List Bounds) (p : Point) → reply (b ∷ bs) p ≡ Ok tt → within 2000000000 p ≡ true
taken_within b bs p e = by_axis 2000000000 p (taken_fits b bs p e)
