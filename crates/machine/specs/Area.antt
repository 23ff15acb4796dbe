-- A work area's own box, rewritten on one side.
use Rattle.std.specs.Prelude.{◌≡◌, true, List, ℤ, Some, None, Option, nat_le, slice_index_or, unsigned_abs}
use Rattle.std.proofs.Math.Bool.{and-eq-true_iff}
use Rattle.std.proofs.Common.{arith, le-leb}
use Rattle.units.specs.declared.axis.Point.{Point}
use Rattle.units.specs.declared.axis.Side.{Side}
use Rattle.units.specs.declared.axis.Side.TheVariants.{Lower, Upper}
use Rattle.units.specs.declared.quantity.Length.{Length}
use Rattle.machine.specs.declared.bounds.Bounds.{Bounds}
use Rattle.machine.specs.Ranges.{within}

-- the length where one is given, else the coordinate as it was
abbrev pub written : Option Length → ℤ → ℤ
written (Some l) v = l.units
written None v = v

-- a length or none for X, Y and Z
abbrev pub written_over : List (Option Length) → Point → Point
written_over ls p = record { x = written (slice_index_or ls 0 None) p.x; y = written (slice_index_or ls 1 None) p.y; z = written (slice_index_or ls 2 None) p.z }

written_fits : (o : Option Length) (v : ℤ) → nat_le (unsigned_abs v) 2000000000 ≡ true → nat_le (unsigned_abs (written o v)) 2000000000 ≡ true
written_fits (Some l) v h = let m = l.most in le-leb _ _ (omega arith)
written_fits None v h = h

-- a length is never beyond the range of limits
pub written_within : (ls : List (Option Length)) (p : Point) → within 2000000000 p ≡ true → within 2000000000 (written_over ls p) ≡ true
unfolding within
written_within ls p h =
    let b = (and-eq-true_iff _ _).0 h in
    let c = (and-eq-true_iff _ _).0 b.1 in
    (and-eq-true_iff _ _).1 (written_fits (slice_index_or ls 0 None) _ b.0, (and-eq-true_iff _ _).1 (written_fits (slice_index_or ls 1 None) _ c.0, written_fits (slice_index_or ls 2 None) _ c.1))

-- the given lengths are the limits of that side; all else stays
abbrev pub rewritten : Side → List (Option Length) → Bounds → Bounds
rewritten Lower ls b = record { lower = written_over ls b.lower; upper = b.upper; low = written_within ls b.lower b.low; high = b.high }
rewritten Upper ls b = record { lower = b.lower; upper = written_over ls b.upper; low = b.low; high = written_within ls b.upper b.high }
