-- The coordinates of a move that a box admits.
use Rattle.std.specs.Prelude.{◌≡◌, ◌≤◌, true, [], ◌∷◌, Ok, Err, Result, MatchResult, unsigned_abs}
use Rattle.units.specs.declared.axis.Axis.{Axis}
use Rattle.units.specs.declared.axis.Axis.TheVariants.{X, Y, Z}
use Rattle.units.specs.declared.axis.Point.{Point}
use Rattle.units.specs.declared.axis.ByAxis.{ByAxis}
use Rattle.units.specs.declared.fault.Fault.{Fault}
use Rattle.machine.specs.declared.bounds.Bounds.{Bounds}
use Rattle.machine.specs.declared.coordinate.Coordinate.{Coordinate}
use Rattle.machine.specs.Ranges.{within}
use Rattle.machine.specs.Meaning.{at}
use Rattle.machine.specs.RangesLemmas.{by_axis}
use Rattle.machine.specs.Replies.{reply}

abbrev pub coordinates : ByAxis Coordinate → Point
coordinates c = record { x = c.x.units; y = c.y.units; z = c.z.units }

pub coordinates_within : (c : ByAxis Coordinate) → within 2000000000 (coordinates c) ≡ true
coordinates_within c = by_axis _ (coordinates c) near
  where
    near : (a : Axis) → unsigned_abs (at (coordinates c) a) ≤ 2000000000
    near X = c.x.most
    near Y = c.y.most
    near Z = c.z.most

-- the point's own coordinates where the box alone admits it, else why it does not
abbrev pub AdmittedBy : Bounds → Point → Result (ByAxis Coordinate) Fault → Type 0
AdmittedBy b p r = MatchResult r (λ c. (reply (b ∷ []) p ≡ Ok tt) × (coordinates c ≡ p)) (λ f. reply (b ∷ []) p ≡ Err f)
