-- Axes by number, planes by name, and what a point or three values say of an axis.
use Rattle.std.specs.Prelude.{ℕ, ℤ, List, cond, Result, Ok, Err, ◌==◌, codes}
use Rattle.units.specs.declared.axis.Axis.{Axis}
use Rattle.units.specs.declared.axis.Axis.TheVariants.{X, Y, Z}
use Rattle.units.specs.declared.axis.Plane.{Plane}
use Rattle.units.specs.declared.axis.Plane.TheVariants.{Xy, Zx, Yz}
use Rattle.units.specs.declared.axis.Point.{Point}
use Rattle.units.specs.declared.axis.ByAxis.{ByAxis}
use Rattle.units.specs.declared.fault.Fault.{Fault}
use Rattle.units.specs.declared.fault.Fault.TheVariants.{Argument}

abbrev pub axis_number : Axis → ℕ
axis_number X = 1
axis_number Y = 2
axis_number Z = 3

-- axes are numbered from 1
abbrev pub axis_of : ℕ → Result Axis Fault
axis_of n = cond (n == 1) (Ok X) (cond (n == 2) (Ok Y) (cond (n == 3) (Ok Z) (Err Argument)))

-- the G function that selects the plane
abbrev pub plane_name : Plane → List ℕ
plane_name Xy = codes "G17"
plane_name Zx = codes "G18"
plane_name Yz = codes "G19"

-- a point's coordinate on an axis
abbrev pub at : Point → Axis → ℤ
at p X = p.x
at p Y = p.y
at p Z = p.z

-- the value of an axis
abbrev pub on_axis : {T : Type 0} → ByAxis T → Axis → T
on_axis v X = v.x
on_axis v Y = v.y
on_axis v Z = v.z
