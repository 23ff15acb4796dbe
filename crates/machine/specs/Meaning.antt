-- What a machine end means, and what every end owes.
use Rattle.std.specs.Prelude.{ℕ, ◌*◌, ◌<◌, ◌≤◌, List, [], ◌∷◌, length, ℤ, pos, ◌-ℤ◌, unsigned_abs}
pub use Rattle.units.specs.Axes.{at}
use Rattle.units.specs.declared.axis.Axis.{Axis}
use Rattle.units.specs.declared.axis.Axis.TheVariants.{X, Y, Z}
use Rattle.units.specs.declared.axis.Side.{Side}
use Rattle.units.specs.declared.axis.Side.TheVariants.{Lower, Upper}
use Rattle.units.specs.declared.axis.Point.{Point}
use Rattle.machine.specs.declared.bounds.Bounds.{Bounds}

-- each coordinate by the function of its axis
abbrev pub each : (Axis → ℤ → ℤ) → Point → Point
each f p = record { x = f X p.x; y = f Y p.y; z = f Z p.z }

abbrev pub origin : Point
origin = record { x = pos 0; y = pos 0; z = pos 0 }

-- the lower or the upper limits of a box
abbrev pub limits : Bounds → Side → Point
limits b Lower = b.lower
limits b Upper = b.upper

-- Boxes, topmost first; an increment for each axis; a rounding, by axis and coordinate alone; and the position held.
pub record Meaning : Type 0 where
  pub boxes : List Bounds
  pub increment : Axis → ℕ
  pub rounding : Axis → ℤ → ℤ
  pub held : Point

-- a fact of every box of a list
abbrev pub Every : (Bounds → Type 0) → List Bounds → Type 0
Every P [] = Unit {0}
Every P (b ∷ bs) = P b × Every P bs

-- What every end owes, whatever it is: one box or more, its numbers in range, and a rounding that goes at most half an increment away.
pub record Sound (m : Meaning) : Type 0 where
  pub some_box : 0 < length m.boxes
  pub limits_fit : Every (λ b. (s : Side) (a : Axis) → unsigned_abs (at (limits b s) a) ≤ 2000000000) m.boxes
  pub least : (a : Axis) → 1 ≤ m.increment a
  pub most : (a : Axis) → m.increment a ≤ 100000
  pub near : (a : Axis) (v : ℤ) → 2 * unsigned_abs (v -ℤ m.rounding a v) ≤ m.increment a
  pub held_fits : (a : Axis) → unsigned_abs (at m.held a) ≤ 2000050000

-- a box on top of an end; all else is that of the end below
abbrev pub topped : Bounds → Meaning → Meaning
topped b m = record { boxes = b ∷ m.boxes; increment = m.increment; rounding = m.rounding; held = m.held }
