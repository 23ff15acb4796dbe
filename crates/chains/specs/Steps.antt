-- Steps: the axes of a plane, and which axes a step touches and joins. Axes go by index: X 0, Y 1, Z 2.
use Rattle.std.specs.Prelude.{◌≡◌, ℕ, Bool, false, ◌||◌, ◌⊎◌, is_some, None, ◌==◌, slice_index_or}
use Rattle.units.specs.declared.axis.Plane.{Plane}
use Rattle.units.specs.declared.axis.Plane.TheVariants.{Xy, Zx, Yz}
use Rattle.chains.specs.declared.step.Step.{Step}
use Rattle.chains.specs.declared.step.Step.TheVariants.{Offset, Scale, Mirror, Turn}

-- G17 is X, Y; G18 is Z, X; G19 is Y, Z
abbrev pub first_of : Plane → ℕ
first_of Xy = 0
first_of Zx = 2
first_of Yz = 1

abbrev pub second_of : Plane → ℕ
second_of Xy = 1
second_of Zx = 0
second_of Yz = 2

abbrev pub same_plane : Plane → Plane → Bool
same_plane p q = first_of p == first_of q

-- a step touches the axes that it names, a turn both its axes
abbrev pub touches : Step → ℕ → Bool
touches (Offset by) a = is_some (slice_index_or by a None)
touches (Scale by) a = is_some (slice_index_or by a None)
touches (Mirror named) a = slice_index_or named a false
touches (Turn plane angle) a = a == first_of plane || a == second_of plane

-- a turn joins its two axes, whatever its angle
abbrev pub JoinsAxes : Step → ℕ → ℕ → Type 0
JoinsAxes (Offset by) a b = ⊥
JoinsAxes (Scale by) a b = ⊥
JoinsAxes (Mirror named) a b = ⊥
JoinsAxes (Turn plane angle) a b = ((a ≡ first_of plane) × (b ≡ second_of plane)) ⊎ ((a ≡ second_of plane) × (b ≡ first_of plane))
