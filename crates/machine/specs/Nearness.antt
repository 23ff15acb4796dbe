-- The roundings go at most half an increment away.
use Rattle.std.specs.Prelude.{◌≡◌, ℕ, ◌*◌, ◌≤◌, true, ℤ, ◌-ℤ◌, unsigned_abs}
use Rattle.std.proofs.Common.{arith}
use Rattle.std.proofs.lemmas.Int.{ints}
use Rattle.units.proofs.Round.{nearest_near}
use Rattle.units.specs.declared.axis.Axis.{Axis}
use Rattle.units.specs.declared.axis.Axis.TheVariants.{X, Y, Z}
use Rattle.units.specs.declared.axis.Point.{Point}
use Rattle.machine.specs.Ranges.{within, increment_fits}
use Rattle.machine.specs.Meaning.{at, each}
use Rattle.machine.specs.RangesLemmas.{on_axis_lem, by_axis, same_within, increment_least, increment_most}
use Rattle.machine.specs.Scale.{nearest_multiple}

pub multiple_near : (d : ℕ) (v : ℤ) → 1 ≤ d → 2 * unsigned_abs (v -ℤ nearest_multiple d v) ≤ d
multiple_near d v h = (nearest_near v d h).close

-- what is at most half an increment away from a coordinate within the limits
pub near_fits : (d : ℕ) (v r : ℤ) → d ≤ 100000 → unsigned_abs v ≤ 2000000000 → 2 * unsigned_abs (v -ℤ r) ≤ d → unsigned_abs r ≤ 2000050000
near_fits d v r h w n = omega (arith, ints)

-- three roundings of a point within the limits
pub each_fits : (d : Axis → ℕ) (f : Axis → ℤ → ℤ) (p : Point) → ((a : Axis) → d a ≤ 100000) → within 2000000000 p ≡ true → ((a : Axis) (v : ℤ) → 2 * unsigned_abs (v -ℤ f a v) ≤ d a) → within 2000050000 (each f p) ≡ true
each_fits d f p most w near = by_axis 2000050000 (each f p) fits
  where
    fits : (a : Axis) → unsigned_abs (at (each f p) a) ≤ 2000050000
    fits X = near_fits (d X) p.x (f X p.x) (most X) (on_axis_lem _ p w X) (near X p.x)
    fits Y = near_fits (d Y) p.y (f Y p.y) (most Y) (on_axis_lem _ p w Y) (near Y p.y)
    fits Z = near_fits (d Z) p.z (f Z p.z) (most Z) (on_axis_lem _ p w Z) (near Z p.z)

pub multiples_within : (d : ℕ) (p r : Point) → increment_fits d ≡ true → within 2000000000 p ≡ true → r ≡ each (λ a. nearest_multiple d) p → within 2000050000 r ≡ true
multiples_within d p r s w e = same_within _ r (each (λ a. nearest_multiple d) p) e (each_fits (λ a. d) (λ a. nearest_multiple d) p (λ a. increment_most d s) w (λ a v. multiple_near d v (increment_least d s)))
