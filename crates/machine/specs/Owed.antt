-- What every end owes, of the ends here.
use Rattle.std.specs.Prelude.{◌≡◌, true}
use Rattle.std.proofs.Common.{arith}
use Rattle.units.specs.declared.axis.ByAxis.{ByAxis}
use Rattle.units.specs.declared.axis.Point.{Point}
use Rattle.machine.specs.declared.bounds.Bounds.{Bounds}
use Rattle.machine.specs.declared.increment.Increment.{Increment}
use Rattle.machine.specs.Motors.{Counts}
use Rattle.machine.specs.Ranges.{within}
use Rattle.machine.specs.Meaning.{Meaning, Sound, topped}
use Rattle.machine.specs.Scale.{scale_meaning}
use Rattle.machine.specs.Count.{lengths, standing_at, count_meaning}
use Rattle.machine.specs.RangesLemmas.{limit_fits, on_axis_lem}
use Rattle.machine.specs.Nearness.{multiple_near}
use Rattle.machine.specs.Counts.{least_length, most_length, count_near}

pub scale_sound : (i : Increment) (b : Bounds) (p : Point) → within 2000050000 p ≡ true → Sound (scale_meaning i.units b p)
scale_sound i b p placed = record {
  some_box = omega arith;
  limits_fit = (limit_fits b, tt);
  least = λ a. i.least;
  most = λ a. i.most;
  near = λ a v. multiple_near _ v i.least;
  held_fits = on_axis_lem _ p placed;
}

pub count_sound : (i : ByAxis Increment) (b : Bounds) (k : Counts) → within 2000050000 (standing_at (lengths i) k) ≡ true → Sound (count_meaning (lengths i) b k)
count_sound i b k placed = record {
  some_box = omega arith;
  limits_fit = (limit_fits b, tt);
  least = least_length i;
  most = most_length i;
  near = λ a v. count_near _ v (least_length i a);
  held_fits = on_axis_lem _ _ placed;
}

-- a box on top of an end owes no more than the end
pub topped_sound : (b : Bounds) (m : Meaning) → Sound m → Sound (topped b m)
topped_sound b m s = record { some_box = omega arith; limits_fit = (limit_fits b, s.limits_fit); least = s.least; most = s.most; near = s.near; held_fits = s.held_fits }
