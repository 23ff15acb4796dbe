-- What every end owes, of the simulator.
use Rattle.std.specs.Prelude.{◌≡◌, true}
use Rattle.std.proofs.Common.{arith}
use Rattle.std.proofs.lemmas.Int.{ints}
use Rattle.units.specs.declared.axis.Point.{Point}
use Rattle.machine.specs.declared.bounds.Bounds.{Bounds}
use Rattle.machine.specs.Ranges.{within}
use Rattle.machine.specs.Meaning.{Sound}
use Rattle.machine.specs.RangesLemmas.{limit_fits, on_axis_lem}
use Rattle.example_end.specs.Simulated.{simulated}

pub simulated_sound : (b : Bounds) (p : Point) → within 2000000000 p ≡ true → Sound (simulated b p)
simulated_sound b p placed = record {
  some_box = omega arith;
  limits_fit = (limit_fits b, tt);
  least = λ a. omega arith;
  most = λ a. omega arith;
  near = λ a v. omega (arith, ints);
  held_fits = λ a. let h = on_axis_lem _ p placed a in omega arith;
}
