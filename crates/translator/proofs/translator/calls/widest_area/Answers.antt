use Rattle.std.proofs.Common.{refl}
use Rattle.machine.specs.RangesLemmas.{same_bounds}
use Rattle.translator.specs.State.{widest_low, widest_high}
use Rattle.translator.proofs.translator.calls.widest_area.Goals as goal

pub invariant_of-result : goal.invariant_of-result
invariant_of-result c = record { low = widest_low; high = widest_high }

pub returns : goal.returns
returns c = same_bounds _ _ refl refl
