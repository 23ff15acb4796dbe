use Rattle.std.proofs.Common.{refl}
use Rattle.machine_tests.proofs.deep.deep_piles_stand.Goals as goal

pub returns : goal.returns
returns c = record { taken = refl; level_254 = refl; level_255 = refl; level_300 = refl; top_first = refl; count_255 = refl; count_301 = refl }
