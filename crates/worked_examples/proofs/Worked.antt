-- The worked examples, by computation.
use Rattle.std.proofs.Common.{refl}
use Rattle.units.specs.Nearest.{nearest}
use Rattle.turns.specs.Terms.{cut_term}
use Rattle.turns.specs.Numbers.{octant_c, octant_s, turn_c, turn_s}
use Rattle.blocks.specs.Block.{block_of}
use Rattle.worked_examples.specs.Examples.{Examples}

pub all_examples : Examples
unfolding nearest cut_term octant_c octant_s turn_c turn_s block_of
all_examples = record { quarter = refl; inside = refl; round = refl; turned = refl; refused = refl; twice = refl; machine = refl; inch = refl; decimals = refl; scaled = refl; limit = refl; outside = refl; incremental = refl }
