use Rattle.std.proofs.Common.{◌≡◌, ap, ◌∙◌, w64, to_z, of_z, rules}
use Rattle.units.specs.Quantities.{factor_of}
use Rattle.blocks.specs.Measures.{whole_factor}
use Rattle.blocks.proofs.Measured.{unsigned_is, factor_far, factor_unsigned}
use Rattle.blocks.proofs.measures.whole_factor.Goals as goal

pub returns : goal.returns
returns c =
    let same : to_z w64 (of_z w64 c.args.parts) ≡ c.args.parts = search rules in
    unsigned_is factor_of factor_far _ _ _ c.try_from.ensures (rw c.ok.ensures.value at c.and_then.ensures) ∙ factor_unsigned (to_z w64 (of_z w64 c.args.parts)) ∙ ap whole_factor same
