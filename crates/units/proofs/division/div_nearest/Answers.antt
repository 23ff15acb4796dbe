use Rattle.std.proofs.Common.{w64, SFits, rules}
use Rattle.units.proofs.Round.{through_bits}
use Rattle.units.proofs.division.div_nearest.Goals as goal

pub returns-clause-equal : goal.returns-clause-equal
returns-clause-equal c =
    let fn : SFits w64 c.args.dividend.value = search rules in
    let fd : SFits w64 c.from.result = search rules in
    let fr : SFits w64 c.quotient.result = search rules in
    through_bits _ _ _ _ fn fd fr c.from.ensures c.args.divisor.some c.quotient.ensures
