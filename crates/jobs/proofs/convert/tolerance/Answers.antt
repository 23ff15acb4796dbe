use Rattle.std.proofs.Common.{rules, subst, w64, SFits, ◌≡◌, ℤ, unsigned_abs}
use Rattle.std.specs.Result.{OkIff, result_ok}
use Rattle.std.specs.Option.{option_and_then}
use Rattle.std.specs.Int.{FitsUnsignedBits}
use Rattle.std.proofs.lemmas.Int.{to_z-of_z}
use Rattle.units.specs.Quantities.{tolerance_of}
use Rattle.jobs.proofs.Signs.{asked}
use Rattle.jobs.proofs.convert.tolerance.Goals as goal

pub returns : goal.returns
returns c =
    let z = c.args.units in
    let s : SFits w64 z = search rules in
    let o : c.and_then.result ≡ option_and_then tolerance_of (result_ok c.try_from.result) = search rules in
    asked z c.try_from.result _ s (subst (λ (i : ℤ). OkIff c.try_from.result (FitsUnsignedBits 64 i) (unsigned_abs i)) (to_z-of_z w64 z s) c.try_from.ensures) (search rules)
