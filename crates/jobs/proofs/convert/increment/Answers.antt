use Rattle.std.proofs.Common.{rules, Ok, Err, subst, w64, SFits, ◌≡◌, ℤ, unsigned_abs}
use Rattle.std.specs.Result.{OkIff, MatchResult}
use Rattle.std.specs.Int.{FitsUnsignedBits}
use Rattle.std.proofs.lemmas.Int.{to_z-of_z}
use Rattle.units.specs.declared.fault.Fault.TheVariants.{Argument}
use Rattle.jobs.proofs.Increments.{fitting}
use Rattle.jobs.proofs.convert.increment.Goals as goal

pub returns : goal.returns
returns c =
    let z = c.args.units in
    let s : SFits w64 z = search rules in
    let m : MatchResult c.try_from.result (λ x. c.map_err.result ≡ Ok x) (λ e. c.map_err.result ≡ Err Argument) = search rules in
    fitting z c.try_from.result _ (subst (λ (i : ℤ). OkIff c.try_from.result (FitsUnsignedBits 32 i) (unsigned_abs i)) (to_z-of_z w64 z s) c.try_from.ensures) m
