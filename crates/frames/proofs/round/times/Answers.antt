use Rattle.std.proofs.Common.{◌*ℤ◌, lit<, mul-le-mul, rules, w64, SFits}
use Rattle.std.proofs.lemmas.Int.{to_z-of_z, fits_signed_mul, unsigned_abs-mul}
use Rattle.frames.proofs.round.times.Goals as goal

pub returns : goal.returns
returns c =
    let a : SFits w64 c.args.a = c.ranges.a in
    let x : SFits w64 c.args.x.at = search rules in
    let product : SFits w64 (c.args.a *ℤ c.args.x.at) = fits_signed_mul w64 c.args.a c.args.x.at 1000000000 2000000000 c.requires c.args.x.near (lit< tt) in
    record { value = simp to_z-of_z; size = simp (to_z-of_z, unsigned_abs-mul) (mul-le-mul c.requires c.args.x.near) }
