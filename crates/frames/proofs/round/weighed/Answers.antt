use Rattle.std.proofs.Common.{◌≡◌, ℤ, ◌+ℤ◌, ◌*ℤ◌, ◌∙◌, ap₂, arith, rules, w64, SFits}
use Rattle.std.proofs.lemmas.Int.{to_z-of_z}
use borrow.Author.Differences.{ints}
use Rattle.units.specs.Nearest.{nearest}
use Rattle.frames.proofs.round.weighed.Goals as goal

pub returns : goal.returns
returns c =
    let a : SFits w64 c.args.a = c.ranges.a in
    let b : SFits w64 c.args.b = c.ranges.b in
    let first : SFits w64 c.times.result = search rules in
    let second : SFits w64 c.times-2.result = search rules in
    let sum : SFits w64 (c.times.result +ℤ c.times-2.result) = omega (arith, ints) in
    let rounded : SFits w64 c.div_nearest.result = search rules in
    let e : c.div_nearest.result ≡ nearest (c.times.result +ℤ c.times-2.result) 1000000000 = simp to_z-of_z at c.div_nearest.ensures.equal in
    let x : c.times.result ≡ c.args.a *ℤ c.args.i.at = simp to_z-of_z at c.times.ensures.value in
    let y : c.times-2.result ≡ c.args.b *ℤ c.args.j.at = simp to_z-of_z at c.times-2.ensures.value in
    simp to_z-of_z (e ∙ ap₂ (λ (u v : ℤ). nearest (u +ℤ v) 1000000000) x y)
