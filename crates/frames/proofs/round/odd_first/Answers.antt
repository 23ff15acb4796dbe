use Rattle.std.proofs.Common.{◌≡◌, ℤ, pos, ◌+ℤ◌, ◌-ℤ◌, ◌*ℤ◌, ◌∙◌, ap, arith, rules, w64, SFits}
use Rattle.std.proofs.lemmas.Int.{to_z-of_z}
use borrow.Author.Differences.{ints}
use Rattle.units.specs.Nearest.{nearest}
use Rattle.frames.proofs.Products.{from_zero}
use Rattle.frames.proofs.round.odd_first.Goals as goal

pub returns : goal.returns
returns c =
    let r : SFits w64 c.weighed.result = search rules in
    let cosine : SFits w64 c.args.n.cosine = search rules in
    let sine : SFits w64 c.args.n.sine = search rules in
    let back : SFits w64 (pos 0 -ℤ c.args.n.sine) = omega (arith, ints) in
    let e : c.weighed.result ≡ nearest (c.args.n.cosine *ℤ c.args.i.at +ℤ (pos 0 -ℤ c.args.n.sine) *ℤ c.args.j.at) 1000000000 = simp to_z-of_z at c.weighed.ensures in
    simp to_z-of_z (e ∙ ap (λ (v : ℤ). nearest (c.args.n.cosine *ℤ c.args.i.at +ℤ v) 1000000000) (from_zero c.args.n.sine c.args.j.at))
