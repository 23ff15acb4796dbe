use Rattle.std.proofs.Common.{◌≡◌, [], ◌∷◌, Some, ap, ◌∙◌, w64, SFits, rules}
use Rattle.std.proofs.lemmas.Int.{to_z-of_z}
use Rattle.units.specs.declared.axis.Point.{Point}
use Rattle.units.specs.declared.quantity.Length.{Length}
use Rattle.units.specs.Quantities.{length_of}
use Rattle.workpiece.specs.Entries.{three_of, lengths_of}
use Rattle.workpiece.proofs.setup.entry.lengths.Goals as goal

three_made : (p : Point) (x y z : Length) → Some x ≡ length_of p.x → Some y ≡ length_of p.y → Some z ≡ length_of p.z → Some (x ∷ y ∷ z ∷ []) ≡ lengths_of p
three_made p x y z ex ey ez = λ i. three_of (ex i) (ey i) (ez i)

pub returns : goal.returns
returns c =
    let fx : SFits w64 c.args.p.x = search rules in
    let fy : SFits w64 c.args.p.y = search rules in
    let fz : SFits w64 c.args.p.z = search rules in
    three_made c.args.p _ _ _ (c.in_ok-new.ensures ∙ ap length_of (to_z-of_z w64 c.args.p.x fx)) (c.in_ok-new-2.ensures ∙ ap length_of (to_z-of_z w64 c.args.p.y fy)) (c.in_ok-new-3.ensures ∙ ap length_of (to_z-of_z w64 c.args.p.z fz))
