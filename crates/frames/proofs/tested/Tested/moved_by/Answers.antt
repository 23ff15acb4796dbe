use Rattle.std.proofs.Common.{◌≡◌, ◌+◌, set, sym, subst, rules, w64, SFits}
use Rattle.std.proofs.lemmas.Int.{to_z-of_z}
use Rattle.frames.specs.declared.image.Image.{Image}
use Rattle.frames.proofs.Axes.{Filled, filled_put, filled_kept, all_filled}
use Rattle.frames.proofs.tested.Tested.moved_by.Goals.{then-moved-a, else-moved-a}
use Rattle.frames.proofs.tested.Tested.moved_by.Goals as goal

pub loop-a-preserved : goal.loop-a-preserved
loop-a-preserved g c =
    let to : Image → Type 0 = λ q. Filled (goal.F-post g c.args.new) c.args.moved c.args.self.image q (c.loop-a.a + 1) in
    elim c.if-moved-a.branch [
      | then-moved-a w ↦
          let r : SFits w64 w.new-at.result.0 = search rules in
          let e : c.if-moved-a.image ≡ record { at = set c.loop-a.image.at c.loop-a.a w.new-at.result.0; spread = set c.loop-a.image.spread c.loop-a.a w.new-at.result.1 } = simp to_z-of_z at w.image-is in
          subst to (sym e) (filled_put _ c.args.moved c.args.self.image c.loop-a.image c.loop-a.a c.loop-a-test.true c.loop-a.invariant w.new-at.result.0 w.new-at.result.1 w.if-moved-a.true w.new-at.ensures)
      | else-moved-a w ↦ subst to (sym w.image-is) (filled_kept _ c.args.moved c.args.self.image c.loop-a.image c.loop-a.a c.loop-a-test.true c.loop-a.invariant w.if-moved-a.false)
    ]

pub returns-clause-image : goal.returns-clause-image
returns-clause-image g c = all_filled _ c.args.moved c.args.self.image c.loop-a.image c.loop-a.a c.loop-a-test.false c.loop-a.invariant
