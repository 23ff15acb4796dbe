use Rattle.std.proofs.Common.{◌≡◌, ◌≤◌, length, Err, ◌∙◌, rules}
use Rattle.chains.specs.Chains.{steps_of}
use Rattle.frames.specs.Axes.{image_of}
use Rattle.frames.proofs.Passing.{loop_next, loop_refused, loop_ended}
use Rattle.frames.proofs.Limits.{pushed_limited}
use Rattle.frames.proofs.Whole.{pushed_sound}
use Rattle.frames.proofs.push.push.Goals as goal

pub loop-i-preserved : goal.loop-i-preserved
loop-i-preserved c =
    let h : c.args.chain.now.count ≤ length c.args.chain.now.steps = search rules in
    loop_next c.args.chain.now.steps c.args.chain.now.count c.args.moved c.args.tolerance.units c.args.offset c.args.values c.start-p.result.image h c.start-p.ensures c.loop-i.i c.loop-i.p.image c.loop-i.invariant
    c.through.result c.through.ensures.moved c.loop-i-test.true c.loop-i.auto.i c.index-chain-i.result c.through.ensures.image c.step_number.result c.step_number.ensures c.in_ok-p.p.image c.in_ok-p.ensures

pub returns-in_err-p-clause-told : goal.returns-in_err-p-clause-told
returns-in_err-p-clause-told c =
    let h : c.args.chain.now.count ≤ length c.args.chain.now.steps = search rules in
    let e : c.from_residual.result ≡ Err c.in_err-p.field-0.0 = search rules in
    e
    ∙ loop_refused c.args.chain.now.steps c.args.chain.now.count c.args.moved c.args.tolerance.units c.args.offset c.args.values c.start-p.result.image h c.start-p.ensures c.loop-i.i c.loop-i.p.image c.loop-i.invariant
    c.through.result c.through.ensures.moved c.loop-i-test.true c.loop-i.auto.i c.index-chain-i.result c.through.ensures.image c.step_number.result c.step_number.ensures c.in_err-p.field-0.0 c.in_err-p.ensures

pub returns : goal.returns
returns c =
    let h : c.args.chain.now.count ≤ length c.args.chain.now.steps = search rules in
    let same : c.map.result ≡ image_of c.tested-2.result = search rules in
    let e =
    same
    ∙ loop_ended c.args.chain.now.steps c.args.chain.now.count c.args.moved c.args.tolerance.units c.args.offset c.args.values c.start-p.result.image h c.start-p.ensures c.loop-i.i c.loop-i.p.image c.loop-i.invariant
    c.offset.result c.offset.ensures.moved c.loop-i-test.false c.on_all.result c.on_all.ensures c.offset.ensures.image (image_of c.tested-2.result) c.tested-2.ensures in
    record {
      told = e;
      sound = pushed_sound (steps_of c.args.chain.now) c.args.moved c.args.tolerance.units c.args.offset c.args.values c.map.result e;
      limited = pushed_limited (steps_of c.args.chain.now) c.args.moved c.args.tolerance.units c.args.offset c.args.values c.map.result e;
    }
