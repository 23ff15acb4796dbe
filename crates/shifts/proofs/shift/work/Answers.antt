use Rattle.std.proofs.Common.{vec_items, refl, rules}
use Rattle.shifts.proofs.Runs.{one_more}
use Rattle.shifts.proofs.shift.work.Goals as goal

pub loop-call-preserved : goal.loop-call-preserved
loop-call-preserved g c =
    (one_more _ _ _ c.args.calls.now c.loop-call.call-index _ _ (vec_items c.loop-call.seen) _ c.make_call.result c.loop-call-test.true refl c.loop-call.invariant.0 c.make_call.ensures.shown c.make_call.ensures.left c.in_ok-push.ensures.items, search rules)
