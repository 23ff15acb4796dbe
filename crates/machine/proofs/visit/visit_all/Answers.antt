use Rattle.machine.proofs.Visits.{go_on_lem, stop}
use Rattle.machine.proofs.visit.visit_all.Goals as goal

pub loop-taken-preserved : goal.loop-taken-preserved
loop-taken-preserved g c =
    go_on_lem _ _ _ _ _ c.loop-taken.invariant c.loop-taken-test.true c.in_default.ensures.told c.take_move.ensures.left

pub returns-in-Err : goal.returns-in-Err
returns-in-Err g c =
    stop _ _ _ _ _ _ c.loop-taken.invariant c.loop-taken-test.true c.in-Err.ensures.told c.take_move.ensures.left
