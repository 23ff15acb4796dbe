use Rattle.std.proofs.Common.{vec_items, subst}
use Rattle.translator.specs.State.{State, state_of, opened, Tells}
use Rattle.shifts.specs.Calls.{Replied}
use Rattle.shifts.proofs.Law.{law_holds}
use Rattle.shifts.proofs.shift.shift.Goals as goal

pub returns-clause-law : goal.returns-clause-law
returns-clause-law g c =
    let m = g.E.MachineEnd.meaning c.args.end in
    let o : Tells (opened m c.args.tolerance) c.read-opening.result = subst (λ (z : State). Tells z c.read-opening.result) c.new-translator.ensures c.read-opening.ensures in
    let r : Replied (opened m c.args.tolerance) c.args.calls.now (vec_items c.in_ok-seen.seen) (state_of g.E.MachineEnd.meaning c.work.new.translator) =
    subst (λ (z : State). Replied z c.args.calls.now (vec_items c.in_ok-seen.seen) (state_of g.E.MachineEnd.meaning c.work.new.translator)) c.new-translator.ensures c.in_ok-seen.ensures.replies in
    law_holds m c.args.tolerance c.args.calls.now c.read-opening.result (vec_items c.in_ok-seen.seen) (g.met.E.MachineEnd.sound c.args.end) o r.shown
