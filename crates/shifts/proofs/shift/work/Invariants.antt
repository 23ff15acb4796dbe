use Rattle.std.proofs.Common.{◌≡◌, ◌≤◌, take, vec_items, vec_len, vec_capacity}
use Rattle.translator.specs.State.{state_of}
use Rattle.shifts.specs.Calls.{Replied}
use Rattle.shifts.proofs.shift.work.Given as goal

abbrev pub invariant-loop-call : goal.invariant-loop-call
invariant-loop-call g l =
    Replied (state_of g.E.MachineEnd.meaning l.initial.translator) (take l.call-index l.calls) (vec_items l.seen) (state_of g.E.MachineEnd.meaning l.translator) × ((vec_len l.seen ≡ l.call-index) × (vec_capacity l.initial.seen ≤ vec_capacity l.seen))
