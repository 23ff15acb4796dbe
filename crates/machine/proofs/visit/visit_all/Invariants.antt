use Rattle.machine.proofs.Visits.{Going}
use Rattle.machine.proofs.visit.visit_all.Given as goal

abbrev pub invariant-loop-taken : goal.invariant-loop-taken
invariant-loop-taken g l = Going (g.E.MachineEnd.meaning l.initial.end) l.points l.taken (g.E.MachineEnd.meaning l.end)
