-- A taken move is within the range of limits.
use Rattle.std.proofs.Common.{[], sym}
use Rattle.machine.proofs.Taken.{taken_within}
use Rattle.example_end.proofs.simulator.moves.SimulatorMachineEnd.take_move.Goals as goal

pub invariant_of-self : goal.invariant_of-self
invariant_of-self c = record { placed = taken_within c.args.self.now.bounds [] _ (sym c.in_ok-ask_move.ensures) }
