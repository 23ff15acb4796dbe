use Rattle.machine.proofs.Joins.{held_back}
use Rattle.machine.proofs.area.layer.WorkAreaMachineEnd.take_move.Goals as goal

pub returns-in-Err-clause-left : goal.returns-in-Err-clause-left
returns-in-Err-clause-left g c = held_back c.args.self.now.own (g.E.MachineEnd.meaning c.args.self.now.below) c.args.to _ c.in-Err.ensures
