use Rattle.std.proofs.Common.{rules}
use Rattle.programmes.proofs.Along.{whole_shift}
use Rattle.programmes.proofs.shift.shift_text.Goals as goal

pub returns : goal.returns
returns g c = record {
  worked = whole_shift (g.E.MachineEnd.meaning c.args.end) c.args.tolerance (g.met.E.MachineEnd.sound c.args.end) c.args.text.now _ _ c.read-opening.result c.work_text-told.result _ _ _ _ c.new-translator.ensures c.read-opening.ensures c.work_text-told.ensures.worked;
  lent = search rules;
  also = search rules;
}
