use Rattle.std.proofs.Common.{◌≡◌}
use Rattle.translator.specs.State.{state_of}
use Rattle.rolls.specs.Rolls.{roll_of}
use Rattle.programmes.proofs.Along.{Along}
use Rattle.programmes.proofs.work.work_text.Given as goal

abbrev pub invariant-loop-line : goal.invariant-loop-line
invariant-loop-line g l = record {
  along : Along (state_of g.E.MachineEnd.meaning l.fn.translator) l.text (roll_of l.fn.moves) (roll_of l.fn.declines) l.line-iterator.place (state_of g.E.MachineEnd.meaning l.translator) (roll_of l.moves) (roll_of l.declines);
  text : l.line-iterator.text.now ≡ l.text;
  lent : l.moves.places.ghost_name ≡ l.fn.moves.places.ghost_name;
  also : l.declines.places.ghost_name ≡ l.fn.declines.places.ghost_name;
}
