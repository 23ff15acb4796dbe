-- What the selections of a block leave.
use Rattle.std.specs.Prelude.{cond, ◌||◌, List, Option}
use Rattle.units.specs.declared.quantity.Length.{Length}
use Rattle.blocks.specs.declared.types.Ordinary.{Ordinary}
use Rattle.workpiece.specs.declared.force.InForce.{InForce}
use Rattle.workpiece.specs.Force.{selected_force, another_frame}
use Rattle.workpiece.specs.Modes.{selected_modes}
use Rattle.workpiece.specs.Places.{all_open}
use Rattle.workpiece.specs.Setup.{SetupState}

-- selecting another settable frame opens all axes
abbrev pub opened_by : InForce → InForce → List (Option Length) → List (Option Length)
opened_by before after vs = cond (another_frame before after) all_open vs

-- selections in force; the programme may end with the block
abbrev pub selected : SetupState → Ordinary → SetupState
selected s o = record {
  tolerance = s.tolerance;
  steps = s.steps;
  records = s.records;
  modes = selected_modes o.selections s.modes;
  force = selected_force o.selections.settable s.force;
  values = opened_by s.force (selected_force o.selections.settable s.force) s.values;
  image = s.image;
  ended = o.ends || s.ended;
}
