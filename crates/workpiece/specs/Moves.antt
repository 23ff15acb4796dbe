-- Planning the move of an ordinary block, and what it leaves.
use Rattle.std.specs.Prelude.{ℕ, cond, Some, None, Ok, Err, Option, Result}
use Rattle.units.specs.declared.fault.Fault.{Fault}
use Rattle.units.specs.declared.fault.Fault.TheVariants.{IncrementalMachine}
use Rattle.blocks.specs.declared.types.Ordinary.{Ordinary}
use Rattle.workpiece.specs.declared.plan.Plan.{Plan}
use Rattle.workpiece.specs.Force.{machine_only}
use Rattle.workpiece.specs.Modes.{is_incremental}
use Rattle.workpiece.specs.Places.{all_open}
use Rattle.workpiece.specs.Plans.{reckoned, opening_all}
use Rattle.workpiece.specs.Selects.{selected}
use Rattle.workpiece.specs.Setup.{SetupState}

-- the block's words after its selections, under what is then in force
abbrev pub workpiece_plan : SetupState → Ordinary → Result Plan Fault
workpiece_plan s o =
    reckoned (selected s o).force s.steps s.records s.tolerance (selected s o).modes.distance o.words (selected s o).values s.image

abbrev pub opened_plan : Result Plan Fault → Result Plan Fault
opened_plan (Ok p) = Ok (opening_all p)
opened_plan (Err f) = Err f

-- under G53 neither the chain nor a settable frame is in force; its words are absolute, and no value is kept
abbrev pub machine_plan : SetupState → Ordinary → ℕ → Result Plan Fault
machine_plan s o place =
    cond (is_incremental (selected s o).modes.distance) (Err (IncrementalMachine place))
    (opened_plan (reckoned machine_only s.steps s.records s.tolerance (selected s o).modes.distance o.words all_open s.image))

abbrev pub planned_by : SetupState → Ordinary → Option ℕ → Result Plan Fault
planned_by s o None = workpiece_plan s o
planned_by s o (Some place) = machine_plan s o place

abbrev pub planned : SetupState → Ordinary → Result Plan Fault
planned s o = planned_by s o o.machine

-- selections, values, targets and spreads after the move
abbrev pub moved : SetupState → Ordinary → Plan → SetupState
moved s o p = record {
  tolerance = s.tolerance;
  steps = s.steps;
  records = s.records;
  modes = (selected s o).modes;
  force = (selected s o).force;
  values = p.values;
  image = p.image;
  ended = (selected s o).ended;
}
