-- The modal functions in force.
use Rattle.std.specs.Prelude.{Bool, true, false, Some, None, Option}
use Rattle.units.specs.declared.axis.Plane.TheVariants.{Xy}
use Rattle.reader.specs.declared.functions.Motion.TheVariants.{Linear}
use Rattle.reader.specs.declared.functions.LengthUnit.{LengthUnit}
use Rattle.reader.specs.declared.functions.LengthUnit.TheVariants.{Inch, Millimetre}
use Rattle.reader.specs.declared.functions.Distance.{Distance}
use Rattle.reader.specs.declared.functions.Distance.TheVariants.{Absolute, Incremental}
use Rattle.blocks.specs.declared.types.Selections.{Selections}
use Rattle.workpiece.specs.declared.modes.Modes.{Modes}

-- G1, G17, G71, G90
abbrev pub start_modes : Modes
start_modes = record { motion = Linear; plane = Xy; unit = Millimetre; distance = Absolute }

abbrev pub is_inch : LengthUnit → Bool
is_inch Inch = true
is_inch Millimetre = false

abbrev pub is_incremental : Distance → Bool
is_incremental Absolute = false
is_incremental Incremental = true

-- what is selected, else what was in force
abbrev pub chosen : {A : Type 0} → Option A → A → A
chosen None old = old
chosen (Some new) old = new

abbrev pub selected_modes : Selections → Modes → Modes
selected_modes by m = record {
  motion = chosen by.motion m.motion;
  plane = chosen by.plane m.plane;
  unit = chosen by.unit m.unit;
  distance = chosen by.distance m.distance;
}
