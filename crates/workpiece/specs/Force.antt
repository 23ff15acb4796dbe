-- What is in force of frames.
use Rattle.std.specs.Prelude.{Bool, true, false, not, Option, ◌==◌}
use Rattle.reader.specs.declared.functions.Settable.{Settable}
use Rattle.reader.specs.declared.functions.Settable.TheVariants.{G500}
use Rattle.workpiece.specs.declared.force.InForce.{InForce}
use Rattle.workpiece.specs.Modes.{chosen}
use Rattle.workpiece.specs.Settable.{frame_number}

abbrev pub start_force : InForce
start_force = record { settable = G500; chained = true }

-- under G53
abbrev pub machine_only : InForce
machine_only = record { settable = G500; chained = false }

abbrev pub selected_force : Option Settable → InForce → InForce
selected_force by f = record { settable = chosen by f.settable; chained = f.chained }

-- another settable frame is then in force; frames differ by their number
abbrev pub another_frame : InForce → InForce → Bool
another_frame f g = not (frame_number f.settable == frame_number g.settable)
