-- Entering the offset of a settable frame.
use Rattle.std.specs.Prelude.{Bool, cond, List, [], ◌∷◌, ℤ, Some, None, Ok, Err, Option, Result, ◌==◌}
use Rattle.units.specs.declared.axis.Point.{Point}
use Rattle.units.specs.declared.fault.Fault.{Fault}
use Rattle.units.specs.declared.fault.Fault.TheVariants.{Argument}
use Rattle.units.specs.declared.quantity.Length.{Length}
use Rattle.units.specs.Quantities.{length_of}
use Rattle.reader.specs.declared.functions.Settable.{Settable}
use Rattle.workpiece.specs.Places.{all_open}
use Rattle.workpiece.specs.Settable.{frame_number, numbered_frame, entered}
use Rattle.workpiece.specs.Setup.{SetupState}

abbrev pub three_of : Option Length → Option Length → Option Length → Option (List Length)
three_of None y z = None
three_of (Some x) None z = None
three_of (Some x) (Some y) None = None
three_of (Some x) (Some y) (Some z) = Some (x ∷ y ∷ z ∷ [])

-- three lengths, where every coordinate is one
abbrev pub lengths_of : Point → Option (List Length)
lengths_of p = three_of (length_of p.x) (length_of p.y) (length_of p.z)

abbrev pub opened_if : Bool → List (Option Length) → List (Option Length)
opened_if b vs = cond b all_open vs

-- entering the selected frame opens all axes
abbrev pub entered_at : SetupState → Settable → List Length → SetupState
entered_at s f offset = record {
  tolerance = s.tolerance;
  steps = s.steps;
  records = entered s.records (frame_number f) offset;
  modes = s.modes;
  force = s.force;
  values = opened_if (frame_number f == frame_number s.force.settable) s.values;
  image = s.image;
  ended = s.ended;
}

abbrev pub entered_with : SetupState → Option Settable → Option (List Length) → Result SetupState Fault
entered_with s None offset = Err Argument
entered_with s (Some f) None = Err Argument
entered_with s (Some f) (Some offset) = Ok (entered_at s f offset)

abbrev pub entered_by : SetupState → ℤ → Point → Result SetupState Fault
entered_by s frame offset = entered_with s (numbered_frame frame) (lengths_of offset)
