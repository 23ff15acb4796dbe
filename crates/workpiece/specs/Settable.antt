-- The settable frames and their offsets.
use Rattle.std.specs.Prelude.{ℕ, zero, suc, cond, List, [], ◌∷◌, ℤ, pos, negsuc, Some, None, Option, ◌==◌, slice_index_or, slice_set}
use Rattle.units.specs.declared.quantity.Length.{Length}
use Rattle.units.specs.Quantities.{zero_length}
use Rattle.reader.specs.declared.functions.Settable.{Settable}
use Rattle.reader.specs.declared.functions.Settable.TheVariants.{G500, G54, G55, G56, G57, G58, G59}
use Rattle.workpiece.specs.declared.settable.SettableFrame.{SettableFrame}
use Rattle.workpiece.specs.declared.settable.SettableFrames.{SettableFrames}

-- 0 stands for G500, which has no record
abbrev pub frame_number : Settable → ℕ
frame_number G500 = 0
frame_number G54 = 1
frame_number G55 = 2
frame_number G56 = 3
frame_number G57 = 4
frame_number G58 = 5
frame_number G59 = 6

-- where the record of the frame with that number stands
abbrev pub record_place : ℕ → Option ℕ
record_place zero = None
record_place (suc n) = Some n

abbrev pub numbered_frame : ℤ → Option Settable
numbered_frame (negsuc n) = None
numbered_frame (pos n) =
    cond (n == 1) (Some G54)
    (cond (n == 2) (Some G55)
    (cond (n == 3) (Some G56)
    (cond (n == 4) (Some G57)
    (cond (n == 5) (Some G58)
    (cond (n == 6) (Some G59) None)))))

abbrev pub records_of : SettableFrames → List SettableFrame
records_of t = t.records

abbrev pub no_offset : List Length
no_offset = zero_length ∷ zero_length ∷ zero_length ∷ []

abbrev pub frame_of : List Length → SettableFrame
frame_of o = record { offset = o }

abbrev pub no_records : List SettableFrame
no_records = frame_of no_offset ∷ frame_of no_offset ∷ frame_of no_offset ∷ frame_of no_offset ∷ frame_of no_offset ∷ frame_of no_offset ∷ []

-- the offset of the frame with that number
abbrev pub offset_of : List SettableFrame → ℕ → List Length
offset_of fs zero = no_offset
offset_of fs (suc n) = (slice_index_or fs n (frame_of no_offset)).offset

abbrev pub entered : List SettableFrame → ℕ → List Length → List SettableFrame
entered fs zero o = fs
entered fs (suc n) o = slice_set fs n (frame_of o)
