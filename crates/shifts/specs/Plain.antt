-- The plain shift: exact targets in fractions, with no rounding, from the position first held, the calls, and whether each was declined.
-- Of the translator's definitions it shares only the typed block and the chain.
use Rattle.std.specs.Prelude.{ℕ, zero, suc, Bool, true, false, cond, ◌||◌, List, [], ◌∷◌, ℤ, pos, negsuc, ◌+ℤ◌, is_some, Some, None, Ok, Err, Option, Result, ◌==◌, slice_index_or}
use Rattle.units.specs.declared.axis.Plane.{Plane}
use Rattle.units.specs.declared.axis.Plane.TheVariants.{Xy}
use Rattle.units.specs.declared.axis.Point.{Point}
use Rattle.units.specs.declared.fault.Fault.{Fault}
use Rattle.units.specs.declared.quantity.Length.{Length}
use Rattle.fractions.specs.Fractions.{Frac, over, shifted}
use Rattle.chains.specs.declared.step.Step.{Step}
use Rattle.chains.specs.declared.step.Step.TheVariants.{Offset, Scale, Mirror, Turn}
use Rattle.chains.specs.Chains.{touched_at, lengthened}
use Rattle.chains.specs.Joined.{moved_axes}
use Rattle.chains.specs.Steps.{touches}
use Rattle.frames.specs.Exact.{exact_through}
use Rattle.reader.specs.declared.functions.Distance.{Distance}
use Rattle.reader.specs.declared.functions.Distance.TheVariants.{Absolute, Incremental}
use Rattle.reader.specs.declared.functions.LengthUnit.{LengthUnit}
use Rattle.reader.specs.declared.functions.LengthUnit.TheVariants.{Inch, Millimetre}
use Rattle.reader.specs.declared.functions.Settable.{Settable}
use Rattle.reader.specs.declared.functions.Settable.TheVariants.{G500, G54, G55, G56, G57, G58, G59}
use Rattle.blocks.specs.Block.{block_of}
use Rattle.blocks.specs.declared.types.Block.{Block}
use Rattle.blocks.specs.declared.types.Block.TheVariants.{Frame, Limit, Ordinary as ordinary}
use Rattle.blocks.specs.declared.types.FrameChange.{FrameChange}
use Rattle.blocks.specs.declared.types.FrameChange.TheVariants.{Empty, Replace, Append}
use Rattle.blocks.specs.declared.types.FrameStep.{FrameStep}
use Rattle.blocks.specs.declared.types.FrameStep.TheVariants.{Offset as s_offset, Turn as s_turn, Scale as s_scale, Mirror as s_mirror}
use Rattle.blocks.specs.declared.types.Ordinary.{Ordinary}
use Rattle.blocks.specs.declared.types.Selections.{Selections}
use Rattle.shifts.specs.declared.call.Call.{Call}
use Rattle.shifts.specs.declared.call.Call.TheVariants.{Block as block, Entry, Reset, Read, Ask}

-- Axes go by index: X 0, Y 1, Z 2. An entry goes by the frame's number, 1 for G54 to 6 for G59; a value is none where the axis is open.
pub record Plain : Type 0 where
  pub steps : List Step
  pub entry : ℕ → ℕ → ℤ
  pub plane : Plane
  pub settable : ℕ
  pub inch : Bool
  pub incremental : Bool
  pub value : ℕ → Option ℤ
  pub exact : ℕ → Frac

abbrev pub on_axis : Point → ℕ → ℤ
on_axis p zero = p.x
on_axis p (suc zero) = p.y
on_axis p (suc (suc a)) = p.z

abbrev pub unplaced : ℕ → Option ℤ
unplaced a = None

-- as a new translator begins; the exact targets are the position first held
abbrev pub begun : Point → Plain
begun held = record {
  steps = [];
  entry = λ n a. pos 0;
  plane = Xy;
  settable = 0;
  inch = false;
  incremental = false;
  value = unplaced;
  exact = λ a. over (on_axis held a) 1;
}

-- G500 is 0
abbrev pub frame_of : Settable → ℕ
frame_of G500 = 0
frame_of G54 = 1
frame_of G55 = 2
frame_of G56 = 3
frame_of G57 = 4
frame_of G58 = 5
frame_of G59 = 6

abbrev pub settable_after : Option Settable → ℕ → ℕ
settable_after None n = n
settable_after (Some f) n = frame_of f

abbrev pub plane_after : Option Plane → Plane → Plane
plane_after None p = p
plane_after (Some q) p = q

abbrev pub inch_after : Option LengthUnit → Bool → Bool
inch_after None b = b
inch_after (Some Inch) b = true
inch_after (Some Millimetre) b = false

abbrev pub incremental_after : Option Distance → Bool → Bool
incremental_after None b = b
incremental_after (Some Absolute) b = false
incremental_after (Some Incremental) b = true

abbrev pub step_of : Plane → FrameStep → Step
step_of p (s_offset by) = Offset by
step_of p (s_turn angle) = Turn p angle
step_of p (s_scale by) = Scale by
step_of p (s_mirror names) = Mirror names

abbrev pub opened_where : (ℕ → Bool) → (ℕ → Option ℤ) → ℕ → Option ℤ
opened_where t v a = cond (t a) None (v a)

abbrev pub with_chain : Plain → List Step → (ℕ → Bool) → Plain
with_chain p steps t = record {
  steps = steps;
  entry = p.entry;
  plane = p.plane;
  settable = p.settable;
  inch = p.inch;
  incremental = p.incremental;
  value = opened_where t p.value;
  exact = p.exact;
}

-- a frame instruction opens what its step touches; a replacing or emptying one also what the old chain touched
abbrev pub framed : Plain → FrameChange → Plain
framed p Empty = with_chain p [] (touched_at p.steps)
framed p (Replace f) = with_chain p (step_of p.plane f ∷ []) (λ a. touched_at p.steps a || touches (step_of p.plane f) a)
framed p (Append f) = with_chain p (lengthened p.steps (step_of p.plane f)) (touches (step_of p.plane f))

-- selecting another settable frame opens all axes
abbrev pub selecting : Plain → Selections → Plain
selecting p by = record {
  steps = p.steps;
  entry = p.entry;
  plane = plane_after by.plane p.plane;
  settable = settable_after by.settable p.settable;
  inch = inch_after by.unit p.inch;
  incremental = incremental_after by.distance p.incremental;
  value = cond (p.settable == settable_after by.settable p.settable) p.value unplaced;
  exact = p.exact;
}

abbrev pub with_values : Plain → (ℕ → Option ℤ) → (ℕ → Frac) → Plain
with_values p v e = record {
  steps = p.steps;
  entry = p.entry;
  plane = p.plane;
  settable = p.settable;
  inch = p.inch;
  incremental = p.incremental;
  value = v;
  exact = e;
}

-- G90 places an axis at its word, G91 adds the word to its value
abbrev pub value_after : Bool → Option Length → Option ℤ → Option ℤ
value_after incremental None v = v
value_after false (Some w) v = Some w.units
value_after true (Some w) None = None
value_after true (Some w) (Some v) = Some (v +ℤ w.units)

abbrev pub word_at : Ordinary → ℕ → Option Length
word_at o a = slice_index_or o.words a None

abbrev pub whole_of : Option ℤ → Frac
whole_of None = over (pos 0) 1
whole_of (Some z) = over z 1

abbrev pub named : Ordinary → List Bool
named o = is_some (word_at o 0) ∷ is_some (word_at o 1) ∷ is_some (word_at o 2) ∷ []

abbrev pub moves : Plain → Ordinary → ℕ → Bool
moves p o a = slice_index_or (moved_axes p.steps (named o)) a false

abbrev pub new_value : Plain → Ordinary → ℕ → Option ℤ
new_value p o a = value_after p.incremental (word_at o a) (p.value a)

-- the exact image: through the chain, then by the offset of the selected frame
abbrev pub image_of : Plain → (ℕ → Option ℤ) → ℕ → Frac
image_of p v a = shifted (exact_through p.steps (λ b. whole_of (v b)) a) (p.entry p.settable a)

abbrev pub workpiece_move : Plain → Ordinary → Plain
workpiece_move p o = with_values p (new_value p o) (λ a. cond (moves p o a) (image_of p (new_value p o) a) (p.exact a))

abbrev pub word_or : Option Length → Frac → Frac
word_or None e = e
word_or (Some w) e = over w.units 1

-- under G53 a named axis goes to its word, and all axes are then open
abbrev pub machine_move : Plain → Ordinary → Plain
machine_move p o = with_values p unplaced (λ a. word_or (word_at o a) (p.exact a))

abbrev pub moved_by : Plain → Ordinary → Option ℕ → Plain
moved_by p o None = workpiece_move p o
moved_by p o (Some place) = machine_move p o

-- without axis words a block moves nothing
abbrev pub ordinary_by : Plain → Ordinary → Option ℕ → Plain
ordinary_by p o None = p
ordinary_by p o (Some place) = moved_by p o o.machine

abbrev pub obeyed_by : Plain → Block → Plain
obeyed_by p (Frame change place) = framed p change
obeyed_by p (Limit side values place) = p
obeyed_by p (ordinary o) = ordinary_by (selecting p o.selections) o o.first

abbrev pub told_by : Plain → Result Block Fault → Plain
told_by p (Ok b) = obeyed_by p b
told_by p (Err f) = p

abbrev pub same_frame : ℤ → ℕ → Bool
same_frame (pos n) m = n == m
same_frame (negsuc n) m = false

-- entering the selected frame opens all axes
abbrev pub entered_by : Plain → ℤ → Point → Plain
entered_by p frame offset = record {
  steps = p.steps;
  entry = λ n a. cond (same_frame frame n) (on_axis offset a) (p.entry n a);
  plane = p.plane;
  settable = p.settable;
  inch = p.inch;
  incremental = p.incremental;
  value = cond (same_frame frame p.settable) unplaced p.value;
  exact = p.exact;
}

abbrev pub reset_by : Plain → Plain
reset_by p = record {
  steps = [];
  entry = p.entry;
  plane = Xy;
  settable = 0;
  inch = false;
  incremental = false;
  value = unplaced;
  exact = p.exact;
}

-- what an accepted call makes of the plain shift
abbrev pub accepted : Plain → Call → Plain
accepted p (block bytes) = told_by p (block_of bytes.now p.inch)
accepted p (Entry frame offset) = entered_by p frame offset
accepted p Reset = reset_by p
accepted p Read = p
accepted p (Ask q) = p

-- a declined call changes nothing
abbrev pub after : Plain → Call → Bool → Plain
after p c declined = cond declined p (accepted p c)
