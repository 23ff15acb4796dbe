-- What a right block says.
use Rattle.std.specs.Prelude.{ℕ, Bool, true, false, not, ◌||◌, List, [], ◌∷◌, is_some, Some, None, Ok, Err, Option, Result, slice_index_or}
use Rattle.units.specs.declared.fault.Fault.{Fault}
use Rattle.units.specs.declared.fault.Fault.TheVariants.{Misplaced, Unfit, Range}
use Rattle.units.specs.declared.quantity.Length.{Length}
use Rattle.units.specs.declared.quantity.Factor.{Factor}
use Rattle.units.specs.declared.quantity.Angle.{Angle}
use Rattle.reader.specs.declared.types.Item.{Item}
use Rattle.blocks.specs.declared.gathered.StepKind.{StepKind}
use Rattle.blocks.specs.declared.gathered.StepKind.TheVariants.{Offset as an_offset, Turn as a_turn, Scale as a_scale, Mirror as a_mirror}
use Rattle.blocks.specs.declared.gathered.Instruction.{Instruction}
use Rattle.blocks.specs.declared.gathered.Instruction.TheVariants.{Frame as a_frame, Limit as a_limit}
use Rattle.blocks.specs.declared.gathered.Placed.{Placed}
use Rattle.blocks.specs.declared.gathered.Measured.{Measured}
use Rattle.units.specs.declared.axis.ByAxis.{ByAxis}
use Rattle.blocks.specs.declared.gathered.Slots.{Slots}
use Rattle.blocks.specs.declared.gathered.Order.{Order}
use Rattle.blocks.specs.declared.types.FrameStep.{FrameStep}
use Rattle.blocks.specs.declared.types.FrameStep.TheVariants.{Offset, Turn, Scale, Mirror}
use Rattle.blocks.specs.declared.types.FrameChange.{FrameChange}
use Rattle.blocks.specs.declared.types.FrameChange.TheVariants.{Empty, Replace, Append}
use Rattle.blocks.specs.declared.types.Block.{Block}
use Rattle.blocks.specs.declared.types.Block.TheVariants.{Frame, Limit, Ordinary}
use Rattle.blocks.specs.Found.{slots_of}
use Rattle.blocks.specs.Order.{order_of}
use Rattle.blocks.specs.Measures.{length_in, factor_in, angle_in, zero_angle}
use Rattle.blocks.specs.Rules.{misplaced, misplaced_in, unfit, unfit_in, measure, measure_under, out_of_range_at, out_of_range_in, inch_under, inch_in, lesser, place_if}

abbrev pub length_at : Bool → Option Measured → Option Length
length_at inch None = None
length_at inch (Some m) = length_in inch m.number

-- the places of words that made no length, the least of them
abbrev pub lacking_at : Option Measured → Option Length → Option ℕ
lacking_at w v = place_if (λ n. not (is_some v)) w

abbrev pub lacking_in : ByAxis (Option Measured) → List (Option Length) → Option ℕ
lacking_in a vs = lesser (lacking_at a.x (slice_index_or vs 0 None)) (lesser (lacking_at a.y (slice_index_or vs 1 None)) (lacking_at a.z (slice_index_or vs 2 None)))

abbrev pub factor_at : Option Measured → Option Factor
factor_at None = None
factor_at (Some m) = factor_in m.number

abbrev pub or_zero : Option Angle → Angle
or_zero None = zero_angle
or_zero (Some a) = a

abbrev pub angle_at : Option Measured → Angle
angle_at None = zero_angle
angle_at (Some m) = or_zero (angle_in m.number)

-- by axis: X, Y, Z
abbrev pub each : {V : Type 0} → (Option Measured → V) → ByAxis (Option Measured) → List V
each make a = make a.x ∷ make a.y ∷ make a.z ∷ []

abbrev pub lengths : Bool → ByAxis (Option Measured) → List (Option Length)
lengths inch a = each (length_at inch) a

abbrev pub factors : ByAxis (Option Measured) → List (Option Factor)
factors a = each factor_at a

abbrev pub named : ByAxis (Option Measured) → List Bool
named a = each (λ w. is_some w) a

abbrev pub step_of : StepKind → Bool → Slots → FrameStep
step_of an_offset inch s = Offset (lengths inch s.axes)
step_of a_turn inch s = Turn (angle_at s.rpl)
step_of a_scale inch s = Scale (factors s.axes)
step_of a_mirror inch s = Mirror (named s.axes)

-- an additive name appends its step; another replaces the chain by it, or empties the chain where it stands bare
abbrev pub change_by : Bool → Bool → FrameStep → FrameChange
change_by true worded step = Append step
change_by false true step = Replace step
change_by false false step = Empty

abbrev pub made_by : Instruction → ℕ → Bool → Slots → Order → Block
made_by (a_frame kind additive) p inch s o = Frame (change_by additive (is_some o.axis || is_some s.rpl) (step_of kind inch s)) p
made_by (a_limit side) p inch s o = Limit side (lengths inch s.axes) p

abbrev pub made_under : Option Placed → Bool → Slots → Order → Block
made_under None inch s o = Ordinary (record { selections = s.groups.selections; machine = s.groups.machine; words = lengths inch s.axes; first = o.axis; ends = s.ms.ends })
made_under (Some i) inch s o = made_by i.by i.place inch s o

-- what the block says where 6, 7 and 8 are silent
abbrev pub made : Bool → Slots → Order → Block
made inch s o = made_under o.instruction inch s o

-- the first of 6, 7 and 8, else the block
abbrev pub ruled : Option ℕ → Option ℕ → Option ℕ → Block → Result Block Fault
ruled (Some p) seven eight b = Err (Misplaced p)
ruled None (Some p) eight b = Err (Unfit p)
ruled None None (Some p) b = Err (Range p)
ruled None None None b = Ok b

-- what the words of a block say together, the latest first, when each is right by itself and none repeats another
abbrev pub judged : Bool → List Item → Result Block Fault
judged inch ws = ruled (misplaced ws) (unfit ws) (out_of_range_at (measure inch ws) ws) (made (inch_in inch ws) (slots_of ws) (order_of ws))

-- the same from what is gathered of them
abbrev pub judged_in : Bool → Slots → Order → Result Block Fault
judged_in inch s o = ruled (misplaced_in o) (unfit_in o s.rpl) (out_of_range_in (measure_under o.instruction (inch_under inch s.groups.selections.unit)) s) (made (inch_under inch s.groups.selections.unit) s o)
