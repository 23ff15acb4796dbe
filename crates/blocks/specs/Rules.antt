-- Declines 6, 7 and 8: over the words of a block, and over what is gathered of them.
use Rattle.std.specs.Prelude.{◌≡◌, ℕ, Bool, true, false, cond, not, ◌&&◌, ◌||◌, List, is_some, Some, None, Option, nat_lt}
use Rattle.reader.specs.declared.functions.LengthUnit.{LengthUnit}
use Rattle.reader.specs.declared.functions.LengthUnit.TheVariants.{Inch, Millimetre}
use Rattle.reader.specs.declared.types.Number.{Number}
use Rattle.reader.specs.declared.types.Said.{Said}
use Rattle.reader.specs.declared.types.Said.TheVariants.{Name as s_name, Axis as s_axis, Rpl as s_rpl, G as s_g, M as s_m, N as s_n, Passed as s_passed}
use Rattle.reader.specs.declared.types.Item.{Item}
use Rattle.blocks.specs.declared.gathered.StepKind.{StepKind}
use Rattle.blocks.specs.declared.gathered.StepKind.TheVariants.{Offset, Turn, Scale, Mirror}
use Rattle.blocks.specs.declared.gathered.Instruction.{Instruction}
use Rattle.blocks.specs.declared.gathered.Instruction.TheVariants.{Frame, Limit}
use Rattle.blocks.specs.declared.gathered.Placed.{Placed}
use Rattle.blocks.specs.declared.gathered.Measured.{Measured}
use Rattle.blocks.specs.declared.gathered.Slots.{Slots}
use Rattle.blocks.specs.declared.gathered.Order.{Order}
use Rattle.blocks.specs.declared.gathered.Measure.{Measure}
use Rattle.blocks.specs.declared.gathered.Measure.TheVariants.{Length, Factor, Angle, Any}
use Rattle.blocks.specs.Slots.{hit}
use Rattle.blocks.specs.Found.{find, rpl_of, g_of, unit_of}
use Rattle.blocks.specs.Order.{instruction, leftmost, misplaced_by, is_axis}
use Rattle.blocks.specs.Measures.{length_in, factor_in, angle_in}

-- 6: the leftmost misplaced word
abbrev pub misplaced : List Item → Option ℕ
misplaced ws = leftmost (misplaced_by (is_some (instruction ws))) ws

abbrev pub misplaced_in : Order → Option ℕ
misplaced_in o = cond (is_some o.instruction) o.stray o.late

-- 7: a turn takes RPL and no axes, and an additive one needs it; any other takes axes and no RPL, and an additive one, G25 and G26 need them
abbrev pub unfit_with : Bool → Bool → Bool → Bool
unfit_with needed wanted unwanted = unwanted || (needed && not wanted)

abbrev pub unfit_frame : StepKind → Bool → Bool → Bool → Bool
unfit_frame Offset additive axes rpl = unfit_with additive axes rpl
unfit_frame Turn additive axes rpl = unfit_with additive rpl axes
unfit_frame Scale additive axes rpl = unfit_with additive axes rpl
unfit_frame Mirror additive axes rpl = unfit_with additive axes rpl

abbrev pub unfit_by : Instruction → Bool → Bool → Bool
unfit_by (Frame kind additive) axes rpl = unfit_frame kind additive axes rpl
unfit_by (Limit s) axes rpl = unfit_with true axes rpl

abbrev pub number_place : Option Measured → Option ℕ
number_place None = None
number_place (Some m) = Some m.place

-- told at the first instruction; without one, at an RPL word
abbrev pub unfit_under : Option Placed → Bool → Option Measured → Option ℕ
unfit_under None axes rpl = number_place rpl
unfit_under (Some i) axes rpl = hit (unfit_by i.by axes (is_some rpl)) i.place

abbrev pub unfit_in : Order → Option Measured → Option ℕ
unfit_in o rpl = unfit_under o.instruction (is_some o.axis) rpl

abbrev pub unfit : List Item → Option ℕ
unfit ws = unfit_under (instruction ws) (is_some (leftmost (λ earlier x. is_axis x) ws)) (find rpl_of ws)

-- G70 or G71 of the block itself decides, else what is in force
abbrev pub inch_under : Bool → Option LengthUnit → Bool
inch_under inch None = inch
inch_under inch (Some Inch) = true
inch_under inch (Some Millimetre) = false

abbrev pub inch_in : Bool → List Item → Bool
inch_in inch ws = inch_under inch (find (g_of unit_of) ws)

-- 8: what the numbers of a block are goes by its instruction
abbrev pub measure_frame : StepKind → Bool → Measure
measure_frame Offset inch = Length inch
measure_frame Turn inch = Angle
measure_frame Scale inch = Factor
measure_frame Mirror inch = Any

abbrev pub measure_by : Instruction → Bool → Measure
measure_by (Frame kind additive) inch = measure_frame kind inch
measure_by (Limit s) inch = Length inch

abbrev pub measure_under : Option Placed → Bool → Measure
measure_under None inch = Length inch
measure_under (Some i) inch = measure_by i.by inch

abbrev pub measure : Bool → List Item → Measure
measure inch ws = measure_under (instruction ws) (inch_in inch ws)

-- an axis word's number is no such value; an RPL word's
abbrev pub bad_axis : Measure → Number → Bool
bad_axis (Length inch) n = not (is_some (length_in inch n))
bad_axis Factor n = not (is_some (factor_in n))
bad_axis Angle n = false
bad_axis Any n = false

abbrev pub bad_rpl : Measure → Number → Bool
bad_rpl (Length inch) n = false
bad_rpl Factor n = false
bad_rpl Angle n = not (is_some (angle_in n))
bad_rpl Any n = false

abbrev pub bad : Measure → Said → Bool
bad m (s_name f) = false
bad m (s_axis a n) = bad_axis m n
bad m (s_rpl n) = bad_rpl m n
bad m (s_g g) = false
bad m (s_m f) = false
bad m s_n = false
bad m (s_passed a) = false

-- the leftmost number out of range
abbrev pub out_of_range_at : Measure → List Item → Option ℕ
out_of_range_at m ws = leftmost (λ earlier x. bad m x) ws

-- the same over the slots: the least place of a bad number
abbrev pub lesser : Option ℕ → Option ℕ → Option ℕ
lesser None o = o
lesser (Some p) None = Some p
lesser (Some p) (Some q) = Some (cond (nat_lt q p) q p)

-- what a function tells is what the definition does
abbrev pub Tests : {A B : Type 0} → (A → B → Type 0) → (A → B) → Type 0
Tests {A} {B} post f = (x : A) (y : B) → post x y → y ≡ f x

abbrev pub place_if : (Number → Bool) → Option Measured → Option ℕ
place_if test None = None
place_if test (Some m) = hit (test m.number) m.place

abbrev pub out_of_range_in : Measure → Slots → Option ℕ
out_of_range_in m s = lesser (place_if (bad_axis m) s.axes.x) (lesser (place_if (bad_axis m) s.axes.y) (lesser (place_if (bad_axis m) s.axes.z) (place_if (bad_rpl m) s.rpl)))
