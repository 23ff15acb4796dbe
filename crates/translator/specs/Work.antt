-- What each call leaves and replies.
use Rattle.std.specs.Prelude.{ℕ, cond, List, ℤ, Some, None, Ok, Err, Option, Result}
use Rattle.units.specs.Faults.{at_place}
use Rattle.units.specs.declared.axis.Point.{Point}
use Rattle.units.specs.declared.axis.Side.{Side}
use Rattle.units.specs.declared.quantity.Length.{Length}
use Rattle.units.specs.declared.fault.Fault.{Fault}
use Rattle.units.specs.declared.fault.Fault.TheVariants.{Ended}
use Rattle.machine.specs.Replies.{reply_to, after_move}
use Rattle.blocks.specs.declared.types.Block.{Block}
use Rattle.blocks.specs.declared.types.Block.TheVariants.{Frame, Limit, Ordinary as ordinary}
use Rattle.blocks.specs.declared.types.Ordinary.{Ordinary}
use Rattle.blocks.specs.Block.{block_of}
use Rattle.workpiece.specs.declared.plan.Plan.{Plan}
use Rattle.workpiece.specs.Changes.{changed}
use Rattle.workpiece.specs.Entries.{entered_by}
use Rattle.workpiece.specs.Modes.{is_inch}
use Rattle.workpiece.specs.Moves.{planned, moved}
use Rattle.workpiece.specs.Selects.{selected}
use Rattle.workpiece.specs.Setup.{SetupState, after_reset}
use Rattle.translator.specs.declared.reply.Reply.{Reply}
use Rattle.translator.specs.State.{State, point_of, still, with_limits}

-- what an accepted call leaves and replies
pub record Done : Type 0 where
  pub left : State
  pub reply : Reply

abbrev pub with_setup : State → SetupState → State
with_setup s t = record { pile = s.pile; setup = t }

-- an accepted call that moves nothing
abbrev pub unmoved : State → Done
unmoved s = record { left = s; reply = still s.setup }

abbrev pub on_change : State → ℕ → Result SetupState Fault → Result Done Fault
on_change s place (Ok t) = Ok (unmoved (with_setup s t))
on_change s place (Err f) = Err (at_place place f)

-- the pile took the targets
abbrev pub moved_to : State → Ordinary → Plan → Done
moved_to s o p = record {
  left = record { pile = after_move s.pile (point_of p.image); setup = moved s.setup o p };
  reply = record { moved = p.moved; image = p.image };
}

abbrev pub on_reply : State → Ordinary → ℕ → Plan → Result (Unit {0}) Fault → Result Done Fault
on_reply s o place p (Ok u) = Ok (moved_to s o p)
on_reply s o place p (Err f) = Err (at_place place f)

-- a plan's three targets go to the pile
abbrev pub handed_over : State → Ordinary → ℕ → Plan → Result Done Fault
handed_over s o place p = on_reply s o place p (reply_to s.pile (point_of p.image))

abbrev pub on_plan : State → Ordinary → ℕ → Result Plan Fault → Result Done Fault
on_plan s o place (Ok p) = handed_over s o place p
on_plan s o place (Err f) = Err (at_place place f)

-- without axis words a block selects and moves nothing
abbrev pub ordinary_at : State → Ordinary → Option ℕ → Result Done Fault
ordinary_at s o None = Ok (unmoved (with_setup s (selected s.setup o)))
ordinary_at s o (Some place) = on_plan s o place (planned s.setup o)

-- the work area's limits, written on one side
abbrev pub limited : State → Side → List (Option Length) → Done
limited s side values = unmoved (record { pile = with_limits side values s.pile; setup = s.setup })

abbrev pub obeyed : State → Block → Result Done Fault
obeyed s (Frame change place) = on_change s place (changed s.setup change)
obeyed s (Limit side values place) = Ok (limited s side values)
obeyed s (ordinary o) = ordinary_at s o o.first

-- after the end of the programme every right block gets 9
abbrev pub running : State → Result Block Fault → Result Done Fault
running s (Err f) = Err f
running s (Ok b) = cond s.setup.ended (Err Ended) (obeyed s b)

-- a block's bytes, read in the unit of length in force
abbrev pub worked : State → List ℕ → Result Done Fault
worked s bytes = running s (block_of bytes (is_inch s.setup.modes.unit))

abbrev pub on_entry : State → Result SetupState Fault → Result Done Fault
on_entry s (Ok t) = Ok (unmoved (with_setup s t))
on_entry s (Err f) = Err f

abbrev pub entered : State → ℤ → Point → Result Done Fault
entered s frame offset = on_entry s (entered_by s.setup frame offset)

abbrev pub afresh : State → Done
afresh s = unmoved (with_setup s (after_reset s.setup))

-- a declined call leaves all as it was
abbrev pub replied : Result Done Fault → Result Reply Fault
replied (Ok d) = Ok d.reply
replied (Err f) = Err f

abbrev pub left_by : State → Result Done Fault → State
left_by s (Ok d) = d.left
left_by s (Err f) = s
