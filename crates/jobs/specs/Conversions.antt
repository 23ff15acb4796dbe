-- From the calls of a script to those of a shift and of an end.
use Rattle.std.specs.Prelude.{ℤ, pos, negsuc, Some, None, Ok, Err, Option, Result}
use Rattle.units.specs.declared.fault.Fault.{Fault}
use Rattle.units.specs.declared.fault.Fault.TheVariants.{Argument}
use Rattle.units.specs.declared.quantity.Tolerance.{Tolerance}
use Rattle.units.specs.Quantities.{tolerance_of}
use Rattle.script.specs.declared.call.Call.{Call as ScriptCall}
use Rattle.script.specs.declared.call.Call.TheVariants.{ScaleEnd, CountEnd, Area, Move, New, Rolls, Programme, Check, Block as block, Entry as entry, Reset as reset, Read as read, Ask as ask}
use Rattle.shifts.specs.declared.call.Call.{Call}
use Rattle.shifts.specs.declared.call.Call.TheVariants.{Block, Entry, Reset, Read, Ask}

-- what is not there is a number out of range
abbrev pub or_argument : {T : Type 0} → Option T → Result T Fault
or_argument (Some t) = Ok t
or_argument None = Err Argument

abbrev pub tolerance_asked : ℤ → Result Tolerance Fault
tolerance_asked (negsuc n) = Err Argument
tolerance_asked (pos n) = or_argument (tolerance_of n)

-- the call of a shift; none where it is another
abbrev pub made_in_shift : ScriptCall → Option Call
made_in_shift (block bytes) = Some (Block bytes)
made_in_shift (entry frame offset) = Some (Entry frame offset)
made_in_shift reset = Some Reset
made_in_shift read = Some Read
made_in_shift (ask question) = Some (Ask question)
made_in_shift (ScaleEnd i limits) = None
made_in_shift (CountEnd is limits) = None
made_in_shift (Area limits) = None
made_in_shift (Move to) = None
made_in_shift (New tolerance) = None
made_in_shift (Rolls capacities) = None
made_in_shift Programme = None
made_in_shift Check = None

abbrev pub shift_call_of : Option ScriptCall → Option Call
shift_call_of None = None
shift_call_of (Some call) = made_in_shift call
