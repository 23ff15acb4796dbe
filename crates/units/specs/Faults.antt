-- What is told of each fault: number, layer, place, axis, step and level.
use Rattle.std.specs.Prelude.{ℕ, List, codes}
use Rattle.units.specs.Axes.{axis_number}
use Rattle.units.specs.declared.fault.Fault.{Fault}
use Rattle.units.specs.declared.fault.Fault.TheVariants.{TooLong, Byte, Shape, Unknown, Repeated, Misplaced, Unfit, Range, Ended, ChainFull, IncrementalMachine, Open, Beyond, Spread, Outside, RollFull, Argument}
use Rattle.units.specs.declared.fault.Layer.{Layer}
use Rattle.units.specs.declared.fault.Layer.TheVariants.{Reader, Block, Frame, Machine, Call}
use Rattle.units.specs.declared.fault.Decline.{Decline}

-- the part of the product that declines, as it is written
abbrev pub layer_name : Layer → List ℕ
layer_name Reader = codes "reader"
layer_name Block = codes "block"
layer_name Frame = codes "frame"
layer_name Machine = codes "machine"
layer_name Call = codes "call"

-- number, layer, place, axis, step, level
abbrev row : ℕ → Layer → ℕ → ℕ → ℕ → ℕ → Decline
row n l p a s v = record { number = n; layer = l; place = p; axis = a; step = s; level = v }

abbrev pub decline_of : Fault → Decline
decline_of TooLong = row 1 Reader 512 0 0 0
decline_of (Byte p) = row 2 Reader p 0 0 0
decline_of (Shape p) = row 3 Reader p 0 0 0
decline_of (Unknown p) = row 4 Block p 0 0 0
decline_of (Repeated p) = row 5 Block p 0 0 0
decline_of (Misplaced p) = row 6 Block p 0 0 0
decline_of (Unfit p) = row 7 Block p 0 0 0
decline_of (Range p) = row 8 Block p 0 0 0
decline_of Ended = row 9 Block 0 0 0 0
decline_of (ChainFull p) = row 10 Frame p 0 0 0
decline_of (IncrementalMachine p) = row 11 Frame p 0 0 0
decline_of (Open p a) = row 12 Frame p (axis_number a) 0 0
decline_of (Beyond p a s) = row 13 Frame p (axis_number a) s 0
decline_of (Spread p a s) = row 14 Frame p (axis_number a) s 0
decline_of (Outside p a l) = row 15 Machine p (axis_number a) 0 l
decline_of (RollFull s) = row 16 Call s 0 0 0
decline_of Argument = row 17 Call 0 0 0 0

-- a fault of the chain, of pushing or of the machine end, told at the place of a block's word
abbrev pub at_place : ℕ → Fault → Fault
at_place q TooLong = TooLong
at_place q (Byte p) = Byte p
at_place q (Shape p) = Shape p
at_place q (Unknown p) = Unknown p
at_place q (Repeated p) = Repeated p
at_place q (Misplaced p) = Misplaced p
at_place q (Unfit p) = Unfit p
at_place q (Range p) = Range p
at_place q Ended = Ended
at_place q (ChainFull p) = ChainFull q
at_place q (IncrementalMachine p) = IncrementalMachine p
at_place q (Open p a) = Open q a
at_place q (Beyond p a s) = Beyond q a s
at_place q (Spread p a s) = Spread q a s
at_place q (Outside p a l) = Outside q a l
at_place q (RollFull s) = RollFull s
at_place q Argument = Argument
