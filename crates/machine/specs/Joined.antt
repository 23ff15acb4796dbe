-- How a layer joins what its own box says to a move with what the end below says.
use Rattle.std.specs.Prelude.{◌≡◌, ◌+◌, cond, List, [], ◌∷◌, Ok, Err, nat_lt}
use Rattle.units.specs.declared.axis.Point.{Point}
use Rattle.units.specs.declared.fault.Fault.{Fault}
use Rattle.units.specs.declared.fault.Fault.TheVariants.{TooLong, Byte, Shape, Unknown, Repeated, Misplaced, Unfit, Range, Ended, ChainFull, IncrementalMachine, Open, Beyond, Spread, Outside, RollFull, Argument}
use Rattle.units.specs.Faults.{decline_of}
use Rattle.machine.specs.declared.bounds.Bounds.{Bounds}
use Rattle.machine.specs.Replies.{Reply, reply, told}

-- the same fault, one level further down
abbrev pub deeper : Fault → Fault
deeper TooLong = TooLong
deeper (Byte p) = Byte p
deeper (Shape p) = Shape p
deeper (Unknown p) = Unknown p
deeper (Repeated p) = Repeated p
deeper (Misplaced p) = Misplaced p
deeper (Unfit p) = Unfit p
deeper (Range p) = Range p
deeper Ended = Ended
deeper (ChainFull p) = ChainFull p
deeper (IncrementalMachine p) = IncrementalMachine p
deeper (Open p a) = Open p a
deeper (Beyond p a s) = Beyond p a s
deeper (Spread p a s) = Spread p a s
deeper (Outside p a l) = Outside p a (told (l + 1))
deeper (RollFull s) = RollFull s
deeper Argument = Argument

-- the lower axis is told, and of one axis the box on top
abbrev pub joined : Reply → Reply → Reply
joined (Ok u) (Ok v) = Ok tt
joined (Ok u) (Err e) = Err (deeper e)
joined (Err d) (Ok v) = Err d
joined (Err d) (Err e) = Err (cond (nat_lt (decline_of e).axis (decline_of d).axis) (deeper e) d)

-- r is the reply of a box on top of any list, where its own reply and the list's are these
abbrev pub OnTop : Reply → Reply → Reply → Type 0
OnTop top below r = (b : Bounds) (bs : List Bounds) (p : Point) → top ≡ reply (b ∷ []) p → below ≡ reply bs p → r ≡ reply (b ∷ bs) p
