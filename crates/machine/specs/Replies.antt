-- What an end replies to a move and to a question, and what a move leaves.
use Rattle.std.specs.Prelude.{ℕ, zero, suc, ◌+◌, min, Bool, false, cond, ◌||◌, List, [], ◌∷◌, length, ℤ, Ok, Err, Result, int_lt}
use Rattle.units.specs.Axes.{axis_of}
use Rattle.units.specs.declared.axis.Axis.{Axis}
use Rattle.units.specs.declared.axis.Axis.TheVariants.{X, Y, Z}
use Rattle.units.specs.declared.axis.Side.{Side}
use Rattle.units.specs.declared.axis.Point.{Point}
use Rattle.units.specs.declared.fault.Fault.{Fault}
use Rattle.units.specs.declared.fault.Fault.TheVariants.{Outside, Argument}
use Rattle.machine.specs.declared.bounds.Bounds.{Bounds}
use Rattle.machine.specs.Meaning.{at, each, limits, Meaning}

-- what a move gets
abbrev pub Reply : Type 0
Reply = Result (Unit {0}) Fault

-- v is outside the box b on the axis a; the limits belong to the box
abbrev pub beyond : Bounds → Axis → ℤ → Bool
beyond b a v = int_lt v (at b.lower a) || int_lt (at b.upper a) v

-- v is outside some box of the list
abbrev pub out : List Bounds → Axis → ℤ → Bool
out [] a v = false
out (b ∷ bs) a v = beyond b a v || out bs a v

-- how many boxes stand above the first that v is outside of
abbrev pub depth : List Bounds → Axis → ℤ → ℕ
depth [] a v = 0
depth (b ∷ bs) a v = cond (beyond b a v) 0 (depth bs a v + 1)

-- a level or a number of boxes, as it is told
abbrev pub told : ℕ → ℕ
told n = min n 255

abbrev pub outside : List Bounds → Axis → ℤ → Reply
outside bs a v = Err (Outside 0 a (told (depth bs a v)))

-- taken where every coordinate is within every box; else the lowest axis outside some box, and the level of the first such box for it
abbrev pub reply : List Bounds → Point → Reply
reply bs p =
    cond (out bs X p.x) (outside bs X p.x)
    (cond (out bs Y p.y) (outside bs Y p.y)
    (cond (out bs Z p.z) (outside bs Z p.z) (Ok tt)))

abbrev pub reply_to : Meaning → Point → Reply
reply_to m p = reply m.boxes p

-- the end holds another position, and is otherwise the same
abbrev pub holding : Meaning → Point → Meaning
holding m p = record { boxes = m.boxes; increment = m.increment; rounding = m.rounding; held = p }

-- a move that got this reply
abbrev pub moved : Meaning → Point → Reply → Meaning
moved m p (Ok u) = holding m (each m.rounding p)
moved m p (Err f) = m

-- a move that is taken leaves the roundings of its coordinates held; one that is not leaves all as it was
abbrev pub after_move : Meaning → Point → Meaning
after_move m p = moved m p (reply_to m p)

-- what is told of the axis with that number
abbrev pub asked : {T : Type 0} → Result Axis Fault → (Axis → T) → Result T Fault
asked (Ok a) f = Ok (f a)
asked (Err e) f = Err e

-- the box of a level, the top being 0
abbrev pub box_at : List Bounds → ℕ → Result Bounds Fault
box_at [] n = Err Argument
box_at (b ∷ bs) zero = Ok b
box_at (b ∷ bs) (suc n) = box_at bs n

abbrev pub limit_of : Result Bounds Fault → Result Axis Fault → Side → Result ℤ Fault
limit_of (Ok b) (Ok a) s = Ok (at (limits b s) a)
limit_of (Ok b) (Err e) s = Err e
limit_of (Err e) a s = Err e

abbrev pub box_count : Meaning → ℕ
box_count m = told (length m.boxes)

abbrev pub limit_told : Meaning → ℕ → ℕ → Side → Result ℤ Fault
limit_told m level axis s = limit_of (box_at m.boxes level) (axis_of axis) s

abbrev pub increment_told : Meaning → ℕ → Result ℕ Fault
increment_told m axis = asked (axis_of axis) m.increment

abbrev pub held_told : Meaning → ℕ → Result ℤ Fault
held_told m axis = asked (axis_of axis) (at m.held)
