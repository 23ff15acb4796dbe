-- What an end tells.
use Rattle.std.specs.Prelude.{ℕ, cond, ℤ, pos, negsuc, Ok, Err, Result, ◌==◌}
use Rattle.units.specs.declared.axis.Point.{Point}
use Rattle.units.specs.declared.axis.Side.{Side}
use Rattle.units.specs.declared.fault.Fault.{Fault}
use Rattle.units.specs.declared.fault.Fault.TheVariants.{Argument}
use Rattle.machine.specs.Meaning.{Meaning}
use Rattle.machine.specs.Replies.{reply_to, box_count, limit_told, increment_told, held_told}
use Rattle.questions.specs.declared.question.Question.{Question}
use Rattle.questions.specs.declared.question.Question.TheVariants.{Boxes as boxes, Limit as limit, Increment as increment, Held as held, Move as move}
use Rattle.questions.specs.declared.question.Told.{Told}
use Rattle.questions.specs.declared.question.Told.TheVariants.{Boxes, Limit, Increment, Held, Taken}

-- an axis by its number; 0 is the number of none
abbrev pub axis_told : ℤ → ℕ
axis_told (negsuc n) = 0
axis_told (pos n) = cond (n == 1) 1 (cond (n == 2) 2 (cond (n == 3) 3 0))

abbrev pub on_ok : {A : Type 0} → (A → Told) → Result A Fault → Result Told Fault
on_ok f (Ok x) = Ok (f x)
on_ok f (Err e) = Err e

abbrev pub limit_asked : Meaning → ℕ → ℕ → Side → Result Told Fault
limit_asked m level axis side = on_ok (λ v. Limit v) (limit_told m level axis side)

-- no box has a level below 0
abbrev pub level_asked : Meaning → ℤ → ℕ → Side → Result Told Fault
level_asked m (negsuc n) axis side = Err Argument
level_asked m (pos n) axis side = limit_asked m n axis side

abbrev pub increment_asked : Meaning → ℕ → Result Told Fault
increment_asked m axis = on_ok (λ n. Increment n) (increment_told m axis)

abbrev pub held_asked : Meaning → ℕ → Result Told Fault
held_asked m axis = on_ok (λ v. Held v) (held_told m axis)

abbrev pub move_asked : Meaning → Point → Result Told Fault
move_asked m to = on_ok (λ u. Taken) (reply_to m to)

abbrev pub told_of : Meaning → Question → Result Told Fault
told_of m boxes = Ok (Boxes (box_count m))
told_of m (limit level axis side) = level_asked m level (axis_told axis) side
told_of m (increment axis) = increment_asked m (axis_told axis)
told_of m (held axis) = held_asked m (axis_told axis)
told_of m (move to) = move_asked m to
