-- What each call of a shift is answered and leaves, by the rules.
use Rattle.std.specs.Prelude.{◌≡◌, List, [], ◌∷◌, Ok, Err, Result}
use Rattle.units.specs.declared.fault.Fault.{Fault}
use Rattle.questions.specs.declared.question.Told.{Told as Told'}
use Rattle.questions.specs.Questions.{told_of}
use Rattle.translator.specs.declared.reply.Reply.{Reply}
use Rattle.translator.specs.State.{State, still, Tells}
use Rattle.translator.specs.Work.{worked, entered, afresh, replied, left_by}
use Rattle.shifts.specs.declared.call.Call.{Call}
use Rattle.shifts.specs.declared.call.Call.TheVariants.{Block, Entry, Reset, Read, Ask}
use Rattle.shifts.specs.declared.call.Answer.{Answer}
use Rattle.shifts.specs.declared.call.Answer.TheVariants.{Replied as Replies, Told}
use Rattle.shifts.specs.declared.call.Seen.{Seen}

abbrev pub answer_of : Result Reply Fault → Result Answer Fault
answer_of (Ok r) = Ok (Replies r)
answer_of (Err f) = Err f

abbrev pub told_answer : Result Told' Fault → Result Answer Fault
told_answer (Ok t) = Ok (Told t)
told_answer (Err f) = Err f

abbrev pub answer_to : State → Call → Result Answer Fault
answer_to s (Block bytes) = answer_of (replied (worked s bytes.now))
answer_to s (Entry frame offset) = answer_of (replied (entered s frame offset))
answer_to s Reset = Ok (Replies (afresh s).reply)
answer_to s Read = Ok (Replies (still s.setup))
answer_to s (Ask q) = told_answer (told_of s.pile q)

-- a declined call and a question leave all as it was
abbrev pub left_after : State → Call → State
left_after s (Block bytes) = left_by s (worked s bytes.now)
left_after s (Entry frame offset) = left_by s (entered s frame offset)
left_after s Reset = (afresh s).left
left_after s Read = s
left_after s (Ask q) = s

-- what is seen of one call
pub record Shown (s : State) (c : Call) (r : Seen) : Type 0 where
  pub answer : r.answer ≡ answer_to s c
  pub reading : Tells (left_after s c) r.reading

-- of each call in turn
abbrev pub ShownAll : State → List Call → List Seen → Type 0
ShownAll s [] [] = Unit {0}
ShownAll s [] (r ∷ rs) = ⊥
ShownAll s (c ∷ cs) [] = ⊥
ShownAll s (c ∷ cs) (r ∷ rs) = Shown s c r × ShownAll (left_after s c) cs rs

abbrev pub left_all : State → List Call → State
left_all s [] = s
left_all s (c ∷ cs) = left_all (left_after s c) cs

-- every answer and everything read is what the rules say of that call then, and so is the state at the end
pub record Replied (s : State) (calls : List Call) (seen : List Seen) (t : State) : Type 0 where
  pub shown : ShownAll s calls seen
  pub left : t ≡ left_all s calls
