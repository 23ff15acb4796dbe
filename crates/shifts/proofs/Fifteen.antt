-- When a block gets 15, and how much a spread grows.
use Rattle.std.proofs.Common.{◌≡◌, ℕ, suc, Bool, true, false, cond, List, [], ◌∷◌, length, Some, None, Ok, Err, Option, Result, sym, refl, ap, ◌∙◌, subst, ⊎_elim, arith}
use Rattle.units.specs.Faults.{decline_of, at_place}
use Rattle.units.specs.declared.axis.Axis.{Axis}
use Rattle.units.specs.declared.axis.Point.{Point}
use Rattle.units.specs.declared.fault.Fault.{Fault}
use Rattle.units.specs.declared.fault.Fault.TheVariants.{TooLong, Byte, Shape, Unknown, Repeated, Misplaced, Unfit, Range, Ended, ChainFull, IncrementalMachine, Open, Beyond, Spread, Outside, RollFull, Argument}
use Rattle.machine.specs.Meaning.{at}
use Rattle.machine.specs.Replies.{reply_to}
use Rattle.machine.specs.Standing.{InsideAll}
use Rattle.machine.proofs.Relations.{replies}
use Rattle.chains.specs.declared.step.Step.{Step}
use Rattle.chains.specs.Chains.{appended, lengthened}
use Rattle.frames.specs.declared.image.Image.{Image}
use Rattle.frames.specs.Pushing.{first_axis, is_beyond, is_wide, or_else, tested, through, onward, through_steps, started, settable, pushed}
use Rattle.reader.specs.WordList.{Run, words}
use Rattle.reader.specs.Words.{Declined as DeclinedWord, by_byte, by_address, by_shape}
use Rattle.blocks.specs.Block.{block_of}
use Rattle.blocks.specs.Meaning.{FirstFault, Means, too_long, wrong_word, misplaced_word, unfit_words, out_of_range, right_block}
use Rattle.blocks.proofs.Meaning.{stand}
use Rattle.blocks.specs.declared.types.Block.{Block}
use Rattle.blocks.specs.declared.types.Block.TheVariants.{Frame, Limit, Ordinary as ordinary}
use Rattle.blocks.specs.declared.types.FrameChange.{FrameChange}
use Rattle.blocks.specs.declared.types.FrameChange.TheVariants.{Empty, Replace, Append}
use Rattle.blocks.specs.declared.types.Ordinary.{Ordinary}
use Rattle.units.specs.declared.quantity.Length.{Length}
use Rattle.units.specs.declared.quantity.Tolerance.{Tolerance}
use Rattle.workpiece.specs.declared.force.InForce.{InForce}
use Rattle.workpiece.specs.declared.plan.Plan.{Plan}
use Rattle.workpiece.specs.declared.settable.SettableFrame.{SettableFrame}
use Rattle.workpiece.specs.Changes.{changed, on_longer, step_in}
use Rattle.workpiece.specs.Modes.{is_inch, is_incremental}
use Rattle.workpiece.specs.Moves.{planned, planned_by, opened_plan}
use Rattle.workpiece.specs.Force.{machine_only}
use Rattle.workpiece.specs.Places.{all_open}
use Rattle.workpiece.specs.Selects.{selected}
use Rattle.workpiece.specs.Plans.{placed, unless_axis, image_in, on_image, on_placed, reckoned, values_or, open_axis, far_axis, named_by, moved_in, standings}
use Rattle.workpiece.specs.Settable.{frame_number, offset_of}
use Rattle.workpiece.specs.Setup.{SetupState}
use Rattle.translator.specs.State.{State, point_of, Tells}
use Rattle.translator.specs.Work.{Done, on_change, on_reply, on_plan, ordinary_at, obeyed, running, worked, replied, left_by}
use Rattle.shifts.specs.declared.call.Seen.{Seen}
use Rattle.shifts.specs.Calls.{answer_of}
use Rattle.shifts.specs.Law.{OutsideSome, Got15, targets_of, targets_at, targets_of_block, targets_of_plan, Fifteen}
use Rattle.shifts.proofs.Small.{not_ok, some_only, not_some}

-- a fault of another number
abbrev pub Other : Fault → Type 0
Other f = (decline_of f).number ≡ 15 → ⊥

same_fault : {A : Type 0} (f g : Fault) → ◌≡◌ {A = Result A Fault} (Err f) (Err g) → f ≡ g
same_fault f g e = cc

other_as : {A : Type 0} (f g : Fault) → ◌≡◌ {A = Result A Fault} (Err f) (Err g) → Other g → Other f
other_as f g e h = subst Other (sym (same_fault f g e)) h

-- reading gives 1 to 8
word_other : (w : List ℕ) (p : ℕ) (f : Fault) → DeclinedWord w p f → Other f
word_other w p f (by_byte i b e) = subst Other (sym e) (λ z. omega (arith, z))
word_other w p f (by_address c s e) = subst Other (sym e) (λ z. omega (arith, z))
word_other w p f (by_shape i c m e) = subst Other (sym e) (λ z. omega (arith, z))

first_other : (rs : List Run) (g : Fault) → FirstFault rs g → Other g
first_other rs g w = ⊎_elim (λ d. word_other w.word.text w.word.at g d) (λ k. subst Other (sym k.3) (λ z. omega (arith, z))) w.wrong

read_other : (bs : List ℕ) (inch : Bool) (f : Fault) (r : Result Block Fault) → r ≡ Err f → Means bs inch r → Other f
read_other bs inch f r q (too_long l e) = other_as f TooLong (sym q ∙ e) (λ z. omega (arith, z))
read_other bs inch f r q (wrong_word g l w e) = other_as f g (sym q ∙ e) (first_other (words bs (length bs)) g w)
read_other bs inch f r q (misplaced_word ws p a b e) = other_as f (Misplaced p) (sym q ∙ e) (λ z. omega (arith, z))
read_other bs inch f r q (unfit_words ws p a b c e) = other_as f (Unfit p) (sym q ∙ e) (λ z. omega (arith, z))
read_other bs inch f r q (out_of_range ws p a b c d e) = other_as f (Range p) (sym q ∙ e) (λ z. omega (arith, z))
read_other bs inch f r q (right_block ws b a c d g t e) = let k = sym e ∙ q in not_ok f b (sym k)

-- a frame instruction gives 10
append_other : (b : Bool) (ss : List Step) (f : Fault) → cond b (Ok ss) (Err (ChainFull 0)) ≡ Err f → f ≡ ChainFull 0
append_other true ss f e = not_ok f ss (sym e)
append_other false ss f e = same_fault f (ChainFull 0) (sym e)

longer_other : (s : SetupState) (t : Step) (r : Result (List Step) Fault) (f : Fault) → ((g : Fault) → r ≡ Err g → Other g) → on_longer s t r ≡ Err f → Other f
longer_other s t (Ok ss) f h e = not_ok f _ (sym e)
longer_other s t (Err g) f h e = other_as f g (sym e) (h g refl)

change_other : (s : SetupState) (c : FrameChange) (f : Fault) → changed s c ≡ Err f → Other f
change_other s Empty f e = not_ok f _ (sym e)
change_other s (Replace g) f e = not_ok f _ (sym e)
change_other s (Append g) f e =
    longer_other s (step_in s.modes.plane g) (appended s.steps (step_in s.modes.plane g)) f
    (λ h k. subst Other (sym (append_other _ (lengthened s.steps (step_in s.modes.plane g)) h k)) (λ z. omega (arith, z))) e

-- a plan gives 11 to 14
axis_other : {A : Type 0} (o : Option Axis) (g : Axis → Fault) (r : Result A Fault) (f : Fault) → ((a : Axis) → Other (g a)) → (r ≡ Err f → Other f) → unless_axis o g r ≡ Err f → Other f
axis_other (Some a) g r f h k e = other_as f (g a) (sym e) (h a)
axis_other None g r f h k e = k e

placed_other : (m : List Bool) (at : List _) (f : Fault) → placed m at ≡ Err f → Other f
placed_other m at f e =
    axis_other (open_axis m at) (λ a. Open 0 a) _ f (λ a z. omega (arith, z))
    (axis_other (far_axis m at) (λ a. Beyond 0 a 0) _ f (λ a z. omega (arith, z)) (λ k. not_ok f _ (sym k))) e

tests_other : (o : Option Axis) (g : Axis → Fault) (r : Result Image Fault) (f : Fault) → ((a : Axis) → Other (g a)) → (r ≡ Err f → Other f) → or_else o g r ≡ Err f → Other f
tests_other (Some a) g r f h k e = other_as f (g a) (sym e) (h a)
tests_other None g r f h k e = k e

tested_other : (n : ℕ) (m : List Bool) (tol : ℕ) (p : Image) (f : Fault) → tested n m tol p ≡ Err f → Other f
tested_other n m tol p f e =
    tests_other (first_axis (is_beyond m p)) (λ a. Beyond 0 a n) _ f (λ a z. omega (arith, z))
    (tests_other (first_axis (is_wide m tol p)) (λ a. Spread 0 a n) (Ok p) f (λ a z. omega (arith, z)) (λ k. not_ok f p (sym k))) e

onward_other : (n : ℕ) (m : List Bool) (tol : ℕ) (s : Step) (r : Result Image Fault) (f : Fault) → ((g : Fault) → r ≡ Err g → Other g) → onward n m tol s r ≡ Err f → Other f
onward_other n m tol s (Ok p) f h e = tested_other n m tol (through m s p) f e
onward_other n m tol s (Err g) f h e = other_as f g (sym e) (h g refl)

steps_other : (ss : List Step) (n : ℕ) (m : List Bool) (tol : ℕ) (p : Image) (f : Fault) → through_steps ss n m tol p ≡ Err f → Other f
steps_other [] n m tol p f e = not_ok f p (sym e)
steps_other (s ∷ ss) n m tol p f e = onward_other n m tol s (through_steps ss (suc n) m tol p) f (λ g k. steps_other ss (suc n) m tol p g k) e

image_other : (b : Bool) (ss : List Step) (m : List Bool) (tol : ℕ) (o vs : List Length) (q : Image) (f : Fault) → cond b (pushed ss m tol o vs) (Ok q) ≡ Err f → Other f
image_other true ss m tol o vs q f e = onward_other 9 m tol (settable o) (through_steps ss 1 m tol (started vs)) f (λ g k. steps_other ss 1 m tol (started vs) g k) e
image_other false ss m tol o vs q f e = not_ok f q (sym e)

on_image_other : (m : List Bool) (vs : List _) (old : Image) (r : Result Image Fault) (f : Fault) → ((g : Fault) → r ≡ Err g → Other g) → on_image m vs old r ≡ Err f → Other f
on_image_other m vs old (Ok new) f h e = not_ok f _ (sym e)
on_image_other m vs old (Err g) f h e = other_as f g (sym e) (h g refl)

on_placed_other : (c : InForce) (ss : List Step) (fs : List SettableFrame) (tol : Tolerance) (m : List Bool) (old : Image) (r : Result (List (Option Length)) Fault) (f : Fault) → ((g : Fault) → r ≡ Err g → Other g) → on_placed c ss fs tol m old r ≡ Err f → Other f
on_placed_other c ss fs tol m old (Ok vs) f h e = on_image_other m vs old (image_in c ss fs tol m (values_or vs)) f (λ g k. image_other c.chained ss m tol.units (offset_of fs (frame_number c.settable)) (values_or vs) (started (values_or vs)) g k) e
on_placed_other c ss fs tol m old (Err g) f h e = other_as f g (sym e) (h g refl)

reckoned_other : (c : InForce) (ss : List Step) (fs : List SettableFrame) (tol : Tolerance) (d : _) (ws vs : List (Option Length)) (old : Image) (f : Fault) → reckoned c ss fs tol d ws vs old ≡ Err f → Other f
reckoned_other c ss fs tol d ws vs old f e = on_placed_other c ss fs tol (moved_in c ss (named_by ws)) old (placed (moved_in c ss (named_by ws)) (standings d ws vs)) f (λ g k. placed_other (moved_in c ss (named_by ws)) (standings d ws vs) g k) e

opened_other : (r : Result Plan Fault) (f : Fault) → ((g : Fault) → r ≡ Err g → Other g) → opened_plan r ≡ Err f → Other f
opened_other (Ok p) f h e = not_ok f _ (sym e)
opened_other (Err g) f h e = other_as f g (sym e) (h g refl)

machine_other : (b : Bool) (g : ℕ) (r : Result Plan Fault) (f : Fault) → (r ≡ Err f → Other f) → cond b (Err (IncrementalMachine g)) r ≡ Err f → Other f
machine_other true g r f h e = other_as f (IncrementalMachine g) (sym e) (λ z. omega (arith, z))
machine_other false g r f h e = h e

planned_other : (s : SetupState) (o : Ordinary) (m : Option ℕ) (f : Fault) → planned_by s o m ≡ Err f → Other f
planned_other s o None f e = reckoned_other (selected s o).force s.steps s.records s.tolerance (selected s o).modes.distance o.words (selected s o).values s.image f e
planned_other s o (Some g) f e =
    machine_other (is_incremental (selected s o).modes.distance) g (opened_plan (reckoned machine_only s.steps s.records s.tolerance (selected s o).modes.distance o.words all_open s.image)) f
    (λ k. opened_other (reckoned machine_only s.steps s.records s.tolerance (selected s o).modes.distance o.words all_open s.image) f (λ h l. reckoned_other machine_only s.steps s.records s.tolerance (selected s o).modes.distance o.words all_open s.image h l) k) e

-- telling the place of a word changes no number
same_number : (q : ℕ) (f : Fault) → (decline_of (at_place q f)).number ≡ (decline_of f).number
same_number q f = by_case f
  where
    by_case : (g : Fault) → (decline_of (at_place q g)).number ≡ (decline_of g).number
    by_case TooLong = refl
    by_case (Byte p) = refl
    by_case (Shape p) = refl
    by_case (Unknown p) = refl
    by_case (Repeated p) = refl
    by_case (Misplaced p) = refl
    by_case (Unfit p) = refl
    by_case (Range p) = refl
    by_case Ended = refl
    by_case (ChainFull p) = refl
    by_case (IncrementalMachine p) = refl
    by_case (Open p a) = refl
    by_case (Beyond p a s) = refl
    by_case (Spread p a s) = refl
    by_case (Outside p a l) = refl
    by_case (RollFull s) = refl
    by_case Argument = refl

other_at : (q : ℕ) (f : Fault) → Other f → Other (at_place q f)
other_at q f h z = h (sym (same_number q f) ∙ z)

-- 15 comes from the pile alone
abbrev pub Handed : State → Option Point → Type 0
Handed s o = (t : Point) × (o ≡ Some t) × OutsideSome s.pile t

module _ (s : State) (f : Fault) (is15 : (decline_of f).number ≡ 15) where
  stray : {P : Type 0} (g : Fault) → f ≡ g → Other g → P
  stray g e h = absurd (h (ap (λ (x : Fault). (decline_of x).number) (sym e) ∙ is15))

  reply_15 : (o : Ordinary) (place : ℕ) (p : Plan) (r : Result (Unit {0}) Fault) → reply_to s.pile (point_of p.image) ≡ r → on_reply s o place p r ≡ Err f → OutsideSome s.pile (point_of p.image)
  reply_15 o place p (Ok u) k e inside = not_ok f _ (sym e)
  reply_15 o place p (Err g) k e inside = not_ok g tt (sym k ∙ (replies s.pile (point_of p.image)).taken_where inside)

  plan_15 : (o : Ordinary) (place : ℕ) (r : Result Plan Fault) → ((g : Fault) → r ≡ Err g → Other g) → on_plan s o place r ≡ Err f → Handed s (targets_of_plan r)
  plan_15 o place (Ok p) h e = (point_of p.image, refl, reply_15 o place p (reply_to s.pile (point_of p.image)) refl e)
  plan_15 o place (Err g) h e = stray (at_place place g) (same_fault f (at_place place g) (sym e)) (other_at place g (h g refl))

  ordinary_15 : (o : Ordinary) (first : Option ℕ) → ordinary_at s o first ≡ Err f → Handed s (targets_at s o first)
  ordinary_15 o None e = not_ok f _ (sym e)
  ordinary_15 o (Some place) e = plan_15 o place (planned s.setup o) (planned_other s.setup o o.machine) e

  change_15 : (place : ℕ) (r : Result SetupState Fault) → ((g : Fault) → r ≡ Err g → Other g) → on_change s place r ≡ Err f → Handed s None
  change_15 place (Ok t) h e = not_ok f _ (sym e)
  change_15 place (Err g) h e = stray (at_place place g) (same_fault f (at_place place g) (sym e)) (other_at place g (h g refl))

  running_15 : (ended : Bool) (b : Block) → s.setup.ended ≡ ended → cond ended (Err Ended) (obeyed s b) ≡ Err f → Handed s (targets_of_block s (Ok b))
  running_15 true b q e = stray Ended (same_fault f Ended (sym e)) (λ z. omega (arith, z))
  running_15 false (Frame change place) q e = change_15 place (changed s.setup change) (change_other s.setup change) e
  running_15 false (Limit side values place) q e = not_ok f _ (sym e)
  running_15 false (ordinary o) q e =
      let h = ordinary_15 o o.first e in
      (h.0, ap (λ (b : Bool). cond b None (targets_at s o o.first)) q ∙ h.1, h.2)

  block_15 : (bytes : List ℕ) (inch : Bool) (r : Result Block Fault) → block_of bytes inch ≡ r → running s r ≡ Err f → Handed s (targets_of_block s r)
  block_15 bytes inch (Ok b) q e = running_15 s.setup.ended b refl e
  block_15 bytes inch (Err g) q e = stray g (same_fault f g (sym e)) (read_other bytes inch g (block_of bytes inch) q (stand bytes inch))

  pub only_15 : (bytes : List ℕ) → worked s bytes ≡ Err f → Handed s (targets_of s bytes)
  only_15 bytes e = block_15 bytes (is_inch s.setup.modes.unit) (block_of bytes (is_inch s.setup.modes.unit)) refl e

-- and the pile gives it where a target is outside a box
abbrev pub Gets15 : Result Done Fault → Type 0
Gets15 r = (f : Fault) × (r ≡ Err f) × ((decline_of f).number ≡ 15)

module _ (s : State) (t : Point) (outside : OutsideSome s.pile t) where
  reply_every : (o : Ordinary) (place : ℕ) (p : Plan) (r : Result (Unit {0}) Fault) → point_of p.image ≡ t → reply_to s.pile (point_of p.image) ≡ r → Gets15 (on_reply s o place p r)
  reply_every o place p (Ok u) q k = absurd (outside (subst (λ (x : Point). (a : Axis) → InsideAll s.pile.boxes a (at x a)) q ((replies s.pile (point_of p.image)).taken k)))
  reply_every o place p (Err g) q k =
      let d = (replies s.pile (point_of p.image)).declined g k in
      (at_place place g, refl, same_number place g ∙ ap (λ (x : Fault). (decline_of x).number) d.2.0)

  plan_every : (o : Ordinary) (place : ℕ) (r : Result Plan Fault) → targets_of_plan r ≡ Some t → Gets15 (on_plan s o place r)
  plan_every o place (Ok p) e = reply_every o place p (reply_to s.pile (point_of p.image)) (some_only (point_of p.image) t e) refl
  plan_every o place (Err g) e = not_some t e

  ordinary_every : (o : Ordinary) (first : Option ℕ) → targets_at s o first ≡ Some t → Gets15 (ordinary_at s o first)
  ordinary_every o None e = not_some t e
  ordinary_every o (Some place) e = plan_every o place (planned s.setup o) e

  running_every : (ended : Bool) (o : Ordinary) → cond ended None (targets_at s o o.first) ≡ Some t → Gets15 (cond ended (Err Ended) (ordinary_at s o o.first))
  running_every true o e = not_some t e
  running_every false o e = ordinary_every o o.first e

  block_every : (r : Result Block Fault) → targets_of_block s r ≡ Some t → Gets15 (running s r)
  block_every (Err g) e = not_some t e
  block_every (Ok (Frame change place)) e = not_some t e
  block_every (Ok (Limit side values place)) e = not_some t e
  block_every (Ok (ordinary o)) e = running_every s.setup.ended o e

-- what is answered
got_from : (r : Result Done Fault) → Gets15 r → Got15 (answer_of (replied r))
got_from (Ok d) w = not_ok w.0 d (sym w.1)
got_from (Err g) w = ap (λ (x : Fault). (decline_of x).number) (same_fault g w.0 w.1) ∙ w.2

from_got : (r : Result Done Fault) → Got15 (answer_of (replied r)) → Gets15 r
from_got (Ok d) w = absurd w
from_got (Err g) w = (g, refl, w)

left_held : (s : State) (r : Result Done Fault) → Got15 (answer_of (replied r)) → left_by s r ≡ s
left_held s (Ok d) w = absurd w
left_held s (Err g) w = refl

pub fifteen : (s : State) (bytes : List ℕ) (r : Seen) → r.answer ≡ answer_of (replied (worked s bytes)) → Tells (left_by s (worked s bytes)) r.reading → Fifteen s bytes r
fifteen s bytes r e w = record {
  only = λ g. let k = from_got (worked s bytes) (subst Got15 e g) in only_15 s k.0 k.2 bytes k.1;
  every = λ t h o. subst Got15 (sym e) (got_from (worked s bytes) (block_every s t o (block_of bytes (is_inch s.setup.modes.unit)) h));
  holds = λ g. w.held ∙ ap (λ (x : State). x.pile.held) (left_held s (worked s bytes) (subst Got15 e g));
}
