-- Every call keeps a translator tied to the plain shift.
use Rattle.std.proofs.Common.{◌≡◌, ℕ, Bool, cond, List, ℤ, Some, None, Ok, Err, Option, Result, sym, refl, subst}
use Rattle.units.specs.Faults.{at_place}
use Rattle.units.specs.declared.axis.Axis.{Axis}
use Rattle.units.specs.declared.axis.Point.{Point}
use Rattle.units.specs.declared.fault.Fault.{Fault}
use Rattle.units.specs.declared.fault.Fault.TheVariants.{Ended}
use Rattle.machine.specs.Replies.{reply_to}
use Rattle.blocks.specs.Block.{block_of}
use Rattle.blocks.specs.declared.types.Block.{Block}
use Rattle.blocks.specs.declared.types.Block.TheVariants.{Frame, Limit, Ordinary as ordinary}
use Rattle.blocks.specs.declared.types.Ordinary.{Ordinary}
use Rattle.questions.specs.declared.question.Told.{Told}
use Rattle.workpiece.specs.declared.plan.Plan.{Plan}
use Rattle.workpiece.specs.Changes.{changed}
use Rattle.workpiece.specs.Entries.{entered_by}
use Rattle.workpiece.specs.Modes.{is_inch}
use Rattle.workpiece.specs.Moves.{planned, planned_by}
use Rattle.workpiece.specs.Selects.{selected}
use Rattle.workpiece.specs.Setup.{SetupState}
use Rattle.translator.specs.State.{State, point_of}
use Rattle.translator.specs.Work.{Done, with_setup, unmoved, on_change, moved_to, on_reply, handed_over, on_plan, ordinary_at, obeyed, running, worked, on_entry, entered, replied, left_by}
use Rattle.shifts.specs.declared.call.Call.{Call}
use Rattle.shifts.specs.declared.call.Call.TheVariants.{Block as block, Entry, Reset, Read, Ask}
use Rattle.shifts.specs.Calls.{answer_of, told_answer, answer_to, left_after}
use Rattle.shifts.specs.Law.{was_declined}
use Rattle.shifts.specs.Plain.{Plain, selecting, moved_by, ordinary_by, obeyed_by, told_by, accepted, after}
use Rattle.shifts.proofs.Small.{ok_only, not_ok, by_second}
use Rattle.shifts.proofs.Follows.{Follows, select_follows, frame_follows, limits_follow, reset_follows}
use Rattle.shifts.proofs.Moving.{workpiece_follows, machine_follows}
use Rattle.shifts.proofs.Entering.{entry_follows}

-- what an accepted call is made of
pub change_parts : (s : State) (place : ℕ) (r : Result SetupState Fault) (d : Done) → on_change s place r ≡ Ok d → (t : SetupState) × (r ≡ Ok t) × (unmoved (with_setup s t) ≡ d)
change_parts s place (Ok t) d e = (t, refl, ok_only (unmoved (with_setup s t)) d e)
change_parts s place (Err g) d e = not_ok (at_place place g) d e

pub entry_parts : (s : State) (r : Result SetupState Fault) (d : Done) → on_entry s r ≡ Ok d → (t : SetupState) × (r ≡ Ok t) × (unmoved (with_setup s t) ≡ d)
entry_parts s (Ok t) d e = (t, refl, ok_only (unmoved (with_setup s t)) d e)
entry_parts s (Err g) d e = not_ok g d e

pub reply_parts : (s : State) (o : Ordinary) (place : ℕ) (p : Plan) (r : Result (Unit {0}) Fault) (d : Done) → on_reply s o place p r ≡ Ok d → (u : Unit {0}) × (r ≡ Ok u) × (moved_to s o p ≡ d)
reply_parts s o place p (Ok u) d e = (u, refl, ok_only (moved_to s o p) d e)
reply_parts s o place p (Err g) d e = not_ok (at_place place g) d e

pub plan_parts : (s : State) (o : Ordinary) (place : ℕ) (r : Result Plan Fault) (d : Done) → on_plan s o place r ≡ Ok d → (p : Plan) × (r ≡ Ok p) × (handed_over s o place p ≡ Ok d)
plan_parts s o place (Ok p) d e = (p, refl, e)
plan_parts s o place (Err g) d e = not_ok (at_place place g) d e

module _ {inc : Axis → ℕ} {p : Plain} {s : State} (f : Follows inc p s) where
  follows_done : (q : Plain) (c d : Done) → c ≡ d → Follows inc q c.left → Follows inc q d.left
  follows_done q c d e h = subst (λ (z : Done). Follows inc q z.left) e h

  planned_follows : (o : Ordinary) (machine : Option ℕ) (pl : Plan) (u : Unit {0}) → planned_by s.setup o machine ≡ Ok pl → reply_to s.pile (point_of pl.image) ≡ Ok u → Follows inc (moved_by (selecting p o.selections) o machine) (moved_to s o pl).left
  planned_follows o None pl u e r = workpiece_follows (select_follows f o) o pl u e r
  planned_follows o (Some g) pl u e r = machine_follows (select_follows f o) o g pl u e r

  ordinary_follows : (o : Ordinary) (first : Option ℕ) (d : Done) → ordinary_at s o first ≡ Ok d → Follows inc (ordinary_by (selecting p o.selections) o first) d.left
  ordinary_follows o None d e = follows_done (selecting p o.selections) (unmoved (with_setup s (selected s.setup o))) d (ok_only _ d e) (select_follows f o)
  ordinary_follows o (Some place) d e =
      let a = plan_parts s o place (planned s.setup o) d e in
      let b = reply_parts s o place a.0 (reply_to s.pile (point_of a.0.image)) d a.2 in
      follows_done (moved_by (selecting p o.selections) o o.machine) (moved_to s o a.0) d b.2 (planned_follows o o.machine a.0 b.0 a.1 b.1)

  obeyed_follows : (b : Block) (d : Done) → obeyed s b ≡ Ok d → Follows inc (obeyed_by p b) d.left
  obeyed_follows (Frame change place) d e =
      let a = change_parts s place (changed s.setup change) d e in
      follows_done (obeyed_by p (Frame change place)) (unmoved (with_setup s a.0)) d a.2 (frame_follows f change a.0 a.1)
  obeyed_follows (Limit side values place) d e = follows_done p _ d (ok_only _ d e) (limits_follow f side values)
  obeyed_follows (ordinary o) d e = ordinary_follows o o.first d e

  running_follows : (r : Result Block Fault) (d : Done) → running s r ≡ Ok d → Follows inc (told_by p r) d.left
  running_follows (Ok b) d e = obeyed_follows b d (by_second s.setup.ended Ended (obeyed s b) d e).1
  running_follows (Err g) d e = not_ok g d e

  block_follows : (bytes : List ℕ) (d : Done) → worked s bytes ≡ Ok d → Follows inc (told_by p (block_of bytes p.inch)) d.left
  block_follows bytes d e = subst (λ (b : Bool). Follows inc (told_by p (block_of bytes b)) d.left) (sym f.inch) (running_follows (block_of bytes (is_inch s.setup.modes.unit)) d e)

  -- accepted or declined
  by_result : (q : Plain) (r : Result Done Fault) → ((d : Done) → r ≡ Ok d → Follows inc q d.left) → Follows inc (cond (was_declined (answer_of (replied r))) p q) (left_by s r)
  by_result q (Ok d) h = h d refl
  by_result q (Err g) h = f

  entered_follows : (frame : ℤ) (offset : Point) (d : Done) → entered s frame offset ≡ Ok d → Follows inc (accepted p (Entry frame offset)) d.left
  entered_follows frame offset d e =
      let a = entry_parts s (entered_by s.setup frame offset) d e in
      follows_done (accepted p (Entry frame offset)) (unmoved (with_setup s a.0)) d a.2 (entry_follows f frame offset a.0 a.1)

  asked_follows : (r : Result Told Fault) → Follows inc (cond (was_declined (told_answer r)) p p) s
  asked_follows (Ok t) = f
  asked_follows (Err g) = f

  pub call_follows : (c : Call) → Follows inc (after p c (was_declined (answer_to s c))) (left_after s c)
  call_follows (block bytes) = by_result (accepted p (block bytes)) (worked s bytes.now) (block_follows bytes.now)
  call_follows (Entry frame offset) = by_result (accepted p (Entry frame offset)) (entered s frame offset) (entered_follows frame offset)
  call_follows Reset = reset_follows f
  call_follows Read = f
  call_follows (Ask q) = asked_follows _
