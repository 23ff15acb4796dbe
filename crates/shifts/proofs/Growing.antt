-- How much the spreads of a moved axis grow.
use Rattle.std.proofs.Common.{◌≡◌, ℕ, ◌<◌, Bool, true, false, cond, List, [], ◌∷◌, get_or, Some, None, Ok, Err, Option, Result, sym, refl, ap, ◌∙◌, subst, arith, lit<, Bor}
use Rattle.units.specs.declared.axis.Axis.{Axis}
use Rattle.units.specs.declared.fault.Fault.{Fault}
use Rattle.units.specs.declared.fault.Fault.TheVariants.{Ended}
use Rattle.machine.specs.Replies.{reply_to}
use Rattle.chains.specs.declared.step.Step.{Step}
use Rattle.chains.specs.Joined.{moved_axes}
use Rattle.frames.specs.declared.image.Image.{Image}
use Rattle.frames.specs.Pushing.{spread_of}
use Rattle.frames.specs.Theorems.{NoneEnlarges, Grown, weight_of}
use Rattle.blocks.specs.Block.{block_of}
use Rattle.blocks.specs.declared.types.Block.{Block}
use Rattle.blocks.specs.declared.types.Block.TheVariants.{Frame, Limit, Ordinary as ordinary}
use Rattle.blocks.specs.declared.types.Ordinary.{Ordinary}
use Rattle.workpiece.specs.declared.plan.Plan.{Plan}
use Rattle.workpiece.specs.Changes.{changed}
use Rattle.workpiece.specs.Modes.{is_inch}
use Rattle.workpiece.specs.Moves.{planned, planned_by}
use Rattle.workpiece.specs.Plans.{kept_image, named_by}
use Rattle.translator.specs.declared.reply.Reply.{Reply}
use Rattle.translator.specs.State.{State, point_of}
use Rattle.translator.specs.Work.{Done, ordinary_at, obeyed, running, worked, replied}
use Rattle.shifts.specs.declared.call.Call.{Call}
use Rattle.shifts.specs.declared.call.Call.TheVariants.{Block as block, Entry, Reset, Read, Ask}
use Rattle.shifts.specs.Calls.{answer_of, answer_to}
use Rattle.shifts.specs.Law.{WithoutMachine, Growth}
use Rattle.shifts.specs.Plain.{Plain}
use Rattle.shifts.proofs.Small.{three, ok_only, by_second}
use Rattle.shifts.proofs.Follows.{Follows, select_follows}
use Rattle.shifts.proofs.Moving.{image_so}
use Rattle.shifts.proofs.Calls.{change_parts, reply_parts, plan_parts}

abbrev pub Grows : List Step → Reply → Type 0
Grows ss r = NoneEnlarges ss → (a : ℕ) → a < 3 → get_or r.moved a false ≡ true → Grown (weight_of ss) (spread_of r.image a)

-- where nothing moved there is nothing to show
still_grows : (ss : List Step) (i : Image) → Grows ss (record { moved = false ∷ false ∷ false ∷ []; image = i })
still_grows ss i n a h = three (λ b. get_or (false ∷ false ∷ false ∷ []) b false ≡ true → Grown (weight_of ss) (spread_of i b)) none none none a h
  where
    none : {P : Type 0} → false ≡ true → P
    none e = let z : ◌≡◌ {A = ℕ} 0 1 = cc in absurd (omega arith)

grown_kept : (t : ℕ) (b : Bool) (r s : ℕ) → b ≡ true → Grown t r → Grown t (cond b r s)
grown_kept t b r s e g = subst (λ (c : Bool). Grown t (cond c r s)) (sym e) g

kept_grows : (ss : List Step) (m : List Bool) (new old : Image) → ((a : ℕ) → a < 3 → Grown (weight_of ss) (spread_of new a)) → (a : ℕ) → a < 3 → get_or m a false ≡ true → Grown (weight_of ss) (spread_of (kept_image m new old) a)
kept_grows ss m new old g = three (λ a. get_or m a false ≡ true → Grown (weight_of ss) (spread_of (kept_image m new old) a)) (at_axis_lem 0 (lit< tt)) (at_axis_lem 1 (lit< tt)) (at_axis_lem 2 (lit< tt))
  where
    at_axis_lem : (a : ℕ) → a < 3 → get_or m a false ≡ true → Grown (weight_of ss) (cond (get_or m a false) (spread_of new a) (spread_of old a))
    at_axis_lem a h e = grown_kept (weight_of ss) (get_or m a false) (spread_of new a) (spread_of old a) e (g a h)

module _ {inc : Axis → ℕ} {p : Plain} {s : State} (f : Follows inc p s) where
  plan_grows : (o : Ordinary) (pl : Plan) → planned_by s.setup o None ≡ Ok pl → Grows s.setup.steps (record { moved = pl.moved; image = pl.image })
  plan_grows o pl e =
      let w = image_so (select_follows f o) o pl e in
      subst (λ (z : Plan). Grows s.setup.steps (record { moved = z.moved; image = z.image })) w.made_so
      (λ n a h k. kept_grows s.setup.steps (moved_axes s.setup.steps (named_by o.words)) w.new s.setup.image (w.sound.grown n) a h k)

  done_grows : (c d : Done) → c ≡ d → Grows s.setup.steps c.reply → Grows s.setup.steps d.reply
  done_grows c d e h = subst (λ (z : Done). Grows s.setup.steps z.reply) e h

  ordinary_grows : (o : Ordinary) (first : Option ℕ) (d : Done) → o.machine ≡ None → ordinary_at s o first ≡ Ok d → Grows s.setup.steps d.reply
  ordinary_grows o None d m e = done_grows _ d (ok_only _ d e) (still_grows s.setup.steps s.setup.image)
  ordinary_grows o (Some place) d m e =
      let a = plan_parts s o place (planned s.setup o) d e in
      let b = reply_parts s o place a.0 (reply_to s.pile (point_of a.0.image)) d a.2 in
      done_grows _ d b.2 (plan_grows o a.0 (ap (planned_by s.setup o) (sym m) ∙ a.1))

  obeyed_grows : (b : Block) (d : Done) → WithoutMachine (Ok b) → obeyed s b ≡ Ok d → Grows s.setup.steps d.reply
  obeyed_grows (Frame change place) d m e =
      let a = change_parts s place (changed s.setup change) d e in
      done_grows _ d a.2 (still_grows s.setup.steps a.0.image)
  obeyed_grows (Limit side values place) d m e = done_grows _ d (ok_only _ d e) (still_grows s.setup.steps s.setup.image)
  obeyed_grows (ordinary o) d m e = ordinary_grows o o.first d m e

  running_grows : (r : Result Block Fault) (d : Done) → WithoutMachine r → running s r ≡ Ok d → Grows s.setup.steps d.reply
  running_grows (Ok b) d m e = obeyed_grows b d m (by_second s.setup.ended Ended (obeyed s b) d e).1
  running_grows (Err g) d m e = absurd m

  block_grows : (bytes : Bor (List ℕ)) (r : Result Done Fault) → worked s bytes.now ≡ r → Growth p (block bytes) (answer_of (replied r))
  block_grows bytes (Ok d) e = λ m.
      subst (λ (ss : List Step). Grows ss d.reply) (sym f.steps)
      (running_grows (block_of bytes.now (is_inch s.setup.modes.unit)) d (subst (λ (b : Bool). WithoutMachine (block_of bytes.now b)) f.inch m) e)
  block_grows bytes (Err g) e = tt

  pub call_grows : (c : Call) → Growth p c (answer_to s c)
  call_grows (block bytes) = block_grows bytes (worked s bytes.now) refl
  call_grows (Entry frame offset) = tt
  call_grows Reset = tt
  call_grows Read = tt
  call_grows (Ask q) = tt
