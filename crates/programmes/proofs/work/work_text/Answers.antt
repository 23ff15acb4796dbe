use Rattle.std.proofs.Common.{◌≡◌, ℕ, Bool, true, false, ◌||◌, List, length, Err, sym, refl, ap, ◌∙◌, subst, arith, rules}
use Rattle.std.proofs.Math.Bool.{or-true}
use Rattle.units.specs.declared.fault.Fault.TheVariants.{RollFull}
use Rattle.lines.proofs.OneWay.{lines_are}
use Rattle.lines.specs.Lines.{LineRead}
use Rattle.rolls.specs.Rolls.{roll_of, is_full}
use Rattle.translator.specs.State.{State, state_of}
use Rattle.translator.specs.declared.reply.Reading.{Reading}
use Rattle.programmes.specs.Text.{move_of, decline_of}
use Rattle.programmes.proofs.Along.{Along, along_none, along_more, all_worked, stopped_by, short_text, filed_at, told_as}
use Rattle.programmes.proofs.work.work_text.Goals as goal
use Rattle.programmes.proofs.work.work_text.Goals.{then-is_full-via-then-is_full, then-is_full-via-else-is_full+then-is_full-2}

pub returns-then-text-gt-LONGEST-clause-worked : goal.returns-then-text-gt-LONGEST-clause-worked
returns-then-text-gt-LONGEST-clause-worked g c = record { lines = lines_are 0 c.args.text.now; worked = λ h. absurd (omega arith); long = λ _. (refl, refl, refl, refl) }

pub loop-line-init : goal.loop-line-init
loop-line-init g c =
    let s = state_of g.E.MachineEnd.meaning c.args.translator.now in
    let moves = roll_of c.args.moves.now in
    let declines = roll_of c.args.declines.now in
    let at : 0 ≡ c.into_iter-line-iterator.result.place = search rules in
    record {
      along = subst (λ (p : ℕ). Along s c.args.text.now moves declines p s moves declines) at (along_none s c.args.text.now moves declines c.args.moves.now.within c.args.declines.now.within);
      text = search rules;
      lent = refl;
      also = refl;
    }

pub loop-line-preserved : goal.loop-line-preserved
loop-line-preserved g c =
    let t : State = state_of g.E.MachineEnd.meaning c.block-reply.new.self in
    let reading : Reading = record { image = t.setup.image; held = t.pile.held; chain = c.block-reply.new.self.setup.frames.chain } in
    let moves = roll_of c.loop-line.moves in
    let declines = roll_of c.loop-line.declines in
    let m = c.is_full.ensures.same in
    let d = c.is_full-else-is_full.ensures.same in
    let steps = c.in-Some.ensures.steps in
    let read = subst (λ (text : List ℕ). LineRead text c.loop-line.line-iterator.place c.next.new.self.place c.in-Some.line.bytes.now) c.loop-line.invariant.text steps.1.0 in
    let moves_free : is_full moves ≡ false = cc in
    let declines_free : is_full declines ≡ false = cc in
    record {
      along = along_more _ c.args.text.now _ _ c.loop-line.line-iterator.place c.next.new.self.place c.in-Some.line.bytes.now _ t _ _ _ _ c.block-reply.result reading c.loop-line.invariant.along read moves_free declines_free c.block-reply.ensures.told c.block-reply.ensures.left (record { image = refl; held = refl; steps = refl }) (filed_at move_of _ c.file.ensures.moves (ap roll_of m) steps.1.1.0) (filed_at decline_of _ c.file.ensures.declines (ap roll_of d) steps.1.1.0);
      text = steps.0 ∙ c.loop-line.invariant.text;
      lent = search rules;
      also = search rules;
    }

pub returns-then-is_full-clause-worked : goal.returns-then-is_full-clause-worked
returns-then-is_full-clause-worked g c =
    let moves = roll_of c.loop-line.moves in
    let declines = roll_of c.loop-line.declines in
    let steps = c.in-Some.ensures.steps in
    let read = subst (λ (text : List ℕ). LineRead text c.loop-line.line-iterator.place c.next.new.self.place c.in-Some.line.bytes.now) c.loop-line.invariant.text steps.1.0 in
    let full : ((is_full moves || is_full declines) ≡ true) × (c.then-is_full.declines ≡ c.loop-line.declines) =
    elim c.then-is_full.branch [
      | then-is_full-via-then-is_full w ↦ (ap (λ (b : Bool). b || is_full declines) (sym c.is_full.ensures.told ∙ w.if-is_full.true), w.declines-is)
      | then-is_full-via-else-is_full+then-is_full-2 w ↦ (ap (λ (b : Bool). is_full moves || b) (sym w.is_full-else-is_full.ensures.told ∙ w.if-is_full-2.true) ∙ or-true (is_full moves), w.declines-is ∙ w.is_full-else-is_full.ensures.same)
    ] in
    told_as (ap (λ (k : ℕ). Err (RollFull k)) steps.1.1.0) (ap roll_of c.is_full.ensures.same) (ap roll_of full.1) (short_text (omega arith) (stopped_by c.loop-line.line-iterator.place c.loop-line.invariant.along c.next.new.self.place c.in-Some.line.bytes.now read full.0))

pub returns-clause-worked : goal.returns-clause-worked
returns-clause-worked g c =
    let text = c.loop-line.invariant.text in
    short_text (omega arith) (all_worked c.loop-line.line-iterator.place c.loop-line.invariant.along (c.in-None.ensures.steps.1.0 ∙ ap length text))
