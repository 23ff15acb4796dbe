-- What ties a translator to the plain shift between two calls: at the start, and after selections, frame instructions, limits and reset.
use Rattle.std.proofs.Common.{◌≡◌, ℕ, zero, suc, ◌*◌, ◌<◌, ◌≤◌, Bool, true, false, cond, not, ◌||◌, eqb, leb, List, [], ◌∷◌, length, get_or, ℤ, pos, ◌-ℤ◌, nat_abs, Some, None, Ok, Err, Option, Result, sym, refl, ap, ◌∙◌, subst, lit<}
use Rattle.units.specs.Quantities.{zero_length}
use Rattle.units.specs.declared.axis.Axis.{Axis}
use Rattle.units.specs.declared.axis.Plane.{Plane}
use Rattle.units.specs.declared.axis.Side.{Side}
use Rattle.units.specs.declared.fault.Fault.{Fault}
use Rattle.units.specs.declared.fault.Fault.TheVariants.{ChainFull}
use Rattle.units.specs.declared.quantity.Length.{Length}
use Rattle.units.specs.declared.quantity.Tolerance.{Tolerance}
use Rattle.fractions.specs.Fractions.{Within}
use Rattle.machine.specs.Meaning.{at, Meaning, Sound}
use Rattle.chains.specs.declared.step.Step.{Step}
use Rattle.chains.specs.Chains.{touched, touched_at, lengthened, appended}
use Rattle.chains.specs.Steps.{touches}
use Rattle.frames.specs.Pushing.{coordinate, spread_of}
use Rattle.reader.specs.declared.functions.Distance.{Distance}
use Rattle.reader.specs.declared.functions.Distance.TheVariants.{Absolute, Incremental}
use Rattle.reader.specs.declared.functions.LengthUnit.{LengthUnit}
use Rattle.reader.specs.declared.functions.LengthUnit.TheVariants.{Inch, Millimetre}
use Rattle.reader.specs.declared.functions.Settable.{Settable}
use Rattle.reader.specs.declared.functions.Settable.TheVariants.{G500, G54, G55, G56, G57, G58, G59}
use Rattle.blocks.specs.declared.types.FrameChange.{FrameChange}
use Rattle.blocks.specs.declared.types.FrameChange.TheVariants.{Empty, Replace, Append}
use Rattle.blocks.specs.declared.types.FrameStep.{FrameStep}
use Rattle.blocks.specs.declared.types.FrameStep.TheVariants.{Offset as s_offset, Turn as s_turn, Scale as s_scale, Mirror as s_mirror}
use Rattle.blocks.specs.declared.types.Ordinary.{Ordinary}
use Rattle.workpiece.specs.Changes.{step_in, reframed, changed, on_longer, either_of}
use Rattle.workpiece.specs.Modes.{chosen, is_inch, is_incremental}
use Rattle.workpiece.specs.Places.{all_open, opened_at, units_of}
use Rattle.workpiece.specs.Selects.{selected}
use Rattle.workpiece.specs.Settable.{frame_number, no_records, no_offset, offset_of}
use Rattle.workpiece.specs.Setup.{SetupState, after_reset}
use Rattle.translator.specs.State.{State, opened, point_of, with_limits}
use Rattle.translator.specs.Work.{with_setup}
use Rattle.shifts.specs.Plain.{Plain, begun, unplaced, frame_of, settable_after, plane_after, inch_after, incremental_after, step_of, with_chain, framed, selecting, reset_by}
use Rattle.shifts.proofs.Small.{three, ok_only, not_ok, by_first, itself, no_way}

pub record Follows (inc : Axis → ℕ) (p : Plain) (s : State) : Type 0 where
  pub steps : p.steps ≡ s.setup.steps
  pub entry : (n a : ℕ) → a < 3 → p.entry n a ≡ (get_or (offset_of s.setup.records n) a zero_length).units
  pub six : length s.setup.records ≡ 6
  pub plane : p.plane ≡ s.setup.modes.plane
  pub settable : p.settable ≡ frame_number s.setup.force.settable
  pub inch : p.inch ≡ is_inch s.setup.modes.unit
  pub incremental : p.incremental ≡ is_incremental s.setup.modes.distance
  pub chained : s.setup.force.chained ≡ true
  pub value : (a : ℕ) → a < 3 → p.value a ≡ units_of (get_or s.setup.values a None)
  pub exact : (a : ℕ) → a < 3 → Within (coordinate s.setup.image a) (p.exact a) (spread_of s.setup.image a)
  pub positive : (a : ℕ) → a < 3 → 0 < (p.exact a).den
  pub held : (a : Axis) → 2 * nat_abs (at (point_of s.setup.image) a -ℤ at s.pile.held a) ≤ inc a
  pub honest : (a : Axis) (v : ℤ) → 2 * nat_abs (v -ℤ s.pile.rounding a v) ≤ inc a

-- at the start
no_offset_lem : (n : ℕ) → offset_of no_records n ≡ no_offset
no_offset_lem zero = refl
no_offset_lem (suc zero) = refl
no_offset_lem (suc (suc zero)) = refl
no_offset_lem (suc (suc (suc zero))) = refl
no_offset_lem (suc (suc (suc (suc zero)))) = refl
no_offset_lem (suc (suc (suc (suc (suc zero))))) = refl
no_offset_lem (suc (suc (suc (suc (suc (suc zero)))))) = refl
no_offset_lem (suc (suc (suc (suc (suc (suc (suc n))))))) = refl

no_entry : (n a : ℕ) → a < 3 → pos 0 ≡ (get_or (offset_of no_records n) a zero_length).units
no_entry n a h = three (λ b. pos 0 ≡ (get_or no_offset b zero_length).units) refl refl refl a h ∙ ap (λ (l : List Length). (get_or l a zero_length).units) (sym (no_offset_lem n))

pub start_follows : (m : Meaning) (tol : Tolerance) → Sound m → Follows m.increment (begun m.held) (opened m tol)
start_follows m tol sound = record {
  steps = refl;
  entry = no_entry;
  six = refl;
  plane = refl;
  settable = refl;
  inch = refl;
  incremental = refl;
  chained = refl;
  value = three _ refl refl refl;
  exact = three _ (itself m.held.x) (itself m.held.y) (itself m.held.z);
  positive = λ a h. lit< tt;
  held = there;
  honest = sound.near;
}
  where
    there : (a : Axis) → 2 * nat_abs (at m.held a -ℤ at m.held a) ≤ m.increment a
    there a = no_way (at m.held a) (m.increment a)

-- selections
plane_follows : (o : Option Plane) (x y : Plane) → x ≡ y → plane_after o x ≡ chosen o y
plane_follows None x y e = e
plane_follows (Some q) x y e = refl

frame_number_lem : (f : Settable) → frame_of f ≡ frame_number f
frame_number_lem G500 = refl
frame_number_lem G54 = refl
frame_number_lem G55 = refl
frame_number_lem G56 = refl
frame_number_lem G57 = refl
frame_number_lem G58 = refl
frame_number_lem G59 = refl

settable_follows : (o : Option Settable) (n : ℕ) (f : Settable) → n ≡ frame_number f → settable_after o n ≡ frame_number (chosen o f)
settable_follows None n f e = e
settable_follows (Some g) n f e = frame_number_lem g

inch_follows : (o : Option LengthUnit) (b : Bool) (u : LengthUnit) → b ≡ is_inch u → inch_after o b ≡ is_inch (chosen o u)
inch_follows None b u e = e
inch_follows (Some Inch) b u e = refl
inch_follows (Some Millimetre) b u e = refl

incremental_follows : (o : Option Distance) (b : Bool) (d : Distance) → b ≡ is_incremental d → incremental_after o b ≡ is_incremental (chosen o d)
incremental_follows None b d e = e
incremental_follows (Some Absolute) b d e = refl
incremental_follows (Some Incremental) b d e = refl

-- another frame opens all axes
values_selected : (b : Bool) (v : ℕ → Option ℤ) (vs : List (Option Length)) → ((a : ℕ) → a < 3 → v a ≡ units_of (get_or vs a None)) → (a : ℕ) → a < 3 → cond b v unplaced a ≡ units_of (get_or (cond (not b) all_open vs) a None)
values_selected true v vs h a l = h a l
values_selected false v vs h a l = three (λ c. None ≡ units_of (get_or all_open c None)) refl refl refl a l

module _ {inc : Axis → ℕ} {p : Plain} {s : State} (f : Follows inc p s) where
  pub select_follows : (o : Ordinary) → Follows inc (selecting p o.selections) (with_setup s (selected s.setup o))
  select_follows o =
      let by = o.selections in
      let e = settable_follows by.settable p.settable s.setup.force.settable f.settable in
      record {
        steps = f.steps;
        entry = f.entry;
        six = f.six;
        plane = plane_follows by.plane p.plane s.setup.modes.plane f.plane;
        settable = e;
        inch = inch_follows by.unit p.inch s.setup.modes.unit f.inch;
        incremental = incremental_follows by.distance p.incremental s.setup.modes.distance f.incremental;
        chained = f.chained;
        value = λ a h.
            ap (λ (b : Bool). cond b p.value unplaced a) (λ i. eqb (f.settable i) (e i)) ∙
            values_selected (eqb (frame_number s.setup.force.settable) (frame_number (chosen by.settable s.setup.force.settable))) p.value s.setup.values f.value a h;
        exact = f.exact;
        positive = f.positive;
        held = f.held;
        honest = f.honest;
      }

  -- another chain
  opened_units : (b c : Bool) (o : Option ℤ) (v : Option Length) → b ≡ c → o ≡ units_of v → cond b None o ≡ units_of (opened_at c v)
  opened_units b true o v e h = ap (λ (x : Bool). cond x None o) e
  opened_units b false o v e h = ap (λ (x : Bool). cond x None o) e ∙ h

  reframed_follows : (ps ss : List Step) (t : ℕ → Bool) (ts : List Bool) → ps ≡ ss → ((a : ℕ) → a < 3 → t a ≡ get_or ts a false) → Follows inc (with_chain p ps t) (with_setup s (reframed s.setup ss ts))
  reframed_follows ps ss t ts e h = record {
    steps = e;
    entry = f.entry;
    six = f.six;
    plane = f.plane;
    settable = f.settable;
    inch = f.inch;
    incremental = f.incremental;
    chained = f.chained;
    value = three _
        (opened_units (t 0) (get_or ts 0 false) (p.value 0) (get_or s.setup.values 0 None) (h 0 (lit< tt)) (f.value 0 (lit< tt)))
        (opened_units (t 1) (get_or ts 1 false) (p.value 1) (get_or s.setup.values 1 None) (h 1 (lit< tt)) (f.value 1 (lit< tt)))
        (opened_units (t 2) (get_or ts 2 false) (p.value 2) (get_or s.setup.values 2 None) (h 2 (lit< tt)) (f.value 2 (lit< tt)));
    exact = f.exact;
    positive = f.positive;
    held = f.held;
    honest = f.honest;
  }

  same_step : (g : FrameStep) → step_of p.plane g ≡ step_in s.setup.modes.plane g
  same_step (s_offset by) = refl
  same_step (s_turn angle) = ap (λ (q : Plane). step_in q (s_turn angle)) f.plane
  same_step (s_scale by) = refl
  same_step (s_mirror names) = refl

  or_none : (b : Bool) → (b || false) ≡ b
  or_none true = refl
  or_none false = refl

  touched_one : (t : Step) (a : ℕ) → a < 3 → touches t a ≡ get_or (touched (t ∷ [])) a false
  touched_one t = three _ (sym (or_none (touches t 0))) (sym (or_none (touches t 1))) (sym (or_none (touches t 2)))

  -- what the old chain touched, or the step
  touched_either : (t u : Step) → t ≡ u → (a : ℕ) → a < 3 → (touched_at p.steps a || touches t a) ≡ get_or (either_of (touched s.setup.steps) (touched (u ∷ []))) a false
  touched_either t u e = three _ (at_axis_lem 0) (at_axis_lem 1) (at_axis_lem 2)
    where
      at_axis_lem : (a : ℕ) → (touched_at p.steps a || touches t a) ≡ (touched_at s.setup.steps a || (touches u a || false))
      at_axis_lem a = λ i. touched_at (f.steps i) a || (ap (λ (v : Step). touches v a) e ∙ sym (or_none (touches u a))) i

  on_longer_lem : (t : Step) (r : Result (List Step) Fault) (u : SetupState) → on_longer s.setup t r ≡ Ok u → (longer : List Step) × (r ≡ Ok longer) × (reframed s.setup longer (touched (t ∷ [])) ≡ u)
  on_longer_lem t (Ok longer) u e = (longer, refl, ok_only (reframed s.setup longer (touched (t ∷ []))) u e)
  on_longer_lem t (Err g) u e = not_ok g u e

  follows_setup : {q : Plain} (t u : SetupState) → t ≡ u → Follows inc q (with_setup s t) → Follows inc q (with_setup s u)
  follows_setup {q = q} t u e h = subst (λ (z : SetupState). Follows inc q (with_setup s z)) e h

  pub frame_follows : (change : FrameChange) (t : SetupState) → changed s.setup change ≡ Ok t → Follows inc (framed p change) (with_setup s t)
  frame_follows Empty t e =
      follows_setup (reframed s.setup [] (touched s.setup.steps)) t (ok_only _ t e) (reframed_follows [] [] (touched_at p.steps) (touched s.setup.steps) refl (three _ (old 0) (old 1) (old 2)))
    where
      old : (a : ℕ) → touched_at p.steps a ≡ touched_at s.setup.steps a
      old a = ap (λ (l : List Step). touched_at l a) f.steps
  frame_follows (Replace g) t e =
      let u = step_in s.setup.modes.plane g in
      follows_setup (reframed s.setup (u ∷ []) (either_of (touched s.setup.steps) (touched (u ∷ [])))) t (ok_only _ t e)
      (reframed_follows (step_of p.plane g ∷ []) (u ∷ []) (λ a. touched_at p.steps a || touches (step_of p.plane g) a) (either_of (touched s.setup.steps) (touched (u ∷ []))) (ap (λ (v : Step). v ∷ []) (same_step g)) (touched_either (step_of p.plane g) u (same_step g)))
  frame_follows (Append g) t e =
      let u = step_in s.setup.modes.plane g in
      let o = on_longer_lem u (appended s.setup.steps u) t e in
      let l : lengthened s.setup.steps u ≡ o.0 = by_first (leb (length (lengthened s.setup.steps u)) 8) (lengthened s.setup.steps u) o.0 (ChainFull 0) o.1 in
      follows_setup (reframed s.setup o.0 (touched (u ∷ []))) t o.2
      (reframed_follows (lengthened p.steps (step_of p.plane g)) o.0 (touches (step_of p.plane g)) (touched (u ∷ [])) ((λ i. lengthened (f.steps i) (same_step g i)) ∙ l)
      (λ a h. ap (λ (v : Step). touches v a) (same_step g) ∙ touched_one u a h))

  -- limits of the work area
  pub limits_follow : (side : Side) (values : List (Option Length)) → Follows inc p (record { pile = with_limits side values s.pile; setup = s.setup })
  limits_follow side values = record { steps = f.steps; entry = f.entry; six = f.six; plane = f.plane; settable = f.settable; inch = f.inch; incremental = f.incremental; chained = f.chained; value = f.value; exact = f.exact; positive = f.positive; held = f.held; honest = f.honest }

  pub reset_follows : Follows inc (reset_by p) (with_setup s (after_reset s.setup))
  reset_follows = record {
    steps = refl;
    entry = f.entry;
    six = f.six;
    plane = refl;
    settable = refl;
    inch = refl;
    incremental = refl;
    chained = refl;
    value = three _ refl refl refl;
    exact = f.exact;
    positive = f.positive;
    held = f.held;
    honest = f.honest;
  }
