-- A move keeps a translator tied to the plain shift.
use Rattle.std.proofs.Common.{◌≡◌, ℕ, ◌*◌, ◌<◌, ◌≤◌, Bool, false, cond, eqb, List, [], ◌∷◌, get_or, ℤ, ◌-ℤ◌, nat_abs, is_some, Some, None, Ok, Err, Option, Result, sym, refl, ap, ◌∙◌, subst, arith, lit<}
use Rattle.units.specs.Quantities.{zero_length}
use Rattle.units.specs.declared.axis.Axis.{Axis}
use Rattle.units.specs.declared.axis.Axis.TheVariants.{X, Y, Z}
use Rattle.units.specs.declared.axis.Plane.{Plane}
use Rattle.units.specs.declared.axis.Plane.TheVariants.{Xy, Zx, Yz}
use Rattle.units.specs.declared.axis.Point.{Point}
use Rattle.units.specs.declared.fault.Fault.{Fault}
use Rattle.units.specs.declared.fault.Fault.TheVariants.{IncrementalMachine}
use Rattle.units.specs.declared.quantity.Length.{Length}
use Rattle.units.proofs.Ranged.{length_made}
use Rattle.fractions.specs.Fractions.{Frac, Within, over, shifted}
use Rattle.machine.specs.Meaning.{at, each, Meaning}
use Rattle.machine.specs.Replies.{reply_to, after_move, moved as moved_end}
use Rattle.chains.specs.declared.step.Step.{Step}
use Rattle.chains.specs.declared.step.Step.TheVariants.{Offset, Scale, Mirror, Turn}
use Rattle.chains.specs.Joined.{moved_axes}
use Rattle.chains.specs.Steps.{first_of, second_of}
use Rattle.chains.proofs.Moves.{moved_axes_lem}
use Rattle.frames.specs.declared.image.Image.{Image}
use Rattle.frames.specs.Exact.{Exact, exact_at, exact_offset, exact_scale, exact_through, exact_values, exact_image, first_image, second_image}
use Rattle.frames.specs.Pushing.{coordinate, spread_of, started, pushed}
use Rattle.frames.specs.Theorems.{Sound}
use Rattle.frames.proofs.Whole.{pushed_sound}
use Rattle.reader.specs.declared.functions.Distance.{Distance}
use Rattle.reader.specs.declared.functions.Distance.TheVariants.{Absolute, Incremental}
use Rattle.blocks.specs.declared.types.Ordinary.{Ordinary}
use Rattle.workpiece.specs.declared.plan.Plan.{Plan}
use Rattle.workpiece.specs.Force.{machine_only}
use Rattle.workpiece.specs.Modes.{is_incremental}
use Rattle.workpiece.specs.Moves.{opened_plan}
use Rattle.workpiece.specs.Places.{all_open, standing, placed_at, units_of}
use Rattle.workpiece.specs.Plans.{named_by, moved_in, standings, is_far, length_or, values_or, image_in, kept_image, plan_of, opening_all, reckoned}
use Rattle.workpiece.specs.Settable.{frame_number, offset_of}
use Rattle.workpiece.specs.Setup.{SetupState}
use Rattle.translator.specs.State.{State, point_of}
use Rattle.shifts.specs.Plain.{Plain, with_values, value_after, word_at, whole_of, moves, new_value, image_of, workpiece_move, word_or, machine_move}
use Rattle.shifts.proofs.Small.{three, ok_only, not_ok, by_second, itself, kept_near, kept_positive}
use Rattle.shifts.proofs.Follows.{Follows}
use Rattle.shifts.proofs.Plans.{Parts, parts, Accepted, accepted_values, standing_is, unmoved_unnamed, kept_value, whole_is}

-- the exact image depends on the three axes alone
first_below : (p : Plane) → first_of p < 3
first_below Xy = lit< tt
first_below Zx = lit< tt
first_below Yz = lit< tt

second_below : (p : Plane) → second_of p < 3
second_below Xy = lit< tt
second_below Zx = lit< tt
second_below Yz = lit< tt

step_same : (t : Step) (e g : Exact) → ((a : ℕ) → a < 3 → e a ≡ g a) → (a : ℕ) → a < 3 → exact_at t e a ≡ exact_at t g a
step_same (Offset by) e g h a l = ap (exact_offset (get_or by a None)) (h a l)
step_same (Scale by) e g h a l = ap (exact_scale (get_or by a None)) (h a l)
step_same (Mirror names) e g h a l = ap (λ (x : Frac). exact_at (Mirror names) (λ b. x) a) (h a l)
step_same (Turn plane angle) e g h a l =
    λ i. cond (eqb a (first_of plane)) (first_image angle.ticks (h (first_of plane) (first_below plane) i) (h (second_of plane) (second_below plane) i))
    (cond (eqb a (second_of plane)) (second_image angle.ticks (h (first_of plane) (first_below plane) i) (h (second_of plane) (second_below plane) i)) (h a l i))

pub through_same : (ss : List Step) (e g : Exact) → ((a : ℕ) → a < 3 → e a ≡ g a) → (a : ℕ) → a < 3 → exact_through ss e a ≡ exact_through ss g a
through_same [] e g h a l = h a l
through_same (t ∷ ss) e g h a l = step_same t (exact_through ss e) (exact_through ss g) (through_same ss e g h) a l

module _ {inc : Axis → ℕ} {q : Plain} {s : State} (f : Follows inc q s) where
  -- other values and targets, held by the machine
  pub moved_follows : (v : ℕ → Option ℤ) (e : ℕ → Frac) (vs : List (Option Length)) (image : Image) (held : Point) → ((a : ℕ) → a < 3 → v a ≡ units_of (get_or vs a None)) → ((a : ℕ) → a < 3 → Within (coordinate image a) (e a) (spread_of image a)) → ((a : ℕ) → a < 3 → 0 < (e a).den) → ((a : Axis) → 2 * nat_abs (at (point_of image) a -ℤ at held a) ≤ inc a) →
      Follows inc (with_values q v e) (record { pile = record { boxes = s.pile.boxes; increment = s.pile.increment; rounding = s.pile.rounding; held = held }; setup = record { tolerance = s.setup.tolerance; steps = s.setup.steps; records = s.setup.records; modes = s.setup.modes; force = s.setup.force; values = vs; image = image; ended = s.setup.ended } })
  moved_follows v e vs image held hv he hp hh = record { steps = f.steps; entry = f.entry; six = f.six; plane = f.plane; settable = f.settable; inch = f.inch; incremental = f.incremental; chained = f.chained; value = hv; exact = he; positive = hp; held = hh; honest = f.honest }

  round_held : (image : Image) (a : Axis) → 2 * nat_abs (at (point_of image) a -ℤ at (each s.pile.rounding (point_of image)) a) ≤ inc a
  round_held image X = f.honest X (coordinate image 0)
  round_held image Y = f.honest Y (coordinate image 1)
  round_held image Z = f.honest Z (coordinate image 2)

  pub taken_follows : (v : ℕ → Option ℤ) (e : ℕ → Frac) (vs : List (Option Length)) (image : Image) (u : Unit {0}) → reply_to s.pile (point_of image) ≡ Ok u → ((a : ℕ) → a < 3 → v a ≡ units_of (get_or vs a None)) → ((a : ℕ) → a < 3 → Within (coordinate image a) (e a) (spread_of image a)) → ((a : ℕ) → a < 3 → 0 < (e a).den) →
      Follows inc (with_values q v e) (record { pile = after_move s.pile (point_of image); setup = record { tolerance = s.setup.tolerance; steps = s.setup.steps; records = s.setup.records; modes = s.setup.modes; force = s.setup.force; values = vs; image = image; ended = s.setup.ended } })
  taken_follows v e vs image u r hv he hp =
      subst (λ (m : Meaning). Follows inc (with_values q v e) (record { pile = m; setup = record { tolerance = s.setup.tolerance; steps = s.setup.steps; records = s.setup.records; modes = s.setup.modes; force = s.setup.force; values = vs; image = image; ended = s.setup.ended } }))
      (ap (moved_end s.pile (point_of image)) (sym r))
      (moved_follows v e vs image (each s.pile.rounding (point_of image)) hv he hp (round_held image))

-- under G53
machine_near : (d : Distance) (w v : Option Length) (y : ℤ) (r : ℕ) (e : Frac) → is_incremental d ≡ false → v ≡ placed_at (standing d w None) → Within y e r → Within (cond (is_some w) (length_or v).units y) (word_or w e) (cond (is_some w) 0 r)
machine_near d None v y r e h k n = n
machine_near Absolute (Some w) v y r e h k n = subst (λ (x : Option Length). Within (length_or x).units (over w.units 1) 0) (sym (k ∙ length_made w)) (itself w.units)
machine_near Incremental (Some w) v y r e h k n = let z : ◌≡◌ {A = ℕ} 0 1 = cc in absurd (omega arith)

word_positive : (w : Option Length) (e : Frac) → 0 < e.den → 0 < (word_or w e).den
word_positive None e h = h
word_positive (Some w) e h = lit< tt

opened_parts : (r : Result Plan Fault) (p : Plan) → opened_plan r ≡ Ok p → (p0 : Plan) × (r ≡ Ok p0) × (opening_all p0 ≡ p)
opened_parts (Ok p0) p e = (p0, refl, ok_only (opening_all p0) p e)
opened_parts (Err g) p e = not_ok g p e

-- a move through the frames, after the block's selections
module _ {inc : Axis → ℕ} {q : Plain} {s : State} (f : Follows inc q s) (o : Ordinary) where
  pub record Image-so (p : Plan) : Type 0 where
    pub values : List (Option Length)
    pub new : Image
    pub accepted : Accepted (moved_axes s.setup.steps (named_by o.words)) (standings s.setup.modes.distance o.words s.setup.values) values
    pub sound : Sound s.setup.steps (moved_axes s.setup.steps (named_by o.words)) (offset_of s.setup.records (frame_number s.setup.force.settable)) (values_or values) new
    pub made_so : plan_of (moved_axes s.setup.steps (named_by o.words)) values new s.setup.image ≡ p

  chain_on : {A : Type 0} (x y : A) → cond s.setup.force.chained x y ≡ x
  chain_on x y = ap (λ (b : Bool). cond b x y) f.chained

  sound_of : (vs : List (Option Length)) (m : List Bool) (new : Image) → image_in s.setup.force s.setup.steps s.setup.records s.setup.tolerance m (values_or vs) ≡ Ok new → Sound s.setup.steps m (offset_of s.setup.records (frame_number s.setup.force.settable)) (values_or vs) new
  sound_of vs m new e =
      pushed_sound s.setup.steps m s.setup.tolerance.units (offset_of s.setup.records (frame_number s.setup.force.settable)) (values_or vs) (Ok new) (sym e ∙ chain_on (pushed s.setup.steps m s.setup.tolerance.units (offset_of s.setup.records (frame_number s.setup.force.settable)) (values_or vs)) (Ok (started (values_or vs))))

  pub image_so : (p : Plan) → reckoned s.setup.force s.setup.steps s.setup.records s.setup.tolerance s.setup.modes.distance o.words s.setup.values s.setup.image ≡ Ok p → Image-so p
  image_so p e =
      let m = moved_in s.setup.force s.setup.steps (named_by o.words) in
      let same : m ≡ moved_axes s.setup.steps (named_by o.words) = chain_on (moved_axes s.setup.steps (named_by o.words)) (named_by o.words) in
      let all = parts s.setup.force s.setup.steps s.setup.records s.setup.tolerance s.setup.modes.distance o.words s.setup.values s.setup.image p e in
      record {
        values = all.values;
        new = all.image;
        accepted = subst (λ (n : List Bool). Accepted n (standings s.setup.modes.distance o.words s.setup.values) all.values) same (accepted_values m (standings s.setup.modes.distance o.words s.setup.values) all.values all.placed_so);
        sound = subst (λ (n : List Bool). Sound s.setup.steps n (offset_of s.setup.records (frame_number s.setup.force.settable)) (values_or all.values) all.image) same (sound_of all.values m all.image all.pushed_so);
        made_so = subst (λ (n : List Bool). plan_of n all.values all.image s.setup.image ≡ p) same all.made_so;
      }

  module _ (p : Plan) (w : Image-so p) where
    standing_at_lem : (a : ℕ) → a < 3 → get_or (standings s.setup.modes.distance o.words s.setup.values) a None ≡ standing s.setup.modes.distance (get_or o.words a None) (get_or s.setup.values a None)
    standing_at_lem = three _ refl refl refl

    new_value_lem : (a : ℕ) → a < 3 → new_value q o a ≡ standing s.setup.modes.distance (get_or o.words a None) (get_or s.setup.values a None)
    new_value_lem a h = (λ i. value_after (f.incremental i) (word_at o a) (f.value a h i)) ∙ standing_is s.setup.modes.distance (get_or o.words a None) (get_or s.setup.values a None)

    far_not : (a : ℕ) → (h : a < 3) → units_of (placed_at (standing s.setup.modes.distance (get_or o.words a None) (get_or s.setup.values a None))) ≡ standing s.setup.modes.distance (get_or o.words a None) (get_or s.setup.values a None)
    far_not a h =
        kept_value (get_or (moved_axes s.setup.steps (named_by o.words)) a false) s.setup.modes.distance (get_or o.words a None) (get_or s.setup.values a None)
        (ap (λ (z : Option ℤ). is_far (get_or (moved_axes s.setup.steps (named_by o.words)) a false) z) (sym (standing_at_lem a h)) ∙ w.accepted.near a h)
        (unmoved_unnamed s.setup.steps o.words a h)

    pub value_so : (a : ℕ) → a < 3 → new_value q o a ≡ units_of (get_or w.values a None)
    value_so a h = new_value_lem a h ∙ sym (far_not a h) ∙ ap units_of (ap placed_at (sym (standing_at_lem a h)) ∙ sym (w.accepted.are a h))

    values_at : (b : ℕ) → b < 3 → over (length_or (get_or w.values b None)).units 1 ≡ exact_values (values_or w.values) b
    values_at = three _ refl refl refl

    entry_so : (a : ℕ) → a < 3 → q.entry q.settable a ≡ (get_or (offset_of s.setup.records (frame_number s.setup.force.settable)) a zero_length).units
    entry_so a h = ap (λ (n : ℕ). q.entry n a) f.settable ∙ f.entry (frame_number s.setup.force.settable) a h

    exact_so : (a : ℕ) → a < 3 → image_of q (new_value q o) a ≡ exact_image s.setup.steps (offset_of s.setup.records (frame_number s.setup.force.settable)) (values_or w.values) a
    exact_so a h =
        let through : exact_through q.steps (λ b. whole_of (new_value q o b)) a ≡ exact_through s.setup.steps (exact_values (values_or w.values)) a =
        ap (λ (ss : List Step). exact_through ss (λ b. whole_of (new_value q o b)) a) f.steps ∙
        through_same s.setup.steps (λ b. whole_of (new_value q o b)) (exact_values (values_or w.values)) (λ b k. whole_is (get_or w.values b None) (new_value q o b) (value_so b k) ∙ values_at b k) a h in
        λ i. shifted (through i) (entry_so a h i)

    moves_so : (a : ℕ) → moves q o a ≡ get_or (moved_axes s.setup.steps (named_by o.words)) a false
    moves_so a = ap (λ (ss : List Step). get_or (moved_axes ss (named_by o.words)) a false) f.steps

    kept : Image
    kept = kept_image (moved_axes s.setup.steps (named_by o.words)) w.new s.setup.image

    near_at : (a : ℕ) → a < 3 → Within (cond (get_or (moved_axes s.setup.steps (named_by o.words)) a false) (coordinate w.new a) (coordinate s.setup.image a)) (cond (moves q o a) (image_of q (new_value q o) a) (q.exact a)) (cond (get_or (moved_axes s.setup.steps (named_by o.words)) a false) (spread_of w.new a) (spread_of s.setup.image a))
    near_at a h =
        let m = get_or (moved_axes s.setup.steps (named_by o.words)) a false in
        subst (λ (b : Bool). Within (cond m (coordinate w.new a) (coordinate s.setup.image a)) (cond b (image_of q (new_value q o) a) (q.exact a)) (cond m (spread_of w.new a) (spread_of s.setup.image a))) (sym (moves_so a))
        (kept_near m (coordinate w.new a) (coordinate s.setup.image a) (spread_of w.new a) (spread_of s.setup.image a) (image_of q (new_value q o) a) (q.exact a)
        (λ e. subst (λ (x : Frac). Within (coordinate w.new a) x (spread_of w.new a)) (sym (exact_so a h)) (w.sound.near (moved_axes_lem s.setup.steps (named_by o.words)).joined a h e))
        (f.exact a h))

    pub near_so : (a : ℕ) → a < 3 → Within (coordinate (kept_image (moved_axes s.setup.steps (named_by o.words)) w.new s.setup.image) a) ((workpiece_move q o).exact a) (spread_of (kept_image (moved_axes s.setup.steps (named_by o.words)) w.new s.setup.image) a)
    near_so = three _ (near_at 0 (lit< tt)) (near_at 1 (lit< tt)) (near_at 2 (lit< tt))

    pub positive_so : (a : ℕ) → a < 3 → 0 < ((workpiece_move q o).exact a).den
    positive_so a h = kept_positive (moves q o a) (image_of q (new_value q o) a) (q.exact a) (subst (λ (x : Frac). 0 < x.den) (sym (exact_so a h)) (w.sound.positive a h)) (f.positive a h)

  -- the setup after a plan
  abbrev pub after_plan : Plan → SetupState
  after_plan p = record { tolerance = s.setup.tolerance; steps = s.setup.steps; records = s.setup.records; modes = s.setup.modes; force = s.setup.force; values = p.values; image = p.image; ended = s.setup.ended }

  pub workpiece_follows : (p : Plan) (u : Unit {0}) → reckoned s.setup.force s.setup.steps s.setup.records s.setup.tolerance s.setup.modes.distance o.words s.setup.values s.setup.image ≡ Ok p → reply_to s.pile (point_of p.image) ≡ Ok u → Follows inc (workpiece_move q o) (record { pile = after_move s.pile (point_of p.image); setup = after_plan p })
  workpiece_follows p u e r =
      let w = image_so p e in
      subst (λ (z : Plan). reply_to s.pile (point_of z.image) ≡ Ok u → Follows inc (workpiece_move q o) (record { pile = after_move s.pile (point_of z.image); setup = after_plan z })) w.made_so
      (λ k. taken_follows f (new_value q o) (workpiece_move q o).exact w.values (kept_image (moved_axes s.setup.steps (named_by o.words)) w.new s.setup.image) u k (value_so p w) (near_so p w) (positive_so p w)) r

  module _ (place : ℕ) (p : Plan) (u : Unit {0}) (e : cond (is_incremental s.setup.modes.distance) (Err (IncrementalMachine place)) (opened_plan (reckoned machine_only s.setup.steps s.setup.records s.setup.tolerance s.setup.modes.distance o.words all_open s.setup.image)) ≡ Ok p) where
    one : (is_incremental s.setup.modes.distance ≡ false) × (opened_plan (reckoned machine_only s.setup.steps s.setup.records s.setup.tolerance s.setup.modes.distance o.words all_open s.setup.image) ≡ Ok p)
    one = by_second (is_incremental s.setup.modes.distance) (IncrementalMachine place) _ p e

    two : (p0 : Plan) × (reckoned machine_only s.setup.steps s.setup.records s.setup.tolerance s.setup.modes.distance o.words all_open s.setup.image ≡ Ok p0) × (opening_all p0 ≡ p)
    two = opened_parts _ p one.1

    all : Parts machine_only s.setup.steps s.setup.records s.setup.tolerance (named_by o.words) (standings s.setup.modes.distance o.words all_open) s.setup.image two.0
    all = parts machine_only s.setup.steps s.setup.records s.setup.tolerance s.setup.modes.distance o.words all_open s.setup.image two.0 two.1

    values_so : started (values_or all.values) ≡ all.image
    values_so = ok_only (started (values_or all.values)) all.image all.pushed_so

    accepted_so : Accepted (named_by o.words) (standings s.setup.modes.distance o.words all_open) all.values
    accepted_so = accepted_values (named_by o.words) (standings s.setup.modes.distance o.words all_open) all.values all.placed_so

    word_near : (a : ℕ) → a < 3 → get_or (standings s.setup.modes.distance o.words all_open) a None ≡ standing s.setup.modes.distance (get_or o.words a None) None → Within (cond (is_some (get_or o.words a None)) (length_or (get_or all.values a None)).units (coordinate s.setup.image a)) (word_or (word_at o a) (q.exact a)) (cond (is_some (get_or o.words a None)) 0 (spread_of s.setup.image a))
    word_near a h k = machine_near s.setup.modes.distance (get_or o.words a None) (get_or all.values a None) (coordinate s.setup.image a) (spread_of s.setup.image a) (q.exact a) one.0 (accepted_so.are a h ∙ ap placed_at k) (f.exact a h)

    words_near : (a : ℕ) → a < 3 → Within (coordinate (kept_image (named_by o.words) (started (values_or all.values)) s.setup.image) a) ((machine_move q o).exact a) (spread_of (kept_image (named_by o.words) (started (values_or all.values)) s.setup.image) a)
    words_near = three _ (word_near 0 (lit< tt) refl) (word_near 1 (lit< tt) refl) (word_near 2 (lit< tt) refl)

    image_is : kept_image (named_by o.words) (started (values_or all.values)) s.setup.image ≡ p.image
    image_is = ap (λ (i : Image). kept_image (named_by o.words) i s.setup.image) values_so ∙ ap (λ (z : Plan). z.image) all.made_so ∙ ap (λ (z : Plan). z.image) two.2

    values_are : all_open ≡ p.values
    values_are = ap (λ (z : Plan). z.values) two.2

    pub machine_follows : reply_to s.pile (point_of p.image) ≡ Ok u → Follows inc (machine_move q o) (record { pile = after_move s.pile (point_of p.image); setup = after_plan p })
    machine_follows r =
        taken_follows f (λ a. None) (machine_move q o).exact p.values p.image u r
        (subst (λ (vs : List (Option Length)). (a : ℕ) → a < 3 → None ≡ units_of (get_or vs a None)) values_are (three _ refl refl refl))
        (subst (λ (i : Image). (a : ℕ) → a < 3 → Within (coordinate i a) ((machine_move q o).exact a) (spread_of i a)) image_is words_near)
        (λ a h. word_positive (word_at o a) (q.exact a) (f.positive a h))
