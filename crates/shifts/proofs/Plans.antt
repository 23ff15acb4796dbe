-- What an accepted plan is made of.
use Rattle.std.proofs.Common.{◌≡◌, ℕ, ◌<◌, Bool, true, false, ◌&&◌, ltb, List, get_or, ℤ, nat_abs, is_some, Some, None, Ok, Err, Option, Result, sym, refl, ap, ◌∙◌, subst, arith, ltb-false}
use Rattle.units.specs.declared.axis.Axis.{Axis}
use Rattle.units.specs.declared.axis.Axis.TheVariants.{X, Y, Z}
use Rattle.units.specs.declared.fault.Fault.{Fault}
use Rattle.units.specs.declared.fault.Fault.TheVariants.{Open, Beyond}
use Rattle.units.specs.declared.quantity.Length.{Length}
use Rattle.units.specs.declared.quantity.Tolerance.{Tolerance}
use Rattle.units.specs.Quantities.{length_of}
use Rattle.units.proofs.Ranged.{length_made}
use Rattle.fractions.specs.Fractions.{over}
use Rattle.chains.specs.declared.step.Step.{Step}
use Rattle.chains.specs.Joined.{moved_axes, by_name}
use Rattle.chains.proofs.Moves.{moved_axes_lem}
use Rattle.frames.specs.declared.image.Image.{Image}
use Rattle.reader.specs.declared.functions.Distance.{Distance}
use Rattle.reader.specs.declared.functions.Distance.TheVariants.{Absolute, Incremental}
use Rattle.workpiece.specs.declared.force.InForce.{InForce}
use Rattle.workpiece.specs.declared.plan.Plan.{Plan}
use Rattle.workpiece.specs.declared.settable.SettableFrame.{SettableFrame}
use Rattle.workpiece.specs.Modes.{is_incremental}
use Rattle.workpiece.specs.Places.{standing, placed_at, units_of}
use Rattle.workpiece.specs.Plans.{named_by, moved_in, standings, is_far, first_of, unless_axis, open_axis, far_axis, placed, length_or, values_or, image_in, plan_of, on_image, on_placed, reckoned}
use Rattle.shifts.specs.Plain.{value_after, whole_of}
use Rattle.shifts.proofs.Small.{three, ok_only, not_ok, not_some}

-- a plan comes from values and an image
pub record Parts (f : InForce) (steps : List Step) (fs : List SettableFrame) (tol : Tolerance) (m : List Bool) (at : List (Option ℤ)) (old : Image) (p : Plan) : Type 0 where
  pub values : List (Option Length)
  pub image : Image
  pub placed_so : placed m at ≡ Ok values
  pub pushed_so : image_in f steps fs tol m (values_or values) ≡ Ok image
  pub made_so : plan_of m values image old ≡ p

image_parts : (f : InForce) (steps : List Step) (fs : List SettableFrame) (tol : Tolerance) (m : List Bool) (at : List (Option ℤ)) (old : Image) (p : Plan) (vs : List (Option Length)) (r : Result Image Fault) → placed m at ≡ Ok vs → image_in f steps fs tol m (values_or vs) ≡ r → on_image m vs old r ≡ Ok p → Parts f steps fs tol m at old p
image_parts f steps fs tol m at old p vs (Ok new) h k e = record { values = vs; image = new; placed_so = h; pushed_so = k; made_so = ok_only (plan_of m vs new old) p e }
image_parts f steps fs tol m at old p vs (Err g) h k e = not_ok g p e

placed_parts : (f : InForce) (steps : List Step) (fs : List SettableFrame) (tol : Tolerance) (m : List Bool) (at : List (Option ℤ)) (old : Image) (p : Plan) (r : Result (List (Option Length)) Fault) → placed m at ≡ r → on_placed f steps fs tol m old r ≡ Ok p → Parts f steps fs tol m at old p
placed_parts f steps fs tol m at old p (Ok vs) h e = image_parts f steps fs tol m at old p vs (image_in f steps fs tol m (values_or vs)) h refl e
placed_parts f steps fs tol m at old p (Err g) h e = not_ok g p e

pub parts : (f : InForce) (steps : List Step) (fs : List SettableFrame) (tol : Tolerance) (d : Distance) (ws vs : List (Option Length)) (old : Image) (p : Plan) → reckoned f steps fs tol d ws vs old ≡ Ok p → Parts f steps fs tol (moved_in f steps (named_by ws)) (standings d ws vs) old p
parts f steps fs tol d ws vs old p e = placed_parts f steps fs tol (moved_in f steps (named_by ws)) (standings d ws vs) old p (placed (moved_in f steps (named_by ws)) (standings d ws vs)) refl e

-- values that are accepted: no moved axis is out of range
passed_axis : {A : Type 0} (o : Option Axis) (f : Axis → Fault) (r : Result A Fault) (x : A) → unless_axis o f r ≡ Ok x → (o ≡ None) × (r ≡ Ok x)
passed_axis (Some a) f r x e = not_ok (f a) x e
passed_axis None f r x e = (refl, e)

none_of : (x y z : Bool) → first_of x y z ≡ None → (x ≡ false) × (y ≡ false) × (z ≡ false)
none_of true y z e = not_some X (sym e)
none_of false true z e = not_some Y (sym e)
none_of false false true e = not_some Z (sym e)
none_of false false false e = (refl, refl, refl)

pub record Accepted (m : List Bool) (at : List (Option ℤ)) (vs : List (Option Length)) : Type 0 where
  pub near : (a : ℕ) → a < 3 → is_far (get_or m a false) (get_or at a None) ≡ false
  pub are : (a : ℕ) → a < 3 → get_or vs a None ≡ placed_at (get_or at a None)

pub accepted_values : (m : List Bool) (at : List (Option ℤ)) (vs : List (Option Length)) → placed m at ≡ Ok vs → Accepted m at vs
accepted_values m at vs e =
    let first = passed_axis (open_axis m at) (λ a. Open 0 a) _ vs e in
    let second = passed_axis (far_axis m at) (λ a. Beyond 0 a 0) _ vs first.1 in
    let none = none_of _ _ _ second.0 in
    let same = ok_only _ vs second.1 in
    record {
      near = three _ none.0 none.1 none.2;
      are = three _ (ap (λ (l : List (Option Length)). get_or l 0 None) (sym same)) (ap (λ (l : List (Option Length)). get_or l 1 None) (sym same)) (ap (λ (l : List (Option Length)). get_or l 2 None) (sym same));
    }

-- what stands is what the plain shift says
pub standing_is : (d : Distance) (w v : Option Length) → value_after (is_incremental d) w (units_of v) ≡ standing d w v
standing_is d None v = refl
standing_is Absolute (Some w) v = refl
standing_is Incremental (Some w) None = refl
standing_is Incremental (Some w) (Some v) = refl

-- a named axis moves
named_at : (ws : List (Option Length)) (a : ℕ) → a < 3 → get_or (named_by ws) a false ≡ is_some (get_or ws a None)
named_at ws = three _ refl refl refl

unnamed : (o : Option Length) → is_some o ≡ false → o ≡ None
unnamed None e = refl
unnamed (Some w) e = let z : ◌≡◌ {A = ℕ} 0 1 = cc in absurd (omega arith)

bool_not : (b c : Bool) → (b ≡ true → c ≡ true) → c ≡ false → b ≡ false
bool_not true c h e = let t = h refl in let z : ◌≡◌ {A = Bool} true false = sym t ∙ e in let y : ◌≡◌ {A = ℕ} 0 1 = cc in absurd (omega arith)
bool_not false c h e = refl

pub unmoved_unnamed : (steps : List Step) (ws : List (Option Length)) (a : ℕ) → a < 3 → get_or (moved_axes steps (named_by ws)) a false ≡ false → get_or ws a None ≡ None
unmoved_unnamed steps ws a h e =
    unnamed (get_or ws a None) (bool_not (is_some (get_or ws a None)) (get_or (moved_axes steps (named_by ws)) a false)
    (λ n. (moved_axes_lem steps (named_by ws)).every a h (by_name a (named_at ws a h ∙ n))) e)

-- the value that is kept is the one that stands
kept_far : (z : ℤ) → (true && ltb 999999999 (nat_abs z)) ≡ false → units_of (length_of z) ≡ Some z
kept_far z e = let m = ltb-false 999999999 (nat_abs z) e in ap units_of (length_made (record { units = z; most = m }))

kept_old : (v : Option Length) → units_of (placed_at (units_of v)) ≡ units_of v
kept_old None = refl
kept_old (Some l) = ap units_of (length_made l)

kept_moved : (at : Option ℤ) → is_far true at ≡ false → units_of (placed_at at) ≡ at
kept_moved None e = refl
kept_moved (Some z) e = kept_far z e

pub kept_value : (b : Bool) (d : Distance) (w v : Option Length) → is_far b (standing d w v) ≡ false → (b ≡ false → w ≡ None) → units_of (placed_at (standing d w v)) ≡ standing d w v
kept_value true d w v far h = kept_moved (standing d w v) far
kept_value false d w v far h = subst (λ (o : Option Length). units_of (placed_at (standing d o v)) ≡ standing d o v) (sym (h refl)) (kept_old v)

-- the number that is pushed
pub whole_is : (o : Option Length) (z : Option ℤ) → z ≡ units_of o → whole_of z ≡ over (length_or o).units 1
whole_is None z e = ap whole_of e
whole_is (Some l) z e = ap whole_of e
