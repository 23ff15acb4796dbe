-- The range of what is accepted, and the axes that are not moved.
use Rattle.std.proofs.Common.{◌≡◌, ℕ, zero, suc, ◌<◌, ◌≤◌, Bool, true, false, cond, List, [], ◌∷◌, get_or, nat_abs, IfOk, Ok, Err, Result, sym, refl, ap, ◌∙◌, subst, arith, ltb-false}
use Rattle.units.specs.declared.quantity.Length.{Length}
use Rattle.units.specs.declared.fault.Fault.{Fault}
use Rattle.chains.specs.declared.step.Step.{Step}
use Rattle.frames.specs.declared.image.Image.{Image}
use Rattle.frames.specs.Pushing.{coordinate, spread_of, new_at, new_spread, through, too_wide, onward, through_steps, carried, settable, started, length_at, pushed}
use Rattle.frames.specs.Theorems.{Limited}
use Rattle.frames.proofs.Passing.{tested_same, tested_passed, through_at, through_spread, pushed_carried, carried_ranged, started_near}

abbrev Kept : List Bool → Image → Image → Type 0
Kept m x q = (a : ℕ) → a < 3 → get_or m a false ≡ false → (coordinate q a ≡ coordinate x a) × (spread_of q a ≡ spread_of x a)

carried_kept : (ss : List Step) (m : List Bool) (x : Image) → Kept m x (carried ss m x)
carried_kept [] m x a h e = (refl, refl)
carried_kept (s ∷ ss) m x a h e =
    let k = carried_kept ss m x a h e in (
      through_at m s (carried ss m x) a h ∙ ap (λ (b : Bool). cond b (new_at s a (carried ss m x)) (coordinate (carried ss m x) a)) e ∙ k.0,
      through_spread m s (carried ss m x) a h ∙ ap (λ (b : Bool). cond b (new_spread s a (carried ss m x)) (spread_of (carried ss m x) a)) e ∙ k.1,
    )

start_kept : (values : List Length) (a : ℕ) → a < 3 → (coordinate (started values) a ≡ (length_at values a).units) × (spread_of (started values) a ≡ 0)
start_kept values zero h = (refl, refl)
start_kept values (suc zero) h = (refl, refl)
start_kept values (suc (suc zero)) h = (refl, refl)
start_kept values (suc (suc (suc a))) h = absurd (omega arith)

narrow_by : (tol r : ℕ) (b : Bool) → too_wide tol b r ≡ false → (b ≡ false → r ≡ 0) → r ≤ tol
narrow_by tol r true t k = ltb-false tol r t
narrow_by tol r false t k = let z = k refl in omega arith

onward_narrow : (n : ℕ) (m : List Bool) (tol : ℕ) (s : Step) (r : Result Image Fault) (q : Image) → onward n m tol s r ≡ Ok q → (a : ℕ) → a < 3 → too_wide tol (get_or m a false) (spread_of q a) ≡ false
onward_narrow n m tol s (Err f) q e a h = absurd cc
onward_narrow n m tol s (Ok p) q e a h = subst (λ (w : Image). too_wide tol (get_or m a false) (spread_of w a) ≡ false) (tested_same n m tol (through m s p) q e) ((tested_passed n m tol (through m s p) q e).small a h)

pub pushed_limited : (ss : List Step) (m : List Bool) (tol : ℕ) (o values : List Length) (r : Result Image Fault) → r ≡ pushed ss m tol o values → IfOk r (Limited m tol values)
pushed_limited ss m tol o values (Err f) e = tt
pushed_limited ss m tol o values (Ok q) e =
    let c = pushed_carried ss m tol o values q (sym e) in
    let kept : (a : ℕ) → a < 3 → get_or m a false ≡ false → (coordinate q a ≡ (length_at values a).units) × (spread_of q a ≡ 0) =
    λ a h f. subst (λ (w : Image). (coordinate w a ≡ (length_at values a).units) × (spread_of w a ≡ 0)) (sym c.same)
    (let k = carried_kept (settable o ∷ ss) m (started values) a h f in let s = start_kept values a h in (k.0 ∙ s.0, k.1 ∙ s.1)) in
    record {
      ranged = subst (λ (w : Image). (a : ℕ) → a < 3 → nat_abs (coordinate w a) ≤ 2000000000) (sym c.same) (carried_ranged (settable o ∷ ss) m (started values) c.ranged (started_near values));
      tolerated = λ a h. narrow_by tol (spread_of q a) (get_or m a false) (onward_narrow 9 m tol (settable o) (through_steps ss 1 m tol (started values)) q (sym e) a h) (λ f. (kept a h f).1);
      unmoved = kept;
    }
