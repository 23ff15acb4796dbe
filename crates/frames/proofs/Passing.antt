-- What the tests let through, and the range that follows.
use Rattle.std.proofs.Common.{◌≡◌, ℕ, zero, suc, ◌+◌, ◌-◌, ◌<◌, ◌≤◌, Bool, true, false, cond, List, [], ◌∷◌, length, get_or, take, drop, ℤ, nat_abs, Some, None, Ok, Err, Option, Result, sym, refl, ap, ◌∙◌, subst, ap₂, le_trans, arith, lit≤, length-take-le, drop-cons, get_or-take, ltb-false}
use Rattle.units.specs.declared.axis.Axis.{Axis}
use Rattle.units.specs.declared.axis.Axis.TheVariants.{X, Y, Z}
use Rattle.units.specs.declared.quantity.Length.{Length}
use Rattle.units.specs.declared.fault.Fault.{Fault}
use Rattle.units.specs.declared.fault.Fault.TheVariants.{Beyond, Spread}
use Rattle.chains.specs.declared.step.Step.{Step}
use Rattle.chains.specs.declared.step.Step.TheVariants.{Offset}
use Rattle.frames.specs.declared.image.Image.{Image}
use Rattle.frames.specs.declared.tested.Stepped.{Stepped}
use Rattle.frames.specs.Pushing.{first_axis, moved_at, moved_spread, through, too_far, too_wide, is_beyond, is_wide, or_else, tested, onward, through_steps, pushed, on_all, settable, started, length_at, carried, coordinate, spread_of, new_at}
use Rattle.frames.specs.Theorems.{AllInRange}

pub or_else_ok : (o : Option Axis) (f : Axis → Fault) (r : Result Image Fault) (q : Image) → or_else o f r ≡ Ok q → (o ≡ None) × (r ≡ Ok q)
or_else_ok None f r q e = (refl, e)
or_else_ok (Some a) f r q e = absurd cc

none_of : (x y z : Bool) → cond {A = Option Axis} x (Some X) (cond y (Some Y) (cond z (Some Z) None)) ≡ None → (x ≡ false) × (y ≡ false) × (z ≡ false)
none_of true y z e = absurd cc
none_of false true z e = absurd cc
none_of false false true e = absurd cc
none_of false false false e = (refl, refl, refl)

pub none_found : (f : ℕ → Bool) → first_axis f ≡ None → (a : ℕ) → a < 3 → f a ≡ false
none_found f e zero h = (none_of (f 0) (f 1) (f 2) e).0
none_found f e (suc zero) h = (none_of (f 0) (f 1) (f 2) e).1
none_found f e (suc (suc zero)) h = (none_of (f 0) (f 1) (f 2) e).2
none_found f e (suc (suc (suc a))) h = absurd (omega arith)

-- what passes is the point itself, and no test is true of it
pub record Passed (m : List Bool) (tol : ℕ) (p : Image) : Type 0 where
  pub near : (a : ℕ) → a < 3 → is_beyond m p a ≡ false
  pub small : (a : ℕ) → a < 3 → is_wide m tol p a ≡ false

pub tested_same : (n : ℕ) (m : List Bool) (tol : ℕ) (p q : Image) → tested n m tol p ≡ Ok q → p ≡ q
tested_same n m tol p q e =
    let e1 = (or_else_ok (first_axis (is_beyond m p)) (λ a. Beyond 0 a n) (or_else (first_axis (is_wide m tol p)) (λ a. Spread 0 a n) (Ok p)) q e).1 in
    let e2 = (or_else_ok (first_axis (is_wide m tol p)) (λ a. Spread 0 a n) (Ok p) q e1).1 in
    cc

pub tested_passed : (n : ℕ) (m : List Bool) (tol : ℕ) (p q : Image) → tested n m tol p ≡ Ok q → Passed m tol p
tested_passed n m tol p q e =
    let e1 = or_else_ok (first_axis (is_beyond m p)) (λ a. Beyond 0 a n) (or_else (first_axis (is_wide m tol p)) (λ a. Spread 0 a n) (Ok p)) q e in
    let e2 = or_else_ok (first_axis (is_wide m tol p)) (λ a. Spread 0 a n) (Ok p) q e1.1 in
    record { near = none_found (is_beyond m p) e1.0; small = none_found (is_wide m tol p) e2.0 }

pub through_at : (m : List Bool) (s : Step) (p : Image) (a : ℕ) → a < 3 → coordinate (through m s p) a ≡ moved_at m s p a
through_at m s p zero h = refl
through_at m s p (suc zero) h = refl
through_at m s p (suc (suc zero)) h = refl
through_at m s p (suc (suc (suc a))) h = absurd (omega arith)

pub through_spread : (m : List Bool) (s : Step) (p : Image) (a : ℕ) → a < 3 → spread_of (through m s p) a ≡ moved_spread m s p a
through_spread m s p zero h = refl
through_spread m s p (suc zero) h = refl
through_spread m s p (suc (suc zero)) h = refl
through_spread m s p (suc (suc (suc a))) h = absurd (omega arith)

-- a moved axis has passed the test, another is as it was
near_by : (b : Bool) (z : ℤ) → too_far b z ≡ false → (b ≡ false → nat_abs z ≤ 2000000000) → nat_abs z ≤ 2000000000
near_by true z t h = ltb-false 2000000000 (nat_abs z) t
near_by false z t h = h refl

small_by : (tol : ℕ) (b : Bool) (z : ℕ) → tol ≤ 100000 → too_wide tol b z ≡ false → (b ≡ false → z ≤ 100000) → z ≤ 100000
small_by tol true z l t h = le_trans (ltb-false tol z t) l
small_by tol false z l t h = h refl

pub passed_near : (m : List Bool) (p : Image) → None ≡ first_axis (is_beyond m p) → ((a : ℕ) → a < 3 → get_or m a false ≡ false → nat_abs (coordinate p a) ≤ 2000000000) → (a : ℕ) → a < 3 → nat_abs (coordinate p a) ≤ 2000000000
passed_near m p e h a l = near_by (get_or m a false) (coordinate p a) (none_found (is_beyond m p) (sym e) a l) (h a l)

pub passed_small : (m : List Bool) (tol : ℕ) (p : Image) → tol ≤ 100000 → None ≡ first_axis (is_wide m tol p) → ((a : ℕ) → a < 3 → get_or m a false ≡ false → spread_of p a ≤ 100000) → (a : ℕ) → a < 3 → spread_of p a ≤ 100000
passed_small m tol p t e h a l = small_by tol (get_or m a false) (spread_of p a) t (none_found (is_wide m tol p) (sym e) a l) (h a l)

-- the loop over the steps
pub push_one : (ss : List Step) (i : ℕ) (m : List Bool) (tol : ℕ) (x p : Image) (d : Step) → 0 < i → i ≤ length ss → through_steps (drop i ss) (i + 1) m tol x ≡ Ok p →
    through_steps (drop (i - 1) ss) (i - 1 + 1) m tol x ≡ tested (i - 1 + 1) m tol (through m (get_or ss (i - 1) d) p)
push_one ss i m tol x p d some within so =
    let lt : i - 1 < length ss = omega arith in
    let back : suc (i - 1) ≡ i = omega arith in
    let next : suc (i - 1 + 1) ≡ i + 1 = omega arith in
    ap (λ (l : List Step). through_steps l (i - 1 + 1) m tol x) (drop-cons ss (i - 1) d lt)
    ∙ ap₂ (λ (k j : ℕ). onward (i - 1 + 1) m tol (get_or ss (i - 1) d) (through_steps (drop k ss) j m tol x)) back next
    ∙ ap (onward (i - 1 + 1) m tol (get_or ss (i - 1) d)) so

pub push_refused : (ss : List Step) (i n : ℕ) (m : List Bool) (tol : ℕ) (x : Image) (f : Fault) → through_steps (drop i ss) (i + n) m tol x ≡ Err f → through_steps ss n m tol x ≡ Err f
push_refused [] zero n m tol x f h = h
push_refused [] (suc i) n m tol x f h = h
push_refused (s ∷ ss) zero n m tol x f h = let e : 0 + n ≡ n = omega arith in subst (λ (k : ℕ). through_steps (s ∷ ss) k m tol x ≡ Err f) e h
push_refused (s ∷ ss) (suc i) n m tol x f h =
    let e : suc i + n ≡ i + suc n = omega arith in
    ap (onward n m tol s) (push_refused ss i (suc n) m tol x f (subst (λ (k : ℕ). through_steps (drop i ss) k m tol x ≡ Err f) e h))

pub push_none : (ss : List Step) (n : ℕ) (m : List Bool) (tol : ℕ) (x : Image) → through_steps (drop (length ss) ss) n m tol x ≡ Ok x
push_none [] n m tol x = refl
push_none (s ∷ ss) n m tol x = push_none ss n m tol x

-- the same for the first k of the places
module _ (steps : List Step) (k : ℕ) (m : List Bool) (tol : ℕ) (x : Image) (h : k ≤ length steps) where
  pub push_start : (n : ℕ) → through_steps (drop k (take k steps)) n m tol x ≡ Ok x
  push_start n = subst (λ (j : ℕ). through_steps (drop j (take k steps)) n m tol x ≡ Ok x) (length-take-le k steps h) (push_none (take k steps) n m tol x)

  pub push_next : (i : ℕ) (p : Image) (d : Step) → 0 < i → i ≤ k → through_steps (drop i (take k steps)) (i + 1) m tol x ≡ Ok p →
      through_steps (drop (i - 1) (take k steps)) (i - 1 + 1) m tol x ≡ tested (i - 1 + 1) m tol (through m (get_or steps (i - 1) d) p)
  push_next i p d some within so =
      let l : i ≤ length (take k steps) = rw (length-take-le k steps h) within in
      let g : i - 1 < k = omega arith in
      push_one (take k steps) i m tol x p d some l so ∙ ap (λ (s : Step). tested (i - 1 + 1) m tol (through m s p)) (get_or-take k steps (i - 1) d g)

pub push_end : (ss : List Step) (i : ℕ) (m : List Bool) (tol : ℕ) (x p : Image) → i ≤ 0 → through_steps (drop i ss) (i + 1) m tol x ≡ Ok p → through_steps ss 1 m tol x ≡ Ok p
push_end ss zero m tol x p h e = e
push_end ss (suc i) m tol x p h e = absurd (omega arith)

-- what is accepted is the point carried through with no test, in range after each step
moved_far : (b : Bool) (x : ℤ) → too_far b x ≡ false → b ≡ true → nat_abs x ≤ 2000000000
moved_far true x t e = ltb-false 2000000000 (nat_abs x) t
moved_far false x t e = absurd cc

pub record Carried (ss : List Step) (m : List Bool) (x q : Image) : Type 0 where
  pub same : q ≡ carried ss m x
  pub ranged : AllInRange ss m x

onward_carried : (n : ℕ) (m : List Bool) (tol : ℕ) (s : Step) (ss : List Step) (r : Result Image Fault) (x q : Image) → ((p : Image) → r ≡ Ok p → Carried ss m x p) → onward n m tol s r ≡ Ok q → Carried (s ∷ ss) m x q
onward_carried n m tol s ss (Err f) x q b e = absurd cc
onward_carried n m tol s ss (Ok p) x q b e =
    let c = b p refl in
    let t = tested_passed n m tol (through m s p) q e in
    let z = ap (through m s) c.same in
    record {
      same = sym (tested_same n m tol (through m s p) q e) ∙ z;
      ranged = (c.ranged, λ a h k. subst (λ (w : Image). nat_abs (coordinate w a) ≤ 2000000000) z (moved_far (get_or m a false) (coordinate (through m s p) a) (t.near a h) k));
    }

pub steps_carried : (ss : List Step) (n : ℕ) (m : List Bool) (tol : ℕ) (x q : Image) → through_steps ss n m tol x ≡ Ok q → Carried ss m x q
steps_carried [] n m tol x q e = let z : x ≡ q = cc in record { same = sym z; ranged = tt }
steps_carried (s ∷ ss) n m tol x q e = onward_carried n m tol s ss (through_steps ss (suc n) m tol x) x q (λ p h. steps_carried ss (suc n) m tol x p h) e

pub pushed_carried : (ss : List Step) (m : List Bool) (tol : ℕ) (o values : List Length) (q : Image) → pushed ss m tol o values ≡ Ok q → Carried (settable o ∷ ss) m (started values) q
pushed_carried ss m tol o values q e = onward_carried 9 m tol (settable o) ss (through_steps ss 1 m tol (started values)) (started values) q (λ p h. steps_carried ss 1 m tol (started values) p h) e

-- every coordinate stays in range, moved or not
abbrev pub Ranged : Image → Type 0
Ranged p = (a : ℕ) → a < 3 → nat_abs (coordinate p a) ≤ 2000000000

ranged_by : (b : Bool) (x y z : ℤ) → z ≡ cond b x y → (b ≡ true → nat_abs z ≤ 2000000000) → nat_abs y ≤ 2000000000 → nat_abs z ≤ 2000000000
ranged_by true x y z e t h = t refl
ranged_by false x y z e t h = subst (λ (w : ℤ). nat_abs w ≤ 2000000000) (sym e) h

pub carried_ranged : (ss : List Step) (m : List Bool) (x : Image) → AllInRange ss m x → Ranged x → Ranged (carried ss m x)
carried_ranged [] m x r h a l = h a l
carried_ranged (s ∷ ss) m x r h a l =
    ranged_by (get_or m a false) (new_at s a (carried ss m x)) (coordinate (carried ss m x) a) (coordinate (carried (s ∷ ss) m x) a) (through_at m s (carried ss m x) a l) (r.1 a l) (carried_ranged ss m x r.0 h a l)

-- at the start all is in range
length_ranged : (l : Length) → nat_abs l.units ≤ 2000000000
length_ranged l = le_trans l.most (lit≤ tt)

pub started_near : (values : List Length) (a : ℕ) → a < 3 → nat_abs (coordinate (started values) a) ≤ 2000000000
started_near values zero h = length_ranged (length_at values 0)
started_near values (suc zero) h = length_ranged (length_at values 1)
started_near values (suc (suc zero)) h = length_ranged (length_at values 2)
started_near values (suc (suc (suc a))) h = absurd (omega arith)

pub started_small : (values : List Length) (a : ℕ) → a < 3 → spread_of (started values) a ≤ 100000
started_small values zero h = lit≤ tt
started_small values (suc zero) h = lit≤ tt
started_small values (suc (suc zero)) h = lit≤ tt
started_small values (suc (suc (suc a))) h = absurd (omega arith)

-- the loop of a push, from its invariant; q is the image before the tests
module _ (steps : List Step) (k : ℕ) (m : List Bool) (tol : ℕ) (o values : List Length) (x : Image) (h : k ≤ length steps) (ex : x ≡ started values) (i : ℕ) (p : Image) (so : through_steps (drop i (take k steps)) (i + 1) m tol x ≡ Ok p) (q : Stepped) (em : q.moved ≡ m) where
  onward_last : (r : Result Image Fault) → through_steps (take k steps) 1 m tol x ≡ r → onward 9 m tol (settable o) r ≡ pushed (take k steps) m tol o values
  onward_last r e = ap (onward 9 m tol (settable o)) (sym e ∙ ap (through_steps (take k steps) 1 m tol) ex)

  module _ (some : 0 < i) (within : i ≤ k) (d : Step) (eq : q.image ≡ through m (get_or steps (i - 1) d) p) (n : ℕ) (en : n ≡ i - 1 + 1) where
    -- the step is told by its number n
    numbered : (r : Result Image Fault) → r ≡ tested n q.moved tol q.image → through_steps (drop (i - 1) (take k steps)) (i - 1 + 1) m tol x ≡ r
    numbered r e =
        push_next steps k m tol x h i p d some within so
        ∙ sym (e ∙ ap₂ (λ (b : List Bool) (j : ℕ). tested j b tol q.image) em en ∙ ap (tested (i - 1 + 1) m tol) eq)

    pub loop_next : (r : Image) → Ok r ≡ tested n q.moved tol q.image → through_steps (drop (i - 1) (take k steps)) (i - 1 + 1) m tol x ≡ Ok r
    loop_next r e = numbered (Ok r) e

    pub loop_refused : (f : Fault) → Err f ≡ tested n q.moved tol q.image → Err f ≡ pushed (take k steps) m tol o values
    loop_refused f e = onward_last (Err f) (push_refused (take k steps) (i - 1) 1 m tol x f (numbered (Err f) e))

  pub loop_ended : i ≤ 0 → (b : List (Option Length)) → b ≡ on_all o → q.image ≡ through m (Offset b) p → (r : Result Image Fault) → r ≡ tested 9 q.moved tol q.image → r ≡ pushed (take k steps) m tol o values
  loop_ended z b eb eq r e =
      e ∙ ap₂ (λ (a : List Bool) (w : Image). tested 9 a tol w) em eq ∙ ap (λ (t : List (Option Length)). tested 9 m tol (through m (Offset t) p)) eb ∙ onward_last (Ok p) (push_end (take k steps) i m tol x p z so)
