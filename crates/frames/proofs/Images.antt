-- Nearness over the chain, by induction over the steps.
use Rattle.std.proofs.Common.{◌≡◌, ℕ, zero, suc, ◌<◌, Bool, true, false, cond, eqb, List, [], ◌∷◌, get_or, ℤ, Some, None, Option, sym, refl, ap, ◌∙◌, subst, subst₂, inl, inr, mul-pos, arith, lit<, eqb-true}
use borrow.Author.Differences.{ints}
use Rattle.units.specs.declared.axis.Plane.{Plane}
use Rattle.units.specs.declared.axis.Plane.TheVariants.{Xy, Zx, Yz}
use Rattle.units.specs.declared.quantity.Length.{Length}
use Rattle.units.specs.declared.quantity.Factor.{Factor}
use Rattle.fractions.specs.Fractions.{Frac, Within, over}
use Rattle.turns.specs.Reference.{whole}
use Rattle.chains.specs.declared.step.Step.{Step}
use Rattle.chains.specs.declared.step.Step.TheVariants.{Offset, Scale, Mirror, Turn}
use Rattle.chains.specs.Steps.{first_of, second_of, JoinsAxes}
use Rattle.chains.specs.Joined.{AllJoined}
use Rattle.frames.specs.declared.image.Image.{Image}
use Rattle.frames.specs.Pushing.{coordinate, spread_of, new_at, new_spread, through, carried, settable, started, length_at}
use Rattle.frames.specs.Exact.{Exact, exact_at, exact_through, exact_image, exact_offset, exact_scale, exact_values, first_image, second_image}
use Rattle.frames.specs.Theorems.{Near, Positive}
use Rattle.frames.proofs.Nearness.{offset_near, scale_near, mirror_near}
use Rattle.frames.proofs.Turning.{turned_first_near, turned_second_near}
use Rattle.frames.proofs.Passing.{through_at, through_spread}

pub first_below : (plane : Plane) → first_of plane < 3
first_below Xy = lit< tt
first_below Zx = lit< tt
first_below Yz = lit< tt

pub second_below : (plane : Plane) → second_of plane < 3
second_below Xy = lit< tt
second_below Zx = lit< tt
second_below Yz = lit< tt

-- a turn, at any axis: u and v say whether it is the first or the second
turn_at : (u v : Bool) (X Y Z : ℤ) (R S T : ℕ) (e f g : Frac) → (u ≡ true → Within X e R) → (v ≡ true → Within Y f S) → Within Z g T →
    Within (cond u X (cond v Y Z)) (cond u e (cond v f g)) (cond u R (cond v S T))
turn_at true v X Y Z R S T e f g a b c = a refl
turn_at false true X Y Z R S T e f g a b c = b refl
turn_at false false X Y Z R S T e f g a b c = c

-- with one of two axes that the step joins the other is moved
abbrev pub StepJoined : List Bool → Step → Type 0
StepJoined m s = (a b : ℕ) → JoinsAxes s a b → get_or m a false ≡ true → get_or m b false ≡ true

-- the axis a of a step
step_near : (m : List Bool) (s : Step) (p : Image) (e : Exact) → StepJoined m s → Near m p e → (a : ℕ) → a < 3 → get_or m a false ≡ true → Within (new_at s a p) (exact_at s e a) (new_spread s a p)
step_near m (Offset by) p e j n a h t = offset_near (get_or by a None) (coordinate p a) (e a) (spread_of p a) (n a h t)
step_near m (Scale by) p e j n a h t = scale_near (get_or by a None) (coordinate p a) (e a) (spread_of p a) (n a h t)
step_near m (Mirror named) p e j n a h t = mirror_near (get_or named a false) (coordinate p a) (e a) (spread_of p a) (n a h t)
step_near m (Turn plane angle) p e j n a h t =
    turn_at (eqb a (first_of plane)) (eqb a (second_of plane)) _ _ (coordinate p a) _ _ (spread_of p a) _ _ (e a)
    (λ u. let k : get_or m (first_of plane) false ≡ true = subst (λ (z : ℕ). get_or m z false ≡ true) (eqb-true a (first_of plane) u) t in
    turned_first_near angle.ticks (coordinate p (first_of plane)) (coordinate p (second_of plane)) (e (first_of plane)) (e (second_of plane)) (spread_of p (first_of plane)) (spread_of p (second_of plane)) angle.below
    (n (first_of plane) (first_below plane) k) (n (second_of plane) (second_below plane) (j (first_of plane) (second_of plane) (inl (refl, refl)) k)))
    (λ v. let k : get_or m (second_of plane) false ≡ true = subst (λ (z : ℕ). get_or m z false ≡ true) (eqb-true a (second_of plane) v) t in
    turned_second_near angle.ticks (coordinate p (first_of plane)) (coordinate p (second_of plane)) (e (first_of plane)) (e (second_of plane)) (spread_of p (first_of plane)) (spread_of p (second_of plane)) angle.below
    (n (first_of plane) (first_below plane) (j (second_of plane) (first_of plane) (inr (refl, refl)) k)) (n (second_of plane) (second_below plane) k))
    (n a h t)

pub through_near : (m : List Bool) (s : Step) (p : Image) (e : Exact) → StepJoined m s → Near m p e → Near m (through m s p) (exact_at s e)
through_near m s p e j n a h t =
    subst₂ (λ (x : ℤ) (r : ℕ). Within x (exact_at s e a) r)
    (sym (through_at m s p a h ∙ ap (λ (b : Bool). cond b (new_at s a p) (coordinate p a)) t))
    (sym (through_spread m s p a h ∙ ap (λ (b : Bool). cond b (new_spread s a p) (spread_of p a)) t))
    (step_near m s p e j n a h t)

pub carried_near : (ss : List Step) (m : List Bool) (x : Image) (e : Exact) → AllJoined m ss → Near m x e → Near m (carried ss m x) (exact_through ss e)
carried_near [] m x e j n = n
carried_near (s ∷ ss) m x e j n = through_near m s (carried ss m x) (exact_through ss e) (λ a b w. j a b (inl w)) (carried_near ss m x e (λ a b w. j a b (inr w)) n)

-- at the start nothing is off
at_start : (x : ℤ) (r : ℕ) → Within x (over x 1) r
at_start x r = omega (arith, ints)

values_near : (values : List Length) (m : List Bool) → Near m (started values) (exact_values values)
values_near values m zero h t = at_start (length_at values 0).units 0
values_near values m (suc zero) h t = at_start (length_at values 1).units 0
values_near values m (suc (suc zero)) h t = at_start (length_at values 2).units 0
values_near values m (suc (suc (suc a))) h t = absurd (omega arith)

-- the settable offset as a step
settable_exact : (o : List Length) (e : Exact) (values : List Length) (ss : List Step) (a : ℕ) → a < 3 → exact_at (settable o) (exact_through ss (exact_values values)) a ≡ exact_image ss o values a
settable_exact o e values ss zero h = refl
settable_exact o e values ss (suc zero) h = refl
settable_exact o e values ss (suc (suc zero)) h = refl
settable_exact o e values ss (suc (suc (suc a))) h = absurd (omega arith)

settable_joined : (m : List Bool) (o : List Length) (ss : List Step) → AllJoined m ss → AllJoined m (settable o ∷ ss)
settable_joined m o ss j a b (inl w) t = absurd w
settable_joined m o ss j a b (inr w) t = j a b w t

pub image_near : (ss : List Step) (m : List Bool) (o values : List Length) → AllJoined m ss → Near m (carried (settable o ∷ ss) m (started values)) (exact_image ss o values)
image_near ss m o values j a h t =
    subst (λ (x : Frac). Within (coordinate (carried (settable o ∷ ss) m (started values)) a) x (spread_of (carried (settable o ∷ ss) m (started values)) a))
    (settable_exact o (exact_values values) values ss a h)
    (carried_near (settable o ∷ ss) m (started values) (exact_values values) (settable_joined m o ss j) (values_near values m) a h t)

-- exact denominators are above 0
whole_some : 0 < whole
whole_some = lit< tt

den_at : (u v : Bool) (e f g : Frac) → 0 < e.den → 0 < f.den → 0 < g.den → 0 < (cond u e (cond v f g)).den
den_at true v e f g a b c = a
den_at false true e f g a b c = b
den_at false false e f g a b c = c

offset_den : (by : Option Length) (x : Frac) → 0 < x.den → 0 < (exact_offset by x).den
offset_den None x h = h
offset_den (Some o) x h = h

scale_den : (by : Option Factor) (x : Frac) → 0 < x.den → 0 < (exact_scale by x).den
scale_den None x h = h
scale_den (Some f) x h = mul-pos (lit< tt) h

mirror_den : (b : Bool) (x y : Frac) → 0 < x.den → 0 < y.den → 0 < (cond b x y).den
mirror_den true x y h g = h
mirror_den false x y h g = g

pub step_positive : (s : Step) (e : Exact) → Positive e → Positive (exact_at s e)
step_positive (Offset by) e h a l = offset_den (get_or by a None) (e a) (h a l)
step_positive (Scale by) e h a l = scale_den (get_or by a None) (e a) (h a l)
step_positive (Mirror named) e h a l = mirror_den (get_or named a false) _ (e a) (h a l) (h a l)
step_positive (Turn plane angle) e h a l =
    let u = mul-pos whole_some (h (first_of plane) (first_below plane)) in
    let v = mul-pos whole_some (h (second_of plane) (second_below plane)) in
    den_at (eqb a (first_of plane)) (eqb a (second_of plane)) (first_image angle.ticks (e (first_of plane)) (e (second_of plane))) (second_image angle.ticks (e (first_of plane)) (e (second_of plane))) (e a) (mul-pos u v) (mul-pos u v) (h a l)

exact_positive : (ss : List Step) (e : Exact) → Positive e → Positive (exact_through ss e)
exact_positive [] e h = h
exact_positive (s ∷ ss) e h = step_positive s (exact_through ss e) (exact_positive ss e h)

pub image_positive : (ss : List Step) (o values : List Length) → Positive (exact_image ss o values)
image_positive ss o values a l = exact_positive ss (exact_values values) (λ a l. lit< tt) a l
