-- How spreads grow where no scale enlarges.
use Rattle.std.proofs.Common.{◌≡◌, ℕ, zero, suc, ◌+◌, ◌*◌, ◌/◌, ◌%◌, ◌^◌, ◌<◌, ◌≤◌, max, Bool, true, false, cond, eqb, leb, List, [], ◌∷◌, get_or, ℤ, pos, ◌*ℤ◌, nat_abs, Some, None, Option, sym, refl, ◌∙◌, subst, mul-le-mul_left, pow-suc, zero-add, one-add, arith, leb-false, leb-true}
use native.Mathlib.Nat.{max-eq_left, max-eq_right}
use Rattle.units.specs.declared.quantity.Factor.{Factor}
use Rattle.units.specs.declared.quantity.Length.{Length}
use Rattle.fractions.specs.Fractions.{ceiling, one_if}
use Rattle.chains.specs.declared.step.Step.{Step}
use Rattle.chains.specs.declared.step.Step.TheVariants.{Offset, Scale, Mirror, Turn}
use Rattle.chains.specs.Steps.{first_of, second_of}
use Rattle.frames.specs.declared.image.Image.{Image}
use Rattle.frames.specs.Pushing.{coordinate, spread_of, new_spread, through, carried, settable, started, scale_spread, odd_spread, scaled_spread, quarters_spread, quartered}
use Rattle.frames.specs.Theorems.{weight, weight_of, Modest, NotEnlarging, NoneEnlarges, Grown, AllInRange, Growth}
use Rattle.frames.proofs.Passing.{through_spread, Ranged, carried_ranged, started_near}
use Rattle.frames.proofs.Images.{first_below, second_below}

-- one scale or odd turn more
grow_by : (P Q r s : ℕ) → P * (r + 11) ≤ 11 * Q → 2 * (s + 11) ≤ 3 * (r + 11) → P * 2 * (s + 11) ≤ 11 * (Q * 3)
grow_by P Q r s h k = let m = mul-le-mul_left P k in omega arith

grow : (t r s : ℕ) → Grown t r → 2 * (s + 11) ≤ 3 * (r + 11) → Grown (1 + t) s
grow t r s h k = rw (one-add, pow-suc, pow-suc) (grow_by (2 ^ t) (3 ^ t) r s h k)

keep : (t r : ℕ) → Grown t r → Grown (1 + t) r
keep t r h = grow t r r h (omega arith)

same : (t r : ℕ) → Grown t r → Grown (0 + t) r
same t r h = rw zero-add h

one_most : (k : ℕ) → one_if k ≤ 1
one_most zero = omega arith
one_most (suc k) = omega arith

scale_most : (r f u v : ℕ) → f ≤ 100000 → max f 100000 ≡ u → v ≤ 1 → 2 * (ceiling (r * u) 100000 + v + 11) ≤ 3 * (r + 11)
scale_most r f u v h e l = let k : u ≡ 100000 = sym e ∙ max-eq_right h in subst (λ (z : ℕ). 2 * (ceiling (r * z) 100000 + v + 11) ≤ 3 * (r + 11)) (sym k) (omega arith)

scale_grown : (by : Option Factor) (x : ℤ) (t r : ℕ) → Modest by → Grown t r → Grown (1 + t) (scaled_spread by x r)
scale_grown None x t r h g = keep t r g
scale_grown (Some f) x t r h g = grow t r (scale_spread r f.parts x) g (scale_most r f.parts (max f.parts 100000) _ h refl (one_most (nat_abs (pos f.parts *ℤ x) % 100000)))

odd_most : (m i j : ℕ) → i ≤ 2000000000 → j ≤ 2000000000 → 2 * (ceiling (3 * m) 2 + ceiling (i + j) 1000000000 + 1 + 11) ≤ 3 * (m + 11)
odd_most m i j h k = omega arith

max_by : (t r s : ℕ) (b : Bool) → leb r s ≡ b → Grown t r → Grown t s → Grown t (max r s)
max_by t r s true e a b = let h = leb-true r s e in rw (max-eq_right h) b
max_by t r s false e a b = let h = leb-false r s e in let k : s ≤ r = omega arith in rw (max-eq_left k) a

quarters_grown : (q t r s : ℕ) → Grown t r → Grown t s → Grown t (quarters_spread q r s)
quarters_grown zero t r s a b = a
quarters_grown (suc q) t r s a b = quarters_grown q t s r b a

turn_by : (b : Bool) (q t r s : ℕ) (i j : ℤ) → nat_abs i ≤ 2000000000 → nat_abs j ≤ 2000000000 → Grown t r → Grown t s → Grown (cond b 0 1 + t) (cond b (quarters_spread q r s) (odd_spread (max r s) i j))
turn_by true q t r s i j bi bj a b = same t (quarters_spread q r s) (quarters_grown q t r s a b)
turn_by false q t r s i j bi bj a b = grow t (max r s) (odd_spread (max r s) i j) (max_by t r s (leb r s) refl a b) (odd_most (max r s) (nat_abs i) (nat_abs j) bi bj)

keep_by : (b : Bool) (t r : ℕ) → Grown t r → Grown (cond b 0 1 + t) r
keep_by true t r g = same t r g
keep_by false t r g = keep t r g

either : (t : ℕ) (u v : Bool) (R S T : ℕ) → Grown t R → Grown t S → Grown t T → Grown t (cond u R (cond v S T))
either t true v R S T a b c = a
either t false true R S T a b c = b
either t false false R S T a b c = c

abbrev pub Grows : ℕ → Image → Type 0
Grows t p = (a : ℕ) → a < 3 → Grown t (spread_of p a)

step_grown : (s : Step) (p : Image) (t : ℕ) → NotEnlarging s → Ranged p → Grows t p → (a : ℕ) → a < 3 → Grown (weight s + t) (new_spread s a p)
step_grown (Offset by) p t m b g a h = same t (spread_of p a) (g a h)
step_grown (Scale by) p t m b g a h = scale_grown (get_or by a None) (coordinate p a) t (spread_of p a) (m a h) (g a h)
step_grown (Mirror named) p t m b g a h = same t (spread_of p a) (g a h)
step_grown (Turn plane angle) p t m b g a h =
    either (cond (quartered angle.ticks) 0 1 + t) (eqb a (first_of plane)) (eqb a (second_of plane)) _ _ _
    (turn_by (quartered angle.ticks) (angle.ticks / 900000) t (spread_of p (first_of plane)) (spread_of p (second_of plane)) (coordinate p (first_of plane)) (coordinate p (second_of plane)) (b (first_of plane) (first_below plane)) (b (second_of plane) (second_below plane)) (g (first_of plane) (first_below plane)) (g (second_of plane) (second_below plane)))
    (turn_by (quartered angle.ticks) (angle.ticks / 900000) t (spread_of p (second_of plane)) (spread_of p (first_of plane)) (coordinate p (first_of plane)) (coordinate p (second_of plane)) (b (first_of plane) (first_below plane)) (b (second_of plane) (second_below plane)) (g (second_of plane) (second_below plane)) (g (first_of plane) (first_below plane)))
    (keep_by (quartered angle.ticks) t (spread_of p a) (g a h))

stays_grown : (s : Step) (t r : ℕ) → Grown t r → Grown (weight s + t) r
stays_grown (Offset by) t r g = same t r g
stays_grown (Scale by) t r g = keep t r g
stays_grown (Mirror named) t r g = same t r g
stays_grown (Turn plane angle) t r g = keep_by (quartered angle.ticks) t r g

moved_grown : (b : Bool) (t R S : ℕ) → Grown t R → Grown t S → Grown t (cond b R S)
moved_grown true t R S x y = x
moved_grown false t R S x y = y

through_grown : (m : List Bool) (s : Step) (p : Image) (t : ℕ) → NotEnlarging s → Ranged p → Grows t p → Grows (weight s + t) (through m s p)
through_grown m s p t k b g a h =
    subst (λ (r : ℕ). Grown (weight s + t) r) (sym (through_spread m s p a h))
    (moved_grown (get_or m a false) (weight s + t) (new_spread s a p) (spread_of p a) (step_grown s p t k b g a h) (stays_grown s t (spread_of p a) (g a h)))

carried_grown : (ss : List Step) (m : List Bool) (x : Image) → NoneEnlarges ss → AllInRange ss m x → Ranged x → Grows 0 x → Grows (weight_of ss) (carried ss m x)
carried_grown [] m x k r b g = g
carried_grown (s ∷ ss) m x k r b g = through_grown m s (carried ss m x) (weight_of ss) k.0 (carried_ranged ss m x r.0 b) (carried_grown ss m x k.1 r.0 b g)

start_grown : (values : List Length) → Grows 0 (started values)
start_grown values zero h = omega arith
start_grown values (suc zero) h = omega arith
start_grown values (suc (suc zero)) h = omega arith
start_grown values (suc (suc (suc a))) h = absurd (omega arith)

pub growth : Growth
growth ss m values k r = carried_grown ss m (started values) k r (started_near values) (start_grown values)

pub image_grown : (ss : List Step) (m : List Bool) (o values : List Length) → NoneEnlarges ss → AllInRange (settable o ∷ ss) m (started values) → Grows (weight_of ss) (carried (settable o ∷ ss) m (started values))
image_grown ss m o values k r a h = rw zero-add at (growth (settable o ∷ ss) m values (tt, k) r a h)

-- with no scale and no odd turn
none_of : (a b : ℕ) → a + b ≡ 0 → b ≡ 0
none_of a b e = omega arith

light_step : (s : Step) (n : ℕ) → weight s + n ≡ 0 → NotEnlarging s
light_step (Offset by) n e = tt
light_step (Scale by) n e = absurd (omega arith)
light_step (Mirror named) n e = tt
light_step (Turn plane angle) n e = tt

light : (ss : List Step) → weight_of ss ≡ 0 → NoneEnlarges ss
light [] e = tt
light (s ∷ ss) e = (light_step s (weight_of ss) e, light ss (none_of (weight s) (weight_of ss) e))

none_grown : (r : ℕ) → Grown 0 r → r ≡ 0
none_grown r g = omega arith

pub image_rigid : (ss : List Step) (m : List Bool) (o values : List Length) → weight_of ss ≡ 0 → AllInRange (settable o ∷ ss) m (started values) → (a : ℕ) → a < 3 → spread_of (carried (settable o ∷ ss) m (started values)) a ≡ 0
image_rigid ss m o values e r a h =
    none_grown (spread_of (carried (settable o ∷ ss) m (started values)) a) (subst (λ (t : ℕ). Grown t (spread_of (carried (settable o ∷ ss) m (started values)) a)) e (image_grown ss m o values (light ss e) r a h))
