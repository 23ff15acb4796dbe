-- A number of a limited range is determined by its value, and the makers give it.
use Rattle.std.proofs.Common.{◌≡◌, ℕ, suc, ◌<◌, ◌≤◌, Bool, true, false, leb, ℤ, nat_abs, Some, None, Option, sym, refl, ap, ◌∙◌, subst, arith, leb-false, leb-true}
use native.Mathlib.Bridge.{le_prop}
use Rattle.units.specs.declared.quantity.Length.{Length}
use Rattle.units.specs.declared.quantity.Factor.{Factor}
use Rattle.units.specs.declared.quantity.Angle.{Angle}
use Rattle.units.specs.declared.quantity.Tolerance.{Tolerance}
use Rattle.units.specs.Quantities.{tested, where_≤, length_of, factor_of, angle_of, tolerance_of}

-- where the order holds, what is made of it, by whatever proof
tested_by : {A : Type 0} (a b : ℕ) (f : a ≤ b → Option A) (h : a ≤ b) (t : Bool) (e : leb a b ≡ t) → tested a b t e f ≡ f h
tested_by a b f h true e = ap f (le_prop (leb-true a b e) h)
tested_by a b f h false e = let l = leb-false a b e in absurd (omega arith)

pub made_where : {A : Type 0} (a b : ℕ) (f : a ≤ b → Option A) (h : a ≤ b) → where_≤ a b f ≡ f h
made_where a b f h = tested_by a b f h (leb a b) refl

tested_none : {A : Type 0} (a b : ℕ) (f : a ≤ b → Option A) → b < a → (t : Bool) (e : leb a b ≡ t) → tested a b t e f ≡ None
tested_none a b f h true e = let l = leb-true a b e in absurd (omega arith)
tested_none a b f h false e = refl

pub none_where : {A : Type 0} (a b : ℕ) (f : a ≤ b → Option A) → b < a → where_≤ a b f ≡ None
none_where a b f h = tested_none a b f h (leb a b) refl

-- two of the same value are one
pub same_angle : (a b : Angle) → a.ticks ≡ b.ticks → a ≡ b
same_angle a b e =
    let P : ℕ → Type 0 = λ u. (k : u < 3600000) → ◌≡◌ {A = Angle} a (record { ticks = u; below = k }) in
    subst P e (λ k. ap (λ (p : a.ticks < 3600000). record { ticks = a.ticks; below = p }) (le_prop a.below k)) b.below

-- each is what its maker makes of its value
pub length_made : (l : Length) → length_of l.units ≡ Some l
length_made l = made_where (nat_abs l.units) 999999999 (λ h. Some (record { units = l.units; most = h })) l.most

pub length_none : (z : ℤ) → 999999999 < nat_abs z → length_of z ≡ None
length_none z h = none_where (nat_abs z) 999999999 (λ k. Some (record { units = z; most = k })) h

pub factor_made : (f : Factor) → factor_of f.parts ≡ Some f
factor_made f =
    made_where 1 f.parts (λ s. where_≤ f.parts 10000000 (λ m. Some (record { parts = f.parts; some = s; most = m }))) f.some ∙
    made_where f.parts 10000000 (λ m. Some (record { parts = f.parts; some = f.some; most = m })) f.most

pub factor_large : (n : ℕ) → 1 ≤ n → 10000000 < n → factor_of n ≡ None
factor_large n s h =
    made_where 1 n (λ s. where_≤ n 10000000 (λ m. Some (record { parts = n; some = s; most = m }))) s ∙
    none_where n 10000000 (λ m. Some (record { parts = n; some = s; most = m })) h

pub angle_made : (a : Angle) → angle_of a.ticks ≡ Some a
angle_made a = made_where (suc a.ticks) 3600000 (λ h. Some (record { ticks = a.ticks; below = h })) a.below

pub angle_none : (n : ℕ) → 3600000 ≤ n → angle_of n ≡ None
angle_none n h = none_where (suc n) 3600000 (λ k. Some (record { ticks = n; below = k })) (omega arith)

pub tolerance_made : (t : Tolerance) → tolerance_of t.units ≡ Some t
tolerance_made t = made_where t.units 100000 (λ h. Some (record { units = t.units; most = h })) t.most

pub length_is : (l : Length) (z : ℤ) → l.units ≡ z → Some l ≡ length_of z
length_is l z e = sym (length_made l) ∙ ap length_of e
