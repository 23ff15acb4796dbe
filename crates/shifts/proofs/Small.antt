-- Small facts that the proof of the law is built from.
use Rattle.std.proofs.Common.{◌≡◌, ℕ, zero, suc, ◌*◌, ◌<◌, ◌≤◌, Bool, true, false, cond, ◌&&◌, leb, ℤ, pos, ◌-ℤ◌, nat_abs, Some, None, Ok, Err, Option, Result, sym, refl, ap, ◌∙◌, arith, leb-false, leb-true}
use borrow.Author.Differences.{ints, product_is}
use Rattle.units.specs.declared.quantity.Length.{Length}
use Rattle.units.specs.Quantities.{length_of}
use Rattle.units.proofs.Ranged.{length_made, length_none}
use Rattle.fractions.specs.Fractions.{Frac, Within, over}

-- each of the three axes
pub three : (P : ℕ → Type 0) → P 0 → P 1 → P 2 → (a : ℕ) → a < 3 → P a
three P x y z zero h = x
three P x y z (suc zero) h = y
three P x y z (suc (suc zero)) h = z
three P x y z (suc (suc (suc a))) h = absurd (omega arith)

pub ok_only : {A E : Type 0} (x y : A) → ◌≡◌ {A = Result A E} (Ok x) (Ok y) → x ≡ y
ok_only x y e = cc

pub not_ok : {A E : Type 0} {P : Type 0} (f : E) (y : A) → ◌≡◌ {A = Result A E} (Err f) (Ok y) → P
not_ok f y e = let z : ◌≡◌ {A = ℕ} 0 1 = cc in absurd (omega arith)

pub not_some : {A : Type 0} {P : Type 0} (y : A) → ◌≡◌ {A = Option A} None (Some y) → P
not_some y e = let z : ◌≡◌ {A = ℕ} 0 1 = cc in absurd (omega arith)

pub some_only : {A : Type 0} (x y : A) → ◌≡◌ {A = Option A} (Some x) (Some y) → x ≡ y
some_only x y e = cc

-- accepted by the second of two ways, since the first declines
pub by_second : {A E : Type 0} (b : Bool) (f : E) (r : Result A E) (y : A) → cond b (Err f) r ≡ Ok y → (b ≡ false) × (r ≡ Ok y)
by_second true f r y e = not_ok f y e
by_second false f r y e = (refl, e)

pub by_first : {A E : Type 0} (b : Bool) (x y : A) (f : E) → cond b (Ok x) (Err f) ≡ Ok y → x ≡ y
by_first true x y f e = ok_only x y e
by_first false x y f e = not_ok f y e

pub and_false : (b c : Bool) → b ≡ true → (b && c) ≡ false → c ≡ false
and_false b c e h = ap (λ (x : Bool). x && c) (sym e) ∙ h

-- a whole number is itself, with no spread
pub itself : (z : ℤ) → Within z (over z 1) 0
itself z = omega (arith, ints, product_is z (pos 1))

-- an axis that moves is near its image, one that does not stays near what it was near
pub kept_near : (b : Bool) (x y : ℤ) (r s : ℕ) (e f : Frac) → (b ≡ true → Within x e r) → Within y f s → Within (cond b x y) (cond b e f) (cond b r s)
kept_near true x y r s e f h k = h refl
kept_near false x y r s e f h k = k

pub kept_positive : (b : Bool) (e f : Frac) → 0 < e.den → 0 < f.den → 0 < (cond b e f).den
kept_positive true e f h k = h
kept_positive false e f h k = k

pub no_way : (z : ℤ) (n : ℕ) → 2 * nat_abs (z -ℤ z) ≤ n
no_way z n = omega (arith, ints)

-- the length made of a number is that number
decided : (z : ℤ) (l : Length) (b : Bool) → leb (nat_abs z) 999999999 ≡ b → length_of z ≡ Some l → l.units ≡ z
decided z l true h e = ap (λ (o : Length). o.units) (some_only l (record { units = z; most = m }) (sym e ∙ length_made (record { units = z; most = m })))
  where
    m : nat_abs z ≤ 999999999
    m = leb-true (nat_abs z) 999999999 h
decided z l false h e = not_some l (sym (length_none z (leb-false (nat_abs z) 999999999 h)) ∙ e)

pub length_units : (z : ℤ) (l : Length) → length_of z ≡ Some l → l.units ≡ z
length_units z l e = decided z l (leb (nat_abs z) 999999999) refl e
