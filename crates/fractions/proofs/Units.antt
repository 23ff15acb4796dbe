-- A turn by numbers without error: whole multiples of the common denominator.
use mathlib.Core.Path.{◌≡◌, ◌∙◌, ap, ap₂, subst, subst₂}
use Prim.Native.Nat.{ℕ, ◌+◌, ◌*◌, ◌≤◌}
use native.Mathlib.Omega.{arith}
use native.Mathlib.Nat.{le_trans, le_of_eq, mul-le-mul_right, mul-le-mul_left}
use lib.IntN.{ℤ, pos, ◌+ℤ◌, ◌-ℤ◌, ◌*ℤ◌, nat_abs}
use Rattle.fractions.specs.Fractions.{Frac, Within, over, sum, difference, product}
use Rattle.fractions.proofs.Ring.{is, is_add, is_sub, is_mul, is_by, is_same, abs_mul, abs_sub, abs_add}

-- numbers that are σ and τ of W, without any error
part_by : (p k : ℕ) (σ i n : ℤ) → (σ *ℤ i) *ℤ pos (p * k) -ℤ (σ *ℤ n) *ℤ pos k ≡ (σ *ℤ (i *ℤ pos p -ℤ n)) *ℤ pos k
part_by p k σ i n = is_same
    (is_sub (is_by (is_mul (is σ) (is i)) (p * k)) (is_by (is_mul (is σ) (is n)) k))
    (is_by (is_mul (is σ) (is_sub (is_by (is i) p) (is n))) k)
    (omega arith)

regroup : (W k : ℕ) (σ n : ℤ) → (σ *ℤ pos W *ℤ n) *ℤ pos k ≡ (σ *ℤ n) *ℤ pos (W * k)
regroup W k σ n = is_same (is_by (is_mul (is_by (is σ) W) (is n)) k) (is_by (is_mul (is σ) (is n)) (W * k)) (omega arith)

dens : (W p q : ℕ) → W * p * (W * q) ≡ p * (W * (W * q))
dens W p q = omega arith

part_is : (W p q : ℕ) (σ i n : ℤ) → (σ *ℤ i) *ℤ pos (W * p * (W * q)) -ℤ (σ *ℤ pos W *ℤ n) *ℤ pos (W * q) ≡ (σ *ℤ (i *ℤ pos p -ℤ n)) *ℤ pos (W * (W * q))
part_is W p q σ i n = ap₂ (λ (d : ℕ) (z : ℤ). (σ *ℤ i) *ℤ pos d -ℤ z) (dens W p q) (regroup W (W * q) σ n) ∙ part_by p (W * (W * q)) σ i n

minus_by : (a b c d : ℤ) (k : ℕ) → (a -ℤ b) *ℤ pos k -ℤ (c -ℤ d) ≡ (a *ℤ pos k -ℤ c) -ℤ (b *ℤ pos k -ℤ d)
minus_by a b c d k = is_same (is_sub (is_by (is_sub (is a) (is b)) k) (is_sub (is c) (is d))) (is_sub (is_sub (is_by (is a) k) (is c)) (is_sub (is_by (is b) k) (is d))) (omega arith)

plus_by : (a b c d : ℤ) (k : ℕ) → (a +ℤ b) *ℤ pos k -ℤ (c +ℤ d) ≡ (a *ℤ pos k -ℤ c) +ℤ (b *ℤ pos k -ℤ d)
plus_by a b c d k = is_same (is_sub (is_by (is_add (is a) (is b)) k) (is_add (is c) (is d))) (is_add (is_sub (is_by (is a) k) (is c)) (is_sub (is_by (is b) k) (is d))) (omega arith)

part_size : (W p q r : ℕ) (σ i n : ℤ) → nat_abs (i *ℤ pos p -ℤ n) ≤ r * p → nat_abs ((σ *ℤ i) *ℤ pos (W * p * (W * q)) -ℤ (σ *ℤ pos W *ℤ n) *ℤ pos (W * q)) ≤ nat_abs σ * r * (W * p * (W * q))
part_size W p q r σ i n h =
    let e = ap nat_abs (part_is W p q σ i n) ∙ abs_mul (σ *ℤ (i *ℤ pos p -ℤ n)) (pos (W * (W * q))) ∙ ap (λ (z : ℕ). z * (W * (W * q))) (abs_mul σ (i *ℤ pos p -ℤ n)) in
    so (nat_abs σ) (nat_abs (i *ℤ pos p -ℤ n)) _ e h
  where
    so : (a b z : ℕ) → z ≡ a * b * (W * (W * q)) → b ≤ r * p → z ≤ a * r * (W * p * (W * q))
    so a b z e h = let m = mul-le-mul_left a h in let k = mul-le-mul_right (W * (W * q)) m in omega arith

flipped : (W p q : ℕ) → W * p * (W * q) ≡ W * q * (W * p)
flipped W p q = omega arith

module _ (W : ℕ) (σ τ i j : ℤ) (x y : Frac) (r s : ℕ) (dx : Within i x r) (dy : Within j y s) where
  left_part : nat_abs ((σ *ℤ i) *ℤ pos (W * x.den * (W * y.den)) -ℤ (σ *ℤ pos W *ℤ x.num) *ℤ pos (W * y.den)) ≤ nat_abs σ * r * (W * x.den * (W * y.den))
  left_part = part_size W x.den y.den r σ i x.num dx

  right_part : nat_abs ((τ *ℤ j) *ℤ pos (W * x.den * (W * y.den)) -ℤ (τ *ℤ pos W *ℤ y.num) *ℤ pos (W * x.den)) ≤ nat_abs τ * s * (W * x.den * (W * y.den))
  right_part = subst (λ (z : ℕ). nat_abs ((τ *ℤ j) *ℤ pos z -ℤ (τ *ℤ pos W *ℤ y.num) *ℤ pos (W * x.den)) ≤ nat_abs τ * s * z) (flipped W y.den x.den) (part_size W y.den x.den s τ j y.num dy)

  both : (a b c u v k : ℕ) → c ≤ a + b → a ≤ u * k → b ≤ v * k → c ≤ (u + v) * k
  both a b c u v k h f g = omega arith

  pub unit_first : Within (σ *ℤ i -ℤ τ *ℤ j) (difference (product (over (σ *ℤ pos W) W) x) (product (over (τ *ℤ pos W) W) y)) (nat_abs σ * r + nat_abs τ * s)
  unit_first = both _ _ _ (nat_abs σ * r) (nat_abs τ * s) (W * x.den * (W * y.den))
      (le_trans (le_of_eq (ap nat_abs (minus_by (σ *ℤ i) (τ *ℤ j) ((σ *ℤ pos W *ℤ x.num) *ℤ pos (W * y.den)) ((τ *ℤ pos W *ℤ y.num) *ℤ pos (W * x.den)) (W * x.den * (W * y.den)))))
      (abs_sub ((σ *ℤ i) *ℤ pos (W * x.den * (W * y.den)) -ℤ (σ *ℤ pos W *ℤ x.num) *ℤ pos (W * y.den)) ((τ *ℤ j) *ℤ pos (W * x.den * (W * y.den)) -ℤ (τ *ℤ pos W *ℤ y.num) *ℤ pos (W * x.den))))
      left_part right_part

  pub unit_second : Within (σ *ℤ i +ℤ τ *ℤ j) (sum (product (over (σ *ℤ pos W) W) x) (product (over (τ *ℤ pos W) W) y)) (nat_abs σ * r + nat_abs τ * s)
  unit_second = both _ _ _ (nat_abs σ * r) (nat_abs τ * s) (W * x.den * (W * y.den))
      (le_trans (le_of_eq (ap nat_abs (plus_by (σ *ℤ i) (τ *ℤ j) ((σ *ℤ pos W *ℤ x.num) *ℤ pos (W * y.den)) ((τ *ℤ pos W *ℤ y.num) *ℤ pos (W * x.den)) (W * x.den * (W * y.den)))))
      (abs_add ((σ *ℤ i) *ℤ pos (W * x.den * (W * y.den)) -ℤ (σ *ℤ pos W *ℤ x.num) *ℤ pos (W * y.den)) ((τ *ℤ j) *ℤ pos (W * x.den * (W * y.den)) -ℤ (τ *ℤ pos W *ℤ y.num) *ℤ pos (W * x.den))))
      left_part right_part

  pub unit_first_as : (t : ℤ) (k : ℕ) → σ *ℤ i -ℤ τ *ℤ j ≡ t → nat_abs σ * r + nat_abs τ * s ≡ k → Within t (difference (product (over (σ *ℤ pos W) W) x) (product (over (τ *ℤ pos W) W) y)) k
  unit_first_as t k et ek = subst₂ (λ (z : ℤ) (n : ℕ). Within z (difference (product (over (σ *ℤ pos W) W) x) (product (over (τ *ℤ pos W) W) y)) n) et ek unit_first

  pub unit_second_as : (t : ℤ) (k : ℕ) → σ *ℤ i +ℤ τ *ℤ j ≡ t → nat_abs σ * r + nat_abs τ * s ≡ k → Within t (sum (product (over (σ *ℤ pos W) W) x) (product (over (τ *ℤ pos W) W) y)) k
  unit_second_as t k et ek = subst₂ (λ (z : ℤ) (n : ℕ). Within z (sum (product (over (σ *ℤ pos W) W) x) (product (over (τ *ℤ pos W) W) y)) n) et ek unit_second
