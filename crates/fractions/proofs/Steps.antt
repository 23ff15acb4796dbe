-- The two coordinates of an odd turn, and a scale, in fractions.
use mathlib.Core.Path.{◌≡◌, refl, ◌∙◌, ap, ap₂, subst, subst₂}
use Prim.Native.Nat.{ℕ, zero, suc, ◌+◌, ◌*◌, ◌%◌, ◌≤◌, ◌<◌, max}
use native.Mathlib.Omega.{arith}
use native.Mathlib.Nat.{mul-le-mul_right, le_trans, le_of_eq, mul_comm}
use lib.IntN.{ℤ, pos, ◌+ℤ◌, ◌-ℤ◌, ◌*ℤ◌, neg_ℤ, nat_abs}
use borrow.Author.Differences.{ints}
use Rattle.fractions.specs.Fractions.{Frac, Within, Equals, sum, difference, product, over, shifted, negated, one_if, ceiling}
use Rattle.fractions.proofs.Ring.{is, is_pos, is_add, is_sub, is_neg, is_mul, is_by, is_same, abs_mul, abs_neg}
use Rattle.units.specs.Nearest.{Nearest}
use Rattle.units.proofs.Round.{exact_if}
use Rattle.fractions.proofs.Turn.{turn_near, scale_near}

-- numerator and denominator times k
widen_is : (t num : ℤ) (den k : ℕ) → t *ℤ pos (den * k) -ℤ num *ℤ pos k ≡ (t *ℤ pos den -ℤ num) *ℤ pos k
widen_is t num den k = is_same
    (is_sub (is_mul (is t) (is_pos (den * k))) (is_mul (is num) (is_pos k)))
    (is_mul (is_sub (is_mul (is t) (is_pos den)) (is num)) (is_pos k))
    (omega arith)

pub widen : (t num : ℤ) (den k spread : ℕ) → nat_abs (t *ℤ pos den -ℤ num) ≤ spread * den → nat_abs (t *ℤ pos (den * k) -ℤ num *ℤ pos k) ≤ spread * (den * k)
widen t num den k spread h =
    let m = mul-le-mul_right k h in
    let e = ap nat_abs (widen_is t num den k) ∙ abs_mul (t *ℤ pos den -ℤ num) (pos k) in
    so (nat_abs (t *ℤ pos (den * k) -ℤ num *ℤ pos k)) (nat_abs (t *ℤ pos den -ℤ num) * k) spread den k e m
  where
    so : (a b s d k : ℕ) → a ≡ b → b ≤ s * d * k → a ≤ s * (d * k)
    so a b s d k e m = omega arith

-- the second coordinate is a turn with other numbers
minus_minus : (x c y : ℤ) → x -ℤ neg_ℤ c *ℤ y ≡ x +ℤ c *ℤ y
minus_minus x c y = is_same (is_sub (is x) (is_mul (is_neg (is c)) (is y))) (is_add (is x) (is_mul (is c) (is y))) (omega arith)

flip : (R W : ℕ) (s S : ℤ) → neg_ℤ s *ℤ pos W -ℤ pos R *ℤ neg_ℤ S ≡ neg_ℤ (s *ℤ pos W -ℤ pos R *ℤ S)
flip R W s S = is_same
    (is_sub (is_mul (is_neg (is s)) (is_pos W)) (is_mul (is_pos R) (is_neg (is S))))
    (is_neg (is_sub (is_mul (is s) (is_pos W)) (is_mul (is_pos R) (is S))))
    (omega arith)

pub turn_near_2 : (R W q m : ℕ) (i j Ie Je C S cn sn J : ℤ) → 0 < R →
    nat_abs (i *ℤ pos q -ℤ Ie) ≤ m * q → nat_abs (j *ℤ pos q -ℤ Je) ≤ m * q →
    nat_abs (C *ℤ pos W -ℤ pos R *ℤ cn) ≤ W → nat_abs (S *ℤ pos W -ℤ pos R *ℤ sn) ≤ W → 2 * (nat_abs cn + nat_abs sn) ≤ 3 * W →
    2 * nat_abs ((S *ℤ i +ℤ C *ℤ j) -ℤ J *ℤ pos R) ≤ R →
    nat_abs (J *ℤ pos (W * q) -ℤ (sn *ℤ Ie +ℤ cn *ℤ Je)) ≤ (ceiling (3 * m) 2 + ceiling (nat_abs i + nat_abs j) R + 1) * (W * q)
turn_near_2 R W q m i j Ie Je C S cn sn J p di dj gc gs reach close =
    rw (minus_minus (sn *ℤ Ie) cn Je) at
    (turn_near R W q m i j Ie Je S (neg_ℤ C) sn (neg_ℤ cn) J p di dj gs
    (le_trans (le_of_eq (ap nat_abs (flip R W C cn) ∙ abs_neg (C *ℤ pos W -ℤ pos R *ℤ cn))) gc)
    (swapped (nat_abs cn) (nat_abs sn) (nat_abs (neg_ℤ cn)) W (abs_neg cn) reach)
    (rw (minus_minus (S *ℤ i) C j) close))
  where
    swapped : (a b c W : ℕ) → c ≡ a → 2 * (a + b) ≤ 3 * W → 2 * (b + c) ≤ 3 * W
    swapped a b c W e h = omega arith

-- fractions of two denominators, at their product
den_is : (W p q : ℕ) → W * (p * q) * W ≡ W * p * (W * q)
den_is W p q = omega arith

factor_is : (W q : ℕ) (c x : ℤ) → c *ℤ (x *ℤ pos q) *ℤ pos W ≡ c *ℤ x *ℤ pos (W * q)
factor_is W q c x = is_same (is_by (is_mul (is c) (is_by (is x) q)) W) (is_by (is_mul (is c) (is x)) (W * q)) (omega arith)

sub_by : (a b : ℤ) (k : ℕ) → (a -ℤ b) *ℤ pos k ≡ a *ℤ pos k -ℤ b *ℤ pos k
sub_by a b k = is_same (is_by (is_sub (is a) (is b)) k) (is_sub (is_by (is a) k) (is_by (is b) k)) (omega arith)

add_by : (a b : ℤ) (k : ℕ) → (a +ℤ b) *ℤ pos k ≡ a *ℤ pos k +ℤ b *ℤ pos k
add_by a b k = is_same (is_by (is_add (is a) (is b)) k) (is_add (is_by (is a) k) (is_by (is b) k)) (omega arith)

minus_is : (W p q : ℕ) (c s x y : ℤ) → (c *ℤ (x *ℤ pos q) -ℤ s *ℤ (y *ℤ pos p)) *ℤ pos W ≡ c *ℤ x *ℤ pos (W * q) -ℤ s *ℤ y *ℤ pos (W * p)
minus_is W p q c s x y = sub_by (c *ℤ (x *ℤ pos q)) (s *ℤ (y *ℤ pos p)) W ∙ ap₂ ◌-ℤ◌ (factor_is W q c x) (factor_is W p s y)

plus_is : (W p q : ℕ) (c s x y : ℤ) → (s *ℤ (x *ℤ pos q) +ℤ c *ℤ (y *ℤ pos p)) *ℤ pos W ≡ s *ℤ x *ℤ pos (W * q) +ℤ c *ℤ y *ℤ pos (W * p)
plus_is W p q c s x y = add_by (s *ℤ (x *ℤ pos q)) (c *ℤ (y *ℤ pos p)) W ∙ ap₂ ◌+ℤ◌ (factor_is W q s x) (factor_is W p c y)

-- a turn: i' = c × i - s × j and j' = s × i + c × j
module _ (R W m : ℕ) (i j C S cn sn : ℤ) (ie je : Frac) (p : 0 < R) (di : Within i ie m) (dj : Within j je m)
    (gc : nat_abs (C *ℤ pos W -ℤ pos R *ℤ cn) ≤ W) (gs : nat_abs (S *ℤ pos W -ℤ pos R *ℤ sn) ≤ W) (reach : 2 * (nat_abs cn + nat_abs sn) ≤ 3 * W) where
  ei : nat_abs (i *ℤ pos (ie.den * je.den) -ℤ ie.num *ℤ pos je.den) ≤ m * (ie.den * je.den)
  ei = widen i ie.num ie.den je.den m di

  ej : nat_abs (j *ℤ pos (ie.den * je.den) -ℤ je.num *ℤ pos ie.den) ≤ m * (ie.den * je.den)
  ej = subst (λ (z : ℕ). nat_abs (j *ℤ pos z -ℤ je.num *ℤ pos ie.den) ≤ m * z) (mul_comm je.den ie.den) (widen j je.num je.den ie.den m dj)

  pub first_within : (I : ℤ) → 2 * nat_abs ((C *ℤ i -ℤ S *ℤ j) -ℤ I *ℤ pos R) ≤ R →
      Within I (difference (product (over cn W) ie) (product (over sn W) je)) (ceiling (3 * m) 2 + ceiling (nat_abs i + nat_abs j) R + 1)
  first_within I close =
      subst₂ (λ (d : ℕ) (n : ℤ). nat_abs (I *ℤ pos d -ℤ n) ≤ (ceiling (3 * m) 2 + ceiling (nat_abs i + nat_abs j) R + 1) * d)
      (den_is W ie.den je.den) (minus_is W ie.den je.den cn sn ie.num je.num)
      (widen I (cn *ℤ (ie.num *ℤ pos je.den) -ℤ sn *ℤ (je.num *ℤ pos ie.den)) (W * (ie.den * je.den)) W _
      (turn_near R W (ie.den * je.den) m i j (ie.num *ℤ pos je.den) (je.num *ℤ pos ie.den) C S cn sn I p ei ej gc gs reach close))

  pub second_within : (I : ℤ) → 2 * nat_abs ((S *ℤ i +ℤ C *ℤ j) -ℤ I *ℤ pos R) ≤ R →
      Within I (sum (product (over sn W) ie) (product (over cn W) je)) (ceiling (3 * m) 2 + ceiling (nat_abs i + nat_abs j) R + 1)
  second_within I close =
      subst₂ (λ (d : ℕ) (n : ℤ). nat_abs (I *ℤ pos d -ℤ n) ≤ (ceiling (3 * m) 2 + ceiling (nat_abs i + nat_abs j) R + 1) * d)
      (den_is W ie.den je.den) (plus_is W ie.den je.den cn sn ie.num je.num)
      (widen I (sn *ℤ (ie.num *ℤ pos je.den) +ℤ cn *ℤ (je.num *ℤ pos ie.den)) (W * (ie.den * je.den)) W _
      (turn_near_2 R W (ie.den * je.den) m i j (ie.num *ℤ pos je.den) (je.num *ℤ pos ie.den) C S cn sn I p ei ej gc gs reach close))

-- a scale by f / F
pub scale_within : (F r f e : ℕ) (x I : ℤ) (xe : Frac) → 0 < F → Within x xe r → nat_abs (pos f *ℤ x -ℤ I *ℤ pos F) ≤ e * F → Within I (product (over (pos f) F) xe) (ceiling (r * max f F) F + e)
scale_within F r f e x I xe p d c = scale_near F xe.den r f e x xe.num I p d c

-- the steps that keep spreads
shift_is : (t num o : ℤ) (d : ℕ) → (t +ℤ o) *ℤ pos d -ℤ (num +ℤ o *ℤ pos d) ≡ t *ℤ pos d -ℤ num
shift_is t num o d = is_same
    (is_sub (is_by (is_add (is t) (is o)) d) (is_add (is num) (is_by (is o) d)))
    (is_sub (is_by (is t) d) (is num))
    (omega arith)

pub shift_within : (t o : ℤ) (e : Frac) (m : ℕ) → Within t e m → Within (t +ℤ o) (shifted e o) m
shift_within t o e m h = rw (shift_is t e.num o e.den) h

mirror_is : (t num : ℤ) (d : ℕ) → neg_ℤ t *ℤ pos d -ℤ neg_ℤ num ≡ neg_ℤ (t *ℤ pos d -ℤ num)
mirror_is t num d = is_same (is_sub (is_by (is_neg (is t)) d) (is_neg (is num))) (is_neg (is_sub (is_by (is t) d) (is num))) (omega arith)

pub mirror_within : (t : ℤ) (e : Frac) (m : ℕ) → Within t e m → Within (neg_ℤ t) (negated e) m
mirror_within t e m h = le_trans (le_of_eq (ap nat_abs (mirror_is t e.num e.den) ∙ abs_neg (t *ℤ pos e.den -ℤ e.num))) h

-- a scale step: no more than the rounding, and nothing where there is no remainder
gap : (n I : ℤ) (F : ℕ) → 0 < F → Nearest n (pos F) I → (k : ℕ) → nat_abs n % F ≡ k → nat_abs (n -ℤ I *ℤ pos F) ≤ one_if k * F
gap n I F p h zero e = let z = exact_if n I F p e h in omega arith
gap n I F p h (suc k) e = let c = h.close in omega arith

pub scale_step : (r f : ℕ) (x I : ℤ) (xe : Frac) → Within x xe r → Nearest (pos f *ℤ x) (pos 100000) I → Within I (product (over (pos f) 100000) xe) (ceiling (r * max f 100000) 100000 + one_if (nat_abs (pos f *ℤ x) % 100000))
scale_step r f x I xe d h = scale_within 100000 r f (one_if (nat_abs (pos f *ℤ x) % 100000)) x I xe (omega arith) d (gap (pos f *ℤ x) I 100000 (omega arith) h (nat_abs (pos f *ℤ x) % 100000) refl)

-- a spread of 0 says that the two are one number
pub equals_of : (t : ℤ) (e : Frac) (r : ℕ) → r ≡ 0 → Within t e r → Equals t e
equals_of t e r z h = same (t *ℤ pos e.den) e.num (nothing (nat_abs (t *ℤ pos e.den -ℤ e.num)) r e.den z h)
  where
    nothing : (a r d : ℕ) → r ≡ 0 → a ≤ r * d → a ≤ 0
    nothing a r d z h = let m = ap (λ (k : ℕ). k * d) z in omega arith

    same : (x y : ℤ) → nat_abs (x -ℤ y) ≤ 0 → x ≡ y
    same x y h = omega (arith, ints)

pub wider : (t : ℤ) (e : Frac) (r s : ℕ) → r ≤ s → Within t e r → Within t e s
wider t e r s h w = le_trans w (mul-le-mul_right e.den h)
