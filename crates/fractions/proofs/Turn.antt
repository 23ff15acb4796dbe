-- An odd turn.
use mathlib.Core.Path.{◌≡◌, sym, ◌∙◌, ap}
use Prim.Native.Nat.{ℕ, ◌+◌, ◌-◌, ◌*◌, ◌≤◌, ◌<◌, max}
use native.Mathlib.Omega.{arith}
use native.Mathlib.Nat.{mul-le-mul_right, mul-le-mul_left, le_of_mul-le-mul_left, lt-div-mul-add, le-max_left}
use lib.IntN.{ℤ, pos, ◌+ℤ◌, ◌-ℤ◌, ◌*ℤ◌, neg_ℤ, nat_abs}
use borrow.Author.Differences.{ints}
use Rattle.fractions.specs.Fractions.{ceiling}
use Rattle.fractions.proofs.Ring.{is, is_pos, is_add, is_sub, is_neg, is_mul, is_same, abs_mul, abs_neg, abs_add, abs_sub}

-- one product: told number C times told coordinate i, against exact cn / W times exact Ie / q
cross : (x y a b : ℤ) → x *ℤ a -ℤ b *ℤ y ≡ x *ℤ (a -ℤ b) +ℤ b *ℤ (x -ℤ y)
cross x y a b = is_same
    (is_sub (is_mul (is x) (is a)) (is_mul (is b) (is y)))
    (is_add (is_mul (is x) (is_sub (is a) (is b))) (is_mul (is b) (is_sub (is x) (is y))))
    (omega arith)

regroup : (W q : ℕ) (c i : ℤ) → pos (W * q) *ℤ (c *ℤ i) ≡ (i *ℤ pos q) *ℤ (c *ℤ pos W)
regroup W q c i = is_same (is_mul (is_pos (W * q)) (is_mul (is c) (is i))) (is_mul (is_mul (is i) (is_pos q)) (is_mul (is c) (is_pos W))) (omega arith)

assoc : (a b c : ℤ) → a *ℤ (b *ℤ c) ≡ (a *ℤ b) *ℤ c
assoc a b c = is_same (is_mul (is a) (is_mul (is b) (is c))) (is_mul (is_mul (is a) (is b)) (is c)) (omega arith)

cross_near : (x y a b : ℤ) (e f : ℕ) → nat_abs (a -ℤ b) ≤ e → nat_abs (x -ℤ y) ≤ f → nat_abs (x *ℤ a -ℤ b *ℤ y) ≤ nat_abs x * e + nat_abs b * f
cross_near x y a b e f g d =
    rw (cross x y a b)
    (sized (abs_add (x *ℤ (a -ℤ b)) (b *ℤ (x -ℤ y))) (abs_mul x (a -ℤ b)) (abs_mul b (x -ℤ y)) (mul-le-mul_left (nat_abs x) g) (mul-le-mul_left (nat_abs b) d))
  where
    sized : {s a b a' b' a'' b'' : ℕ} → s ≤ a + b → a ≡ a' → b ≡ b' → a' ≤ a'' → b' ≤ b'' → s ≤ a'' + b''
    sized h e f g k = omega arith

product_near : (R W q m : ℕ) (i Ie C cn : ℤ) → nat_abs (i *ℤ pos q -ℤ Ie) ≤ m * q → nat_abs (C *ℤ pos W -ℤ pos R *ℤ cn) ≤ W → nat_abs (pos (W * q) *ℤ (C *ℤ i) -ℤ pos R *ℤ (cn *ℤ Ie)) ≤ nat_abs i * q * W + R * nat_abs cn * (m * q)
product_near R W q m i Ie C cn d g =
    rw (regroup W q C i, assoc (pos R) cn Ie, ← abs_mul i (pos q), ← abs_mul (pos R) cn)
    (cross_near (i *ℤ pos q) Ie (C *ℤ pos W) (pos R *ℤ cn) W (m * q) g d)

outer : (R K : ℕ) (I x y : ℤ) → pos R *ℤ (I *ℤ pos K -ℤ (x -ℤ y)) ≡ pos K *ℤ (I *ℤ pos R) -ℤ (pos R *ℤ x -ℤ pos R *ℤ y)
outer R K I x y = is_same
    (is_mul (is_pos R) (is_sub (is_mul (is I) (is_pos K)) (is_sub (is x) (is y))))
    (is_sub (is_mul (is_pos K) (is_mul (is I) (is_pos R))) (is_sub (is_mul (is_pos R) (is x)) (is_mul (is_pos R) (is y))))
    (omega arith)

rounded : (R K : ℕ) (x y I : ℤ) → pos K *ℤ (I *ℤ pos R) -ℤ (pos K *ℤ x -ℤ pos K *ℤ y) ≡ neg_ℤ (pos K *ℤ ((x -ℤ y) -ℤ I *ℤ pos R))
rounded R K x y I = is_same
    (is_sub (is_mul (is_pos K) (is_mul (is I) (is_pos R))) (is_sub (is_mul (is_pos K) (is x)) (is_mul (is_pos K) (is y))))
    (is_neg (is_mul (is_pos K) (is_sub (is_sub (is x) (is y)) (is_mul (is I) (is_pos R)))))
    (omega arith)

-- the whole: the sum of the two products' errors and of the rounding's
together : (a b a' b' o : ℤ) → nat_abs (o -ℤ (a' -ℤ b')) ≤ nat_abs (o -ℤ (a -ℤ b)) + nat_abs (a -ℤ a') + nat_abs (b -ℤ b')
together a b a' b' o = omega (arith, ints)

pub ceiling_is : (n d : ℕ) → 0 < d → n ≤ d * ceiling n d
ceiling_is n d h = let l = lt-div-mul-add {a = n + (d - 1)} h in omega arith

count : (R W q m E h ai aj ac an k1 k2 : ℕ) → 0 < R → R * E ≤ W * q * h + (ai * q * W + R * ac * (m * q)) + (aj * q * W + R * an * (m * q)) → 2 * h ≤ R → 2 * (ac + an) ≤ 3 * W → 3 * m ≤ 2 * k1 → ai + aj ≤ R * k2 → E ≤ (k1 + k2 + 1) * (W * q)
count R W q m E h ai aj ac an k1 k2 p e n1 n2 n3 n4 =
    let m1 = mul-le-mul_right (W * q) n1 in
    let m2 = mul-le-mul_right (R * (m * q)) n2 in
    let m3 = mul-le-mul_right (R * (W * q)) n3 in
    let m4 = mul-le-mul_right (q * W) n4 in
    le_of_mul-le-mul_left {k = R} (omega arith) p

-- i and j told, Ie / q and Je / q exact; C and S told, cn / W and sn / W exact; I told, (C i - S j) / R rounded
pub turn_near : (R W q m : ℕ) (i j Ie Je C S cn sn I : ℤ) → 0 < R →
    nat_abs (i *ℤ pos q -ℤ Ie) ≤ m * q → nat_abs (j *ℤ pos q -ℤ Je) ≤ m * q →
    nat_abs (C *ℤ pos W -ℤ pos R *ℤ cn) ≤ W → nat_abs (S *ℤ pos W -ℤ pos R *ℤ sn) ≤ W → 2 * (nat_abs cn + nat_abs sn) ≤ 3 * W →
    2 * nat_abs ((C *ℤ i -ℤ S *ℤ j) -ℤ I *ℤ pos R) ≤ R →
    nat_abs (I *ℤ pos (W * q) -ℤ (cn *ℤ Ie -ℤ sn *ℤ Je)) ≤ (ceiling (3 * m) 2 + ceiling (nat_abs i + nat_abs j) R + 1) * (W * q)
turn_near R W q m i j Ie Je C S cn sn I p di dj gc gs reach close =
    count R W q m (nat_abs z) (nat_abs h) (nat_abs i) (nat_abs j) (nat_abs cn) (nat_abs sn) (ceiling (3 * m) 2) (ceiling (nat_abs i + nat_abs j) R) p
    (sized (sym (abs_mul (pos R) z) ∙ ap nat_abs (outer R (W * q) I (cn *ℤ Ie) (sn *ℤ Je)))
    (together (pos (W * q) *ℤ (C *ℤ i)) (pos (W * q) *ℤ (S *ℤ j)) (pos R *ℤ (cn *ℤ Ie)) (pos R *ℤ (sn *ℤ Je)) (pos (W * q) *ℤ (I *ℤ pos R)))
    (ap nat_abs (rounded R (W * q) (C *ℤ i) (S *ℤ j) I) ∙ abs_neg (pos (W * q) *ℤ h) ∙ abs_mul (pos (W * q)) h)
    (product_near R W q m i Ie C cn di gc)
    (product_near R W q m j Je S sn dj gs))
    close reach (ceiling_is (3 * m) 2 (omega arith)) (ceiling_is (nat_abs i + nat_abs j) R p)
  where
    z : ℤ
    z = I *ℤ pos (W * q) -ℤ (cn *ℤ Ie -ℤ sn *ℤ Je)

    h : ℤ
    h = (C *ℤ i -ℤ S *ℤ j) -ℤ I *ℤ pos R

    sized : {e s a b c a' b' c' : ℕ} → e ≡ s → s ≤ a + b + c → a ≡ a' → b ≤ b' → c ≤ c' → e ≤ a' + b' + c'
    sized f g u k l = omega arith

-- a scale by f / F
scale_split : (F q f : ℕ) (x Xe I : ℤ) → I *ℤ pos (F * q) -ℤ pos f *ℤ Xe ≡ pos f *ℤ (x *ℤ pos q -ℤ Xe) -ℤ pos q *ℤ (pos f *ℤ x -ℤ I *ℤ pos F)
scale_split F q f x Xe I = is_same
    (is_sub (is_mul (is I) (is_pos (F * q))) (is_mul (is_pos f) (is Xe)))
    (is_sub (is_mul (is_pos f) (is_sub (is_mul (is x) (is_pos q)) (is Xe))) (is_mul (is_pos q) (is_sub (is_mul (is_pos f) (is x)) (is_mul (is I) (is_pos F)))))
    (omega arith)

pub scale_near : (F q r f e : ℕ) (x Xe I : ℤ) → 0 < F → nat_abs (x *ℤ pos q -ℤ Xe) ≤ r * q → nat_abs (pos f *ℤ x -ℤ I *ℤ pos F) ≤ e * F → nat_abs (I *ℤ pos (F * q) -ℤ pos f *ℤ Xe) ≤ (ceiling (r * max f F) F + e) * (F * q)
scale_near F q r f e x Xe I p d c =
    rw (scale_split F q f x Xe I)
    (counted (abs_sub (pos f *ℤ (x *ℤ pos q -ℤ Xe)) (pos q *ℤ (pos f *ℤ x -ℤ I *ℤ pos F)))
    (abs_mul (pos f) (x *ℤ pos q -ℤ Xe)) (abs_mul (pos q) (pos f *ℤ x -ℤ I *ℤ pos F))
    (mul-le-mul_left f d) (mul-le-mul_left q c) (mul-le-mul_left (r * q) (le-max_left f F)) (mul-le-mul_right q (ceiling_is (r * max f F) F p)))
  where
    counted : {s a b a' b' : ℕ} → s ≤ a + b → a ≡ a' → b ≡ b' → a' ≤ f * (r * q) → b' ≤ q * (e * F) → r * q * f ≤ r * q * max f F → r * max f F * q ≤ F * ceiling (r * max f F) F * q → s ≤ (ceiling (r * max f F) F + e) * (F * q)
    counted h g k l n m o = omega arith
