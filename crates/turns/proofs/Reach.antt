-- |c| + |s| is at most 3/2.
use mathlib.Core.Path.{◌≡◌, refl, sym, ◌∙◌, ap, subst}
use mathlib.Core.Bool.{Bool, true, false, cond, not}
use Prim.Native.Nat.{ℕ, zero, suc, ◌+◌, ◌-◌, ◌*◌, ◌/◌, ◌%◌, ◌≤◌, ◌<◌}
use native.Mathlib.Omega.{arith}
use native.Mathlib.Nat.{mul-le-mul_right, mul-le-mul_left, mul-le-mul, le_of_mul-le-mul_right, mul-pos, le_of_eq}
use lib.IntN.{ℤ, pos, ◌-ℤ◌, neg_ℤ, nat_abs}
use lib.Dec.{T, leb, leb→le, nleb→lt}
use borrow.Author.Differences.{ints}
use Rattle.turns.specs.Reference.{term, unit, whole, Π, cosine, sine, quarter_cosine, quarter_sine, quarters_cosine, quarters_sine, cosine_of, sine_of}
use Rattle.turns.proofs.Bounds.{next, share, term_zero, falls}

-- X / D is at most 0.7854
short : (X D : ℕ) → 10000 * X ≤ 7854 * D → X * X + 3 * (X * D) ≤ 3 * (D * D)
short X D h = let m1 = mul-le-mul_right X h in let m2 = mul-le-mul_right D h in omega arith

poly_by : (X Y : ℕ) → X * X ≤ 3 * ((X + Y) * Y) → 48 * (X * ((X + Y) * ((X + Y) * (X + Y)))) + 2 * (X * X * (X * X)) ≤ 24 * ((X + Y) * ((X + Y) * ((X + Y) * (X + Y)))) + 24 * (X * (X * ((X + Y) * (X + Y))))
poly_by X Y h = let m = mul-le-mul h h in omega arith

poly : (X D : ℕ) → 10000 * X ≤ 7854 * D → 48 * (X * (D * (D * D))) + 2 * (X * X * (X * X)) ≤ 24 * (D * (D * (D * D))) + 24 * (X * (X * (D * D)))
poly X D h =
    let e : X + (D - X) ≡ D = omega arith in
    let s = short X D h in
    let s' : X * X + 3 * (X * (X + (D - X))) ≤ 3 * ((X + (D - X)) * (X + (D - X))) = rw e s in
    let m : X * X ≤ 3 * ((X + (D - X)) * (D - X)) = omega (arith, s') in
    rw e at (poly_by X (D - X) m)

-- the terms, from one to the next
four : (W X D t1 t2 t3 t4 : ℕ) → 0 < D → 10000 * X ≤ 7854 * D → t1 * (1 * D) ≡ W * X → t2 * (2 * D) ≡ t1 * X → t3 * (3 * D) ≡ t2 * X → t4 * (4 * D) ≡ t3 * X → 2 * t1 + 2 * t4 ≤ W + 2 * t2
four W X D t1 t2 t3 t4 pd h e1 e2 e3 e4 =
    let a2 : t2 * (2 * (D * D)) ≡ W * (X * X) = omega (arith, ap (λ (z : ℕ). z * D) e2, ap (λ (z : ℕ). z * X) e1) in
    let a3 : t3 * (6 * (D * (D * D))) ≡ W * (X * (X * X)) = omega (arith, ap (λ (z : ℕ). z * (2 * (D * D))) e3, ap (λ (z : ℕ). z * X) a2) in
    let a4 : t4 * (24 * (D * (D * (D * D)))) ≡ W * (X * (X * (X * X))) = omega (arith, ap (λ (z : ℕ). z * (6 * (D * (D * D)))) e4, ap (λ (z : ℕ). z * X) a3) in
    let p = mul-le-mul_left W (poly X D h) in
    let b1 = ap (λ (z : ℕ). z * (D * (D * D))) e1 in
    let b2 = ap (λ (z : ℕ). z * (D * D)) a2 in
    le_of_mul-le-mul_right {k = 24 * (D * (D * (D * D)))} (omega (arith, p, a4, b1, b2)) (mul-pos (omega arith) (mul-pos pd (mul-pos pd (mul-pos pd pd))))

-- the first octant
module _ (a : ℕ) (h : a ≤ 450000) where
  rec : (n : ℕ) → share (suc n) * (suc n * unit) ≡ share n → term a (suc n) * (suc n * unit) ≡ term a n * (a * Π)
  rec n e = next (a * Π) n (share n) (share (suc n)) (suc n * unit) e

  fall : (n : ℕ) → share (suc n) * (suc n * unit) ≡ share n → term a (suc n) ≤ term a n
  fall n e = falls (term a n) (term a (suc n)) (a * Π) (suc n) unit (le_of_eq (rec n e)) (omega arith) (omega arith) (omega arith)

  first : term a 1 * (1 * unit) ≡ whole * (a * Π)
  first = rec 0 refl ∙ ap (λ (z : ℕ). z * (a * Π)) (term_zero a)

  start : 2 * term a 1 + 2 * term a 4 ≤ whole + 2 * term a 2
  start = four whole (a * Π) unit (term a 1) (term a 2) (term a 3) (term a 4) (omega arith) (omega arith) first (rec 1 refl) (rec 2 refl) (rec 3 refl)

  sums : (W t0 t1 t2 t3 t4 t5 t6 t7 t8 t9 t10 t11 t12 t13 t14 t15 t16 : ℕ) → t0 ≡ W → 2 * t1 + 2 * t4 ≤ W + 2 * t2 → t1 ≤ t0 → t2 ≤ t1 → t3 ≤ t2 → t4 ≤ t3 → t5 ≤ t4 → t6 ≤ t5 → t7 ≤ t6 → t8 ≤ t7 → t9 ≤ t8 → t10 ≤ t9 → t11 ≤ t10 → t12 ≤ t11 → t13 ≤ t12 → t14 ≤ t13 → t15 ≤ t14 → t16 ≤ t15 →
      2 * (nat_abs (pos (t0 + t4 + t8 + t12 + t16) -ℤ pos (t2 + t6 + t10 + t14)) + nat_abs (pos (t1 + t5 + t9 + t13) -ℤ pos (t3 + t7 + t11 + t15))) ≤ 3 * W
  sums W t0 t1 t2 t3 t4 t5 t6 t7 t8 t9 t10 t11 t12 t13 t14 t15 t16 e g h1 h2 h3 h4 h5 h6 h7 h8 h9 h10 h11 h12 h13 h14 h15 h16 = omega (arith, ints)

  octant_reach : 2 * (nat_abs (cosine a) + nat_abs (sine a)) ≤ 3 * whole
  octant_reach = sums whole (term a 0) (term a 1) (term a 2) (term a 3) (term a 4) (term a 5) (term a 6) (term a 7) (term a 8) (term a 9) (term a 10) (term a 11) (term a 12) (term a 13) (term a 14) (term a 15) (term a 16)
      (term_zero a) start (fall 0 refl) (fall 1 refl) (fall 2 refl) (fall 3 refl) (fall 4 refl) (fall 5 refl) (fall 6 refl) (fall 7 refl) (fall 8 refl) (fall 9 refl) (fall 10 refl) (fall 11 refl) (fall 12 refl) (fall 13 refl) (fall 14 refl) (fall 15 refl)

-- the first quadrant, and all
swap : (p q W : ℕ) → 2 * (p + q) ≤ 3 * W → 2 * (q + p) ≤ 3 * W
swap p q W h = omega arith

quarter_by : (a : ℕ) → a ≤ 900000 → (t : Bool) → leb a 450000 ≡ t → 2 * (nat_abs (cond t (cosine a) (sine (900000 - a))) + nat_abs (cond t (sine a) (cosine (900000 - a)))) ≤ 3 * whole
quarter_by a h true e = octant_reach a (leb→le a 450000 (subst T (sym e) tt))
quarter_by a h false e =
    let l : 450000 < a = nleb→lt a 450000 (subst (λ (t : Bool). T (not t)) (sym e) tt) in
    let g : 900000 - a ≤ 450000 = omega arith in
    swap (nat_abs (cosine (900000 - a))) (nat_abs (sine (900000 - a))) whole (octant_reach (900000 - a) g)

quarters : (q W : ℕ) (c s : ℤ) → 2 * (nat_abs c + nat_abs s) ≤ 3 * W → 2 * (nat_abs (quarters_cosine q c s) + nat_abs (quarters_sine q c s)) ≤ 3 * W
quarters zero W c s h = h
quarters (suc q) W c s h = quarters q W (neg_ℤ s) c (omega (arith, ints))

pub reach : (a : ℕ) → 2 * (nat_abs (cosine_of a) + nat_abs (sine_of a)) ≤ 3 * whole
reach a = quarters (a / 900000) whole (quarter_cosine (a % 900000)) (quarter_sine (a % 900000)) (quarter_by (a % 900000) (omega arith) (leb (a % 900000) 450000) refl)
