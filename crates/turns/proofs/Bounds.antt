-- A term that is cut off is at most 3 below the term.
use mathlib.Core.Path.{◌≡◌, refl, sym, ◌∙◌, ap, subst}
use Prim.Native.Nat.{ℕ, zero, suc, ◌+◌, ◌-◌, ◌*◌, ◌/◌, ◌^◌, ◌≤◌, ◌<◌}
use native.Mathlib.Omega.{arith}
use native.Mathlib.Nat.{mul-le-mul_right, mul-le-mul_left, mul-le-mul, le_of_mul-le-mul_right, mul-pos, div-mul-le_self, lt-div-mul-add, pow-suc, pow-zero, le_trans}
use lib.IntN.{pos, ◌-ℤ◌, ◌*ℤ◌, nat_abs}
use borrow.Author.Differences.{ints}
use Rattle.turns.specs.Reference.{term, unit, whole, Π, fact, cosine_up, cosine_down, sine_up, sine_down, OctantLaw}
use Rattle.turns.specs.Terms.{cut_term}
use Rattle.turns.specs.Numbers.{argument, cosine_sum, sine_sum, octant_c, octant_s}

-- the term t over W, told as T in S-ths
module _ (W S v X x T T' t t' k : ℕ) (rec : t' * (k * (S * v)) ≡ t * X) (ps : 0 < S) (pv : 0 < v) (pk : 0 < k) where
  low : T' * (k * S) ≤ T * x → T * W ≤ S * t → x * v ≤ X → T' * W ≤ S * t'
  low h lo hx =
      let m1 = mul-le-mul_right (W * v) h in
      let m2 = mul-le-mul lo hx in
      let m3 = ap (λ (z : ℕ). S * z) rec in
      le_of_mul-le-mul_right {k = k * (S * v)} (omega arith) (mul-pos pk (mul-pos ps pv))

  high : T * x < (T' + 1) * (k * S) → S * t ≤ (T + 3) * W → X ≤ (x + 1) * v → T ≤ S → x + 1 ≤ S → 2 ≤ k → S * t' ≤ (T' + 3) * W
  high h hi hx ts xs k2 =
      let m1 = mul-le-mul_right (W * v) h in
      let m2 = mul-le-mul hi hx in
      let m3 = ap (λ (z : ℕ). S * z) rec in
      let m4 = mul-le-mul_right (W * v) ts in
      let m5 = mul-le-mul_right (W * v) xs in
      let m6 = mul-le-mul_right (S * (W * v)) k2 in
      le_of_mul-le-mul_right {k = k * (S * v)} (omega arith) (mul-pos pk (mul-pos ps pv))

first : (W S v X x T' t' : ℕ) → t' * (1 * (S * v)) ≡ W * X → 0 < S → 0 < v → S * x < (T' + 1) * (1 * S) → X ≤ (x + 1) * v → S * t' ≤ (T' + 3) * W
first W S v X x T' t' rec ps pv h hx =
    let m1 = mul-le-mul_right (W * v) h in
    let m2 = mul-le-mul_left (S * W) hx in
    let m3 = ap (λ (z : ℕ). S * z) rec in
    le_of_mul-le-mul_right {k = S * v} (omega arith) (mul-pos ps pv)

-- a term from the one before
pub next : (X n c c' m : ℕ) → c' * m ≡ c → X ^ suc n * c' * m ≡ X ^ n * c * X
next X n c c' m e = rw (pow-suc X n) (omega (arith, ap (λ (z : ℕ). X ^ n * X * z) e))

-- the k-th term of the program is near
pub record Near (a x k : ℕ) : Type 0 where
  pub low_side : cut_term x k * whole ≤ 10 ^ 18 * term a k
  pub high_side : 10 ^ 18 * term a k ≤ (cut_term x k + 3) * whole
  pub most : cut_term x k ≤ 10 ^ 18

abbrev pub share : ℕ → ℕ
share n = unit ^ (16 - n) * (fact 16 / fact n)

cut : (m d : ℕ) → 0 < d → (m / d * d ≤ m) × (m < (m / d + 1) * d)
cut m d h = let l = lt-div-mul-add {a = m} h in (div-mul-le_self m d, omega arith)

pub falls : (T T' x k S : ℕ) → T' * (k * S) ≤ T * x → x ≤ S → 0 < k → 0 < S → T' ≤ T
falls T T' x k S h l pk ps =
    let m1 = mul-le-mul_left T l in
    let m2 = mul-le-mul_right (T * S) pk in
    le_of_mul-le-mul_right {k = k * S} (omega arith) (mul-pos pk ps)

pub term_zero : (a : ℕ) → term a 0 ≡ whole
term_zero a = rw (pow-zero (a * Π))

pub cut_next : (x k t : ℕ) → 1 ≤ k → t ≡ cut_term x (k - 1) → t * x / (k * 10 ^ 18) ≡ cut_term x k
unfolding cut_term
cut_next x zero t h e = absurd (omega arith)
cut_next x (suc n) t h e = let p : suc n - 1 ≡ n = omega arith in ap (λ (z : ℕ). z * x / (suc n * 10 ^ 18)) (e ∙ ap (cut_term x) p)

start : (W t : ℕ) → t ≡ W → (10 ^ 18 * W ≤ 10 ^ 18 * t) × (10 ^ 18 * t ≤ (10 ^ 18 + 3) * W)
start W t e = omega arith

module _ (a x : ℕ) (lo : x * 180000000 ≤ a * Π) (hi : a * Π ≤ (x + 1) * 180000000) (xs : x + 1 ≤ 10 ^ 18) where
  cut_by : (n : ℕ) → (cut_term x (suc n) * (suc n * 10 ^ 18) ≤ cut_term x n * x) × (cut_term x n * x < (cut_term x (suc n) + 1) * (suc n * 10 ^ 18))
  unfolding cut_term
  cut_by n = cut (cut_term x n * x) (suc n * 10 ^ 18) (omega arith)

  cut_fall : (n : ℕ) → cut_term x (suc n) ≤ cut_term x n
  cut_fall n = falls (cut_term x n) (cut_term x (suc n)) x (suc n) (10 ^ 18) (cut_by n).0 (omega arith) (omega arith) (omega arith)

  step : (n : ℕ) → share (suc n) * (suc n * unit) ≡ share n → 1 ≤ n → Near a x n → Near a x (suc n)
  step n e n1 p =
      let r = next (a * Π) n (share n) (share (suc n)) (suc n * unit) e in
      record {
        low_side = low whole (10 ^ 18) 180000000 (a * Π) x (cut_term x n) (cut_term x (suc n)) (term a n) (term a (suc n)) (suc n) r (omega arith) (omega arith) (omega arith) (cut_by n).0 p.low_side lo;
        high_side = high whole (10 ^ 18) 180000000 (a * Π) x (cut_term x n) (cut_term x (suc n)) (term a n) (term a (suc n)) (suc n) r (omega arith) (omega arith) (omega arith) (cut_by n).1 p.high_side hi p.most xs (omega arith);
        most = le_trans (cut_fall n) p.most;
      }

  pub near0 : Near a x 0
  unfolding cut_term
  near0 = let s = start whole (term a 0) (term_zero a) in record { low_side = s.0; high_side = s.1; most = omega arith }

  first_term : term a 1 * (1 * unit) ≡ whole * (a * Π)
  first_term = next (a * Π) 0 (share 0) (share 1) (1 * unit) refl ∙ ap (λ (z : ℕ). z * (a * Π)) (term_zero a)

  start_cut : 10 ^ 18 * x < (cut_term x 1 + 1) * (1 * 10 ^ 18)
  unfolding cut_term
  start_cut = (cut_by 0).1

  pub near1 : Near a x 1
  near1 =
      let r = next (a * Π) 0 (share 0) (share 1) (1 * unit) refl in
      record {
        low_side = low whole (10 ^ 18) 180000000 (a * Π) x (cut_term x 0) (cut_term x 1) (term a 0) (term a 1) 1 r (omega arith) (omega arith) (omega arith) (cut_by 0).0 near0.low_side lo;
        high_side = first whole (10 ^ 18) 180000000 (a * Π) x (cut_term x 1) (term a 1) first_term (omega arith) (omega arith) (start_cut) hi;
        most = le_trans (cut_fall 0) near0.most;
      }

  pub near2 : Near a x 2
  near2 = step 1 refl (omega arith) near1

  pub near3 : Near a x 3
  near3 = step 2 refl (omega arith) near2

  pub near4 : Near a x 4
  near4 = step 3 refl (omega arith) near3

  pub near5 : Near a x 5
  near5 = step 4 refl (omega arith) near4

  pub near6 : Near a x 6
  near6 = step 5 refl (omega arith) near5

  pub near7 : Near a x 7
  near7 = step 6 refl (omega arith) near6

  pub near8 : Near a x 8
  near8 = step 7 refl (omega arith) near7

  pub near9 : Near a x 9
  near9 = step 8 refl (omega arith) near8

  pub near10 : Near a x 10
  near10 = step 9 refl (omega arith) near9

  pub near11 : Near a x 11
  near11 = step 10 refl (omega arith) near10

  pub near12 : Near a x 12
  near12 = step 11 refl (omega arith) near11

  pub near13 : Near a x 13
  near13 = step 12 refl (omega arith) near12

  pub near14 : Near a x 14
  near14 = step 13 refl (omega arith) near13

  pub near15 : Near a x 15
  near15 = step 14 refl (omega arith) near14

  pub near16 : Near a x 16
  near16 = step 15 refl (omega arith) near15

pub record Close (W e T t : ℕ) : Type 0 where
  pub under : T * W ≤ 10 ^ 18 * t
  pub over : 10 ^ 18 * t ≤ (T + e) * W

close : {a x k : ℕ} → Near a x k → Close whole 3 (cut_term x k) (term a k)
close n = record { under = n.low_side; over = n.high_side }

close0 : (a : ℕ) → Close whole 3 (10 ^ 18) (term a 0)
close0 a = let s = start whole (term a 0) (term_zero a) in record { under = s.0; over = s.1 }

join : {W e f T U t u : ℕ} → Close W e T t → Close W f U u → Close W (e + f) (T + U) (t + u)
join p q = omega arith

weaken : {W T t : ℕ} → Close W 12 T t → Close W 15 T t
weaken p = omega arith

-- from the sums to the number that is told
pub told : (W P N p n c : ℕ) → c + N ≡ P → Close W 15 P p → Close W 15 N n → nat_abs (pos ((c + 500000000) / 1000000000) *ℤ pos W -ℤ pos (10 ^ 9) *ℤ (pos p -ℤ pos n)) ≤ W
told W P N p n c e cp cn =
    let q = (c + 500000000) / 1000000000 in
    let a1 : q * 1000000000 ≤ c + 500000000 = omega arith in
    let a2 : c + 500000000 ≤ q * 1000000000 + 999999999 = omega arith in
    let m0 = ap (λ (z : ℕ). z * W) e in
    let m1 = mul-le-mul_right W a1 in
    let m2 = mul-le-mul_right W a2 in
    let u1 : q * W + 10 ^ 9 * n ≤ 10 ^ 9 * p + W = omega arith in
    let u2 : 10 ^ 9 * p ≤ q * W + 10 ^ 9 * n + W = omega arith in
    apart W q p n u1 u2
  where
    apart : (W q p n : ℕ) → q * W + 10 ^ 9 * n ≤ 10 ^ 9 * p + W → 10 ^ 9 * p ≤ q * W + 10 ^ 9 * n + W → nat_abs (pos q *ℤ pos W -ℤ pos (10 ^ 9) *ℤ (pos p -ℤ pos n)) ≤ W
    apart W q p n u1 u2 = omega (arith, ints)

cos_sum : (S t2 t4 t6 t8 t10 t12 t14 t16 : ℕ) → t2 ≤ S → t4 ≤ t2 → t6 ≤ t4 → t8 ≤ t6 → t10 ≤ t8 → t12 ≤ t10 → t14 ≤ t12 → t16 ≤ t14 → (S - (t2 - t4) - (t6 - t8) - (t10 - t12) - (t14 - t16)) + (t2 + t6 + t10 + t14) ≡ S + t4 + t8 + t12 + t16
cos_sum S t2 t4 t6 t8 t10 t12 t14 t16 h2 h4 h6 h8 h10 h12 h14 h16 = omega arith

sin_sum : (t1 t3 t5 t7 t9 t11 t13 t15 : ℕ) → t3 ≤ t1 → t7 ≤ t5 → t11 ≤ t9 → t15 ≤ t13 → ((t1 - t3) + (t5 - t7) + (t9 - t11) + (t13 - t15)) + (t3 + t7 + t11 + t15) ≡ t1 + t5 + t9 + t13
sin_sum t1 t3 t5 t7 t9 t11 t13 t15 h1 h2 h3 h4 = omega arith

most_of : (c : ℕ) → c ≤ 10 ^ 18 → (c + 500000000) / 1000000000 ≤ 10 ^ 9
most_of c h = omega arith

none_at_0 : (a : ℕ) → a ≡ 0 → ((cosine_sum (argument a) + 500000000) / 1000000000 ≡ 10 ^ 9) × ((sine_sum (argument a) + 500000000) / 1000000000 ≡ 0)
unfolding cut_term
none_at_0 a e = subst (λ (z : ℕ). ((cosine_sum (argument z) + 500000000) / 1000000000 ≡ 10 ^ 9) × ((sine_sum (argument z) + 500000000) / 1000000000 ≡ 0)) (sym e) (refl, refl)

module _ (a x : ℕ) (lo : x * 180000000 ≤ a * Π) (hi : a * Π ≤ (x + 1) * 180000000) (xs : x + 1 ≤ 10 ^ 18) where
  fall : (n : ℕ) → cut_term x (suc n) ≤ cut_term x n
  fall n = cut_fall a x lo hi xs n

  two : (n : ℕ) → cut_term x (suc (suc n)) ≤ cut_term x n
  two n = le_trans (fall (suc n)) (fall n)

  cos_is : cosine_sum x + (cut_term x 2 + cut_term x 6 + cut_term x 10 + cut_term x 14) ≡ 10 ^ 18 + cut_term x 4 + cut_term x 8 + cut_term x 12 + cut_term x 16
  cos_is = cos_sum (10 ^ 18) (cut_term x 2) (cut_term x 4) (cut_term x 6) (cut_term x 8) (cut_term x 10) (cut_term x 12) (cut_term x 14) (cut_term x 16)
      (near2 a x lo hi xs).most (two 2) (two 4) (two 6) (two 8) (two 10) (two 12) (two 14)

  sin_is : sine_sum x + (cut_term x 3 + cut_term x 7 + cut_term x 11 + cut_term x 15) ≡ cut_term x 1 + cut_term x 5 + cut_term x 9 + cut_term x 13
  sin_is = sin_sum (cut_term x 1) (cut_term x 3) (cut_term x 5) (cut_term x 7) (cut_term x 9) (cut_term x 11) (cut_term x 13) (cut_term x 15) (two 1) (two 5) (two 9) (two 13)

  cos_up : Close whole 15 (10 ^ 18 + cut_term x 4 + cut_term x 8 + cut_term x 12 + cut_term x 16) (cosine_up a)
  cos_up = join (join (join (join (close0 a) (close (near4 a x lo hi xs))) (close (near8 a x lo hi xs))) (close (near12 a x lo hi xs))) (close (near16 a x lo hi xs))

  cos_down : Close whole 12 (cut_term x 2 + cut_term x 6 + cut_term x 10 + cut_term x 14) (cosine_down a)
  cos_down = join (join (join (close (near2 a x lo hi xs)) (close (near6 a x lo hi xs))) (close (near10 a x lo hi xs))) (close (near14 a x lo hi xs))

  sin_up : Close whole 12 (cut_term x 1 + cut_term x 5 + cut_term x 9 + cut_term x 13) (sine_up a)
  sin_up = join (join (join (close (near1 a x lo hi xs)) (close (near5 a x lo hi xs))) (close (near9 a x lo hi xs))) (close (near13 a x lo hi xs))

  sin_down : Close whole 12 (cut_term x 3 + cut_term x 7 + cut_term x 11 + cut_term x 15) (sine_down a)
  sin_down = join (join (join (close (near3 a x lo hi xs)) (close (near7 a x lo hi xs))) (close (near11 a x lo hi xs))) (close (near15 a x lo hi xs))

  small_sin : (t1 t3 t5 t7 t9 t11 t13 t15 c S : ℕ) → c + (t3 + t7 + t11 + t15) ≡ t1 + t5 + t9 + t13 → t5 ≤ t3 → t9 ≤ t7 → t13 ≤ t11 → t1 ≤ S → c ≤ S
  small_sin t1 t3 t5 t7 t9 t11 t13 t15 c S e h1 h2 h3 h4 = omega arith

  small_cos : (S t2 t4 t6 t8 t10 t12 t14 t16 c : ℕ) → c + (t2 + t6 + t10 + t14) ≡ S + t4 + t8 + t12 + t16 → t4 ≤ t2 → t8 ≤ t6 → t12 ≤ t10 → t16 ≤ t14 → c ≤ S
  small_cos S t2 t4 t6 t8 t10 t12 t14 t16 c e h1 h2 h3 h4 = omega arith

  octant_by : (a ≡ 0 → ((cosine_sum x + 500000000) / 1000000000 ≡ 10 ^ 9) × ((sine_sum x + 500000000) / 1000000000 ≡ 0)) → OctantLaw a ((cosine_sum x + 500000000) / 1000000000) ((sine_sum x + 500000000) / 1000000000)
  octant_by z = record {
    cosine_near = told whole (10 ^ 18 + cut_term x 4 + cut_term x 8 + cut_term x 12 + cut_term x 16) (cut_term x 2 + cut_term x 6 + cut_term x 10 + cut_term x 14) (cosine_up a) (cosine_down a) (cosine_sum x) cos_is cos_up (weaken cos_down);
    sine_near = told whole (cut_term x 1 + cut_term x 5 + cut_term x 9 + cut_term x 13) (cut_term x 3 + cut_term x 7 + cut_term x 11 + cut_term x 15) (sine_up a) (sine_down a) (sine_sum x) sin_is (weaken sin_up) (weaken sin_down);
    cosine_most = most_of (cosine_sum x) (small_cos (10 ^ 18) (cut_term x 2) (cut_term x 4) (cut_term x 6) (cut_term x 8) (cut_term x 10) (cut_term x 12) (cut_term x 14) (cut_term x 16) (cosine_sum x) cos_is (two 2) (two 6) (two 10) (two 14));
    sine_most = most_of (sine_sum x) (small_sin (cut_term x 1) (cut_term x 3) (cut_term x 5) (cut_term x 7) (cut_term x 9) (cut_term x 11) (cut_term x 13) (cut_term x 15) (sine_sum x) (10 ^ 18) sin_is (two 3) (two 7) (two 11) (near1 a x lo hi xs).most);
    none = z;
  }

pub octant : (a : ℕ) → a ≤ 450000 → OctantLaw a ((cosine_sum (argument a) + 500000000) / 1000000000) ((sine_sum (argument a) + 500000000) / 1000000000)
octant a h =
    let x = argument a in
    let lo : argument a * 180000000 ≤ a * Π = omega arith in
    let hi : a * Π ≤ (argument a + 1) * 180000000 = omega arith in
    let xs : argument a + 1 ≤ 10 ^ 18 = omega arith in
    octant_by a x lo hi xs (none_at_0 a)

pub octant_numbers : (a : ℕ) → a ≤ 450000 → OctantLaw a (octant_c a) (octant_s a)
unfolding octant_c octant_s
octant_numbers a h = octant a h
