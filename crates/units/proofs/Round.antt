-- The rounding division's arithmetic, over ℤ with no widths.
use Rattle.std.proofs.Common.{◌≡◌, ℕ, zero, suc, ◌+◌, ◌*◌, ◌/◌, ◌%◌, ◌<◌, ◌≤◌, ◌⊎◌, ℤ, pos, negsuc, ◌+ℤ◌, ◌-ℤ◌, ◌*ℤ◌, neg_ℤ, nat_abs, ◌≤ℤ◌, ◌<ℤ◌, refl, ◌∙◌, subst, inl, inr, mul-le-mul_right, mod-lt, div-le_self, arith, w64, SFits, to_z, of_z}
use native.Mathlib.Nat.{div-add-mod}
use lib.Signed.{quot_z}
use borrow.Author.Differences.{ints, up, down, quot_is}
use mir.Syntax.{Width}
use Rattle.std.proofs.lemmas.Int.{by_lt_z, to_z-of_z}
use Rattle.units.specs.Nearest.{Nearest, nearest}

-- in naturals: q with k * q + r = a + k/2 is nearest to a / k
nat_close : (a k q r : ℕ) → k * q + r ≡ a + k / 2 → r < k → (2 * (q * k) ≤ 2 * a + k) × (2 * a ≤ 2 * (q * k) + k) × (2 * a ≡ 2 * (q * k) + k → ⊥)
nat_close a k q r e m = omega arith

up_by : (a k q r : ℕ) → k * q + r ≡ a + k / 2 → r < k → Nearest (pos a) (pos k) (pos q)
up_by a k q r e m =
    let c = nat_close a k q r e m in
    record { close = omega (arith, ints); tie = λ t. omega (arith, ints) }

pub up_case : (a k : ℕ) → 0 < k → Nearest (pos a) (pos k) (pos ((a + k / 2) / k))
up_case a k h = up_by a k ((a + k / 2) / k) ((a + k / 2) % k) (div-add-mod (a + k / 2) k) (mod-lt (a + k / 2) h)

down_by : (a k q r : ℕ) → k * q + r ≡ suc (a + k / 2) → r < k → Nearest (negsuc a) (pos k) (neg_ℤ (pos q))
down_by a k zero r e m =
    let c = nat_close (suc a) k zero r (omega arith) m in
    record { close = omega (arith, ints); tie = λ t. omega (arith, ints) }
down_by a k (suc q) r e m =
    let c = nat_close (suc a) k (suc q) r (omega arith) m in
    record { close = omega (arith, ints); tie = λ t. omega (arith, ints) }

pub down_case : (a k : ℕ) → 0 < k → Nearest (negsuc a) (pos k) (neg_ℤ (pos (suc (a + k / 2) / k)))
down_case a k h = down_by a k (suc (a + k / 2) / k) (suc (a + k / 2) % k) (div-add-mod (suc (a + k / 2)) k) (mod-lt (suc (a + k / 2)) h)

-- the two branches of the code
pub rounds_up : (n d : ℤ) → pos 0 ≤ℤ n → pos 1 ≤ℤ d → Nearest n d (quot_z (n +ℤ quot_z d (pos 2)) d)
rounds_up (pos a) (pos k) h g = up_case a k (omega (arith, ints))
rounds_up (negsuc a) d h g = absurd (omega (arith, ints))
rounds_up (pos a) (negsuc k) h g = absurd (omega (arith, ints))

down_sum : (a h : ℕ) → negsuc a +ℤ neg_ℤ (pos h) ≡ negsuc (a + h)
down_sum a h = omega (arith, ints)

pub rounds_down : (n d : ℤ) → n <ℤ pos 0 → pos 1 ≤ℤ d → Nearest n d (quot_z (n -ℤ quot_z d (pos 2)) d)
rounds_down (negsuc a) (pos k) h g =
    rw (down_sum a (k / 2)) (down_case a k (omega (arith, ints)))
rounds_down (pos a) d h g = absurd (omega (arith, ints))
rounds_down (negsuc a) (negsuc k) h g = absurd (omega (arith, ints))

-- the contract says which number it is
not_two : (n : ℤ) (k : ℕ) (r s : ℤ) → 0 < k → Nearest n (pos k) r → Nearest n (pos k) s → r <ℤ s → ⊥
not_two n k (pos r) (pos s) g p q h =
    let l : r < s = omega (arith, ints) in
    let m = mul-le-mul_right k l in
    let t = p.tie (omega (arith, ints)) in
    omega (arith, ints)
not_two n k (negsuc r) (pos s) g p q h =
    let t = p.tie (omega (arith, ints)) in
    let u = q.tie (omega (arith, ints)) in
    omega (arith, ints)
not_two n k (negsuc r) (negsuc s) g p q h =
    let l : s < r = omega (arith, ints) in
    let m = mul-le-mul_right k l in
    let u = q.tie (omega (arith, ints)) in
    omega (arith, ints)
not_two n k (pos r) (negsuc s) g p q h = omega (arith, ints)

pub one_only : (n d r s : ℤ) → pos 1 ≤ℤ d → Nearest n d r → Nearest n d s → r ≡ s
one_only n (pos k) r s g p q =
    by_lt_z r s (λ h. absurd (not_two n k r s (omega (arith, ints)) p q h))
    (λ h. by_lt_z s r (λ h'. absurd (not_two n k s r (omega (arith, ints)) q p h')) (λ h'. omega (arith, ints)))
one_only n (negsuc k) r s g p q = absurd (omega (arith, ints))

-- a quotient is no larger than its dividend
pub quot_fits : (w : Width) (a d : ℤ) → SFits w a → pos 1 ≤ℤ d → SFits w (quot_z a d)
quot_fits w a (pos k) f g = let q = quot_is a k in let u = div-le_self (up a) k in let v = div-le_self (down a) k in let e = exact a in elim_fits w a (quot_z a (pos k)) f e (omega arith) (omega arith)
  where
    exact : (a : ℤ) → (up a ≡ 0) ⊎ (down a ≡ 0)
    exact (pos n) = inr refl
    exact (negsuc n) = inl refl

    elim_fits : (w : Width) (a b : ℤ) → SFits w a → (up a ≡ 0) ⊎ (down a ≡ 0) → up b ≤ up a → down b ≤ down a → SFits w b
    elim_fits w a b f e u v = omega (arith, ints)
quot_fits w a (negsuc k) f g = absurd (omega (arith, ints))

-- the same as the code has it, through the bits of 64
pub bits_up : (n d : ℤ) → SFits w64 n → SFits w64 d → nat_abs n ≤ 4000000000000000000 → pos 1 ≤ℤ d → d ≤ℤ pos 1000000000 → pos 0 ≤ℤ n → Nearest n d (to_z w64 (of_z w64 (quot_z (to_z w64 (of_z w64 (to_z w64 (of_z w64 n) +ℤ to_z w64 (of_z w64 (quot_z (to_z w64 (of_z w64 d)) (pos 2)))))) (to_z w64 (of_z w64 d)))))
bits_up n d fn fd b g l h =
    let fh : SFits w64 (quot_z d (pos 2)) = omega (arith, ints) in
    let fs : SFits w64 (n +ℤ quot_z d (pos 2)) = omega (arith, ints) in
    let fq : SFits w64 (quot_z (n +ℤ quot_z d (pos 2)) d) = quot_fits w64 (n +ℤ quot_z d (pos 2)) d fs g in
    simp to_z-of_z (rounds_up n d h g)

pub bits_down : (n d : ℤ) → SFits w64 n → SFits w64 d → nat_abs n ≤ 4000000000000000000 → pos 1 ≤ℤ d → d ≤ℤ pos 1000000000 → n <ℤ pos 0 → Nearest n d (to_z w64 (of_z w64 (quot_z (to_z w64 (of_z w64 (to_z w64 (of_z w64 n) -ℤ to_z w64 (of_z w64 (quot_z (to_z w64 (of_z w64 d)) (pos 2)))))) (to_z w64 (of_z w64 d)))))
bits_down n d fn fd b g l h =
    let fh : SFits w64 (quot_z d (pos 2)) = omega (arith, ints) in
    let fs : SFits w64 (n -ℤ quot_z d (pos 2)) = omega (arith, ints) in
    let fq : SFits w64 (quot_z (n -ℤ quot_z d (pos 2)) d) = quot_fits w64 (n -ℤ quot_z d (pos 2)) d fs g in
    simp to_z-of_z (rounds_down n d h g)

-- where the division leaves no remainder, the result is exact
whole_case : (a k q : ℕ) → q * k ≡ a → Nearest (pos a) (pos k) (pos q)
whole_case a k q e = record { close = omega (arith, ints); tie = λ t. omega (arith, ints) }

whole_down : (a k q : ℕ) → q * k ≡ suc a → Nearest (negsuc a) (pos k) (neg_ℤ (pos q))
whole_down a k zero e = absurd (omega arith)
whole_down a k (suc q) e = record { close = omega (arith, ints); tie = λ t. omega (arith, ints) }

gap_up : (a k q : ℕ) → q * k ≡ a → nat_abs (pos a -ℤ pos q *ℤ pos k) ≡ 0
gap_up a k q e = omega (arith, ints)

gap_down : (a k q : ℕ) → q * k ≡ suc a → nat_abs (negsuc a -ℤ neg_ℤ (pos q) *ℤ pos k) ≡ 0
gap_down a k zero e = absurd (omega arith)
gap_down a k (suc q) e = omega (arith, ints)

pub exact_if : (n r : ℤ) (k : ℕ) → 0 < k → nat_abs n % k ≡ 0 → Nearest n (pos k) r → nat_abs (n -ℤ r *ℤ pos k) ≡ 0
exact_if (pos a) r k h m p =
    let e : a / k * k ≡ a = omega (arith, div-add-mod a k) in
    subst (λ (z : ℤ). nat_abs (pos a -ℤ z *ℤ pos k) ≡ 0) (one_only (pos a) (pos k) (pos (a / k)) r (omega (arith, ints)) (whole_case a k (a / k) e) p) (gap_up a k (a / k) e)
exact_if (negsuc a) r k h m p =
    let e : suc a / k * k ≡ suc a = omega (arith, div-add-mod (suc a) k) in
    subst (λ (z : ℤ). nat_abs (negsuc a -ℤ z *ℤ pos k) ≡ 0) (one_only (negsuc a) (pos k) (neg_ℤ (pos (suc a / k))) r (omega (arith, ints)) (whole_down a k (suc a / k) e) p) (gap_down a k (suc a / k) e)

-- the number that is nearest
pub nearest_near : (n : ℤ) (k : ℕ) → 0 < k → Nearest n (pos k) (nearest n k)
unfolding nearest
nearest_near (pos a) k h = up_case a k h
nearest_near (negsuc a) k h = down_case a k h

pub nearest_is : (n r : ℤ) (k : ℕ) → 0 < k → Nearest n (pos k) r → r ≡ nearest n k
nearest_is n r k h p = one_only n (pos k) r (nearest n k) (omega (arith, ints)) p (nearest_near n k h)

-- the quotient through the bits of 64
pub through_bits : (n d r : ℤ) (k : ℕ) → SFits w64 n → SFits w64 d → SFits w64 r → d ≡ pos k → 0 < k → Nearest (to_z w64 (of_z w64 n)) (to_z w64 (of_z w64 d)) r → to_z w64 (of_z w64 r) ≡ nearest n k
through_bits n d r k fn fd fr e h p =
    let p1 = subst (λ (z : ℤ). Nearest z (to_z w64 (of_z w64 d)) r) (to_z-of_z w64 n fn) p in
    let p2 = subst (λ (z : ℤ). Nearest n z r) (to_z-of_z w64 d fd ∙ e) p1 in
    to_z-of_z w64 r fr ∙ nearest_is n r k h p2
