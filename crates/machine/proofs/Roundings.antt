-- The roundings are the nearest numbers, and the only ones.
use Rattle.std.proofs.Common.{◌≡◌, ℕ, zero, suc, ◌+◌, ◌-◌, ◌*◌, ◌/◌, ◌%◌, ◌<◌, ◌≤◌, ℤ, pos, negsuc, ◌-ℤ◌, ◌*ℤ◌, neg_ℤ, nat_abs, ◌≤ℤ◌, ◌<ℤ◌, mul-le-mul_right, arith}
use native.Mathlib.Nat.{div-add-mod}
use borrow.Author.Differences.{ints}
use Rattle.std.proofs.lemmas.Int.{by_lt_z}
use Rattle.units.specs.Nearest.{nearest}
use Rattle.units.proofs.Round.{nearest_near, nearest_is}
use Rattle.machine.specs.Count.{lower_count, standing}
use Rattle.machine.specs.Standing.{NearestBelow, RoundingsStand}
use Rattle.machine.specs.Counts.{count_near}

-- at a tie above zero, the lower count stands below
down_tie : (d n q r : ℕ) → 2 * d * q + r ≡ 2 * n + (d - 1) → 1 ≤ d → 2 * nat_abs (pos n -ℤ pos (q * d)) ≡ d → q * d ≤ n
down_tie d n q r e h t = omega (arith, ints)

-- below zero, the one further from 0 does
up_tie : (d n q : ℕ) → suc n ≤ nat_abs (neg_ℤ (pos q) *ℤ pos d) → (neg_ℤ (pos q) *ℤ pos d) ≤ℤ negsuc n
up_tie d n zero h = absurd (omega arith)
up_tie d n (suc q) h = omega (arith, ints)

low_tie : (d : ℕ) (v : ℤ) → 1 ≤ d → 2 * nat_abs (v -ℤ standing d (lower_count d v)) ≡ d → standing d (lower_count d v) ≤ℤ v
unfolding nearest
low_tie d (pos n) h t =
    let q = (2 * n + (d - 1)) / (2 * d) in
    let l = down_tie d n q ((2 * n + (d - 1)) % (2 * d)) (div-add-mod (2 * n + (d - 1)) (2 * d)) h t in
    omega (arith, ints)
low_tie d (negsuc n) h t = up_tie d n (suc (n + d / 2) / d) ((nearest_near (negsuc n) d h).tie t)

not_two : (v : ℤ) (d : ℕ) (r s : ℤ) → 0 < d → NearestBelow v d r → NearestBelow v d s → r <ℤ s → ⊥
not_two v d (pos r) (pos s) g p q h =
    let l : r < s = omega (arith, ints) in
    let m = mul-le-mul_right d l in
    let t = q.tie (omega (arith, ints)) in
    omega (arith, ints)
not_two v d (negsuc r) (pos s) g p q h =
    let t = q.tie (omega (arith, ints)) in
    omega (arith, ints)
not_two v d (negsuc r) (negsuc s) g p q h =
    let l : s < r = omega (arith, ints) in
    let m = mul-le-mul_right d l in
    let t = q.tie (omega (arith, ints)) in
    omega (arith, ints)
not_two v d (pos r) (negsuc s) g p q h = omega (arith, ints)

one_below : (v : ℤ) (d : ℕ) (r s : ℤ) → 0 < d → NearestBelow v d r → NearestBelow v d s → r ≡ s
one_below v d r s g p q =
    by_lt_z r s (λ h. absurd (not_two v d r s g p q h))
    (λ h. by_lt_z s r (λ k. absurd (not_two v d s r g q p k)) (λ k. omega (arith, ints)))

pub roundings : RoundingsStand
roundings d v h =
    let low : NearestBelow v d (lower_count d v) = record { close = count_near d v h; tie = low_tie d v h } in
    record { scale = nearest_near v d h; scale_one = λ k n. nearest_is v k d h n; count = low; count_one = λ k n. one_below v d k (lower_count d v) h n low }
