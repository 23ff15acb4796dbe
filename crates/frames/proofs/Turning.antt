-- Turns: quarter turns are exact, odd ones near.
use Rattle.std.proofs.Common.{◌≡◌, ℕ, zero, suc, ◌/◌, ◌%◌, ◌<◌, max, Bool, true, false, cond, ℤ, pos, negsuc, neg_ℤ, sym, refl, subst, arith, eqb-true}
use native.Mathlib.Nat.{le-max_left, le-max_right}
use borrow.Author.Differences.{ints}
use Rattle.fractions.specs.Fractions.{Frac, Within, over, sum, difference, product}
use Rattle.fractions.proofs.Units.{unit_first_as, unit_second_as}
use Rattle.fractions.proofs.Steps.{wider}
use Rattle.turns.specs.Reference.{whole, quarters_cosine, quarters_sine, quarter_cosine, quarter_sine}
use Rattle.frames.specs.Exact.{first_image, second_image}
use Rattle.frames.specs.Pushing.{odd_spread, quarters_first, quarters_second, quarters_spread, quartered, odd_first, odd_second, turned_first, turned_second, turned_spread}
use Rattle.frames.proofs.Nearness.{odd_first_lem, odd_second_lem}

-- the four quarters
module _ (i j : ℤ) (x y : Frac) (r s : ℕ) (dx : Within i x r) (dy : Within j y s) where
  pub quarter_first : (q : ℕ) → q < 4 → Within (quarters_first q i j) (difference (product (over (quarters_cosine q (pos whole) (pos 0)) whole) x) (product (over (quarters_sine q (pos whole) (pos 0)) whole) y)) (quarters_spread q r s)
  quarter_first zero h = unit_first_as whole (pos 1) (pos 0) i j x y r s dx dy i r (omega (arith, ints)) (omega arith)
  quarter_first (suc zero) h = unit_first_as whole (pos 0) (pos 1) i j x y r s dx dy (neg_ℤ j) s (omega (arith, ints)) (omega arith)
  quarter_first (suc (suc zero)) h = unit_first_as whole (negsuc 0) (pos 0) i j x y r s dx dy (neg_ℤ i) r (omega (arith, ints)) (omega arith)
  quarter_first (suc (suc (suc zero))) h = unit_first_as whole (pos 0) (negsuc 0) i j x y r s dx dy (neg_ℤ (neg_ℤ j)) s (omega (arith, ints)) (omega arith)
  quarter_first (suc (suc (suc (suc q)))) h = absurd (omega arith)

  pub quarter_second : (q : ℕ) → q < 4 → Within (quarters_second q i j) (sum (product (over (quarters_sine q (pos whole) (pos 0)) whole) x) (product (over (quarters_cosine q (pos whole) (pos 0)) whole) y)) (quarters_spread q s r)
  quarter_second zero h = unit_second_as whole (pos 0) (pos 1) i j x y r s dx dy j s (omega (arith, ints)) (omega arith)
  quarter_second (suc zero) h = unit_second_as whole (pos 1) (pos 0) i j x y r s dx dy i r (omega (arith, ints)) (omega arith)
  quarter_second (suc (suc zero)) h = unit_second_as whole (pos 0) (negsuc 0) i j x y r s dx dy (neg_ℤ j) s (omega (arith, ints)) (omega arith)
  quarter_second (suc (suc (suc zero))) h = unit_second_as whole (negsuc 0) (pos 0) i j x y r s dx dy (neg_ℤ i) r (omega (arith, ints)) (omega arith)
  quarter_second (suc (suc (suc (suc q)))) h = absurd (omega arith)

-- any turn
module _ (t : ℕ) (i j : ℤ) (x y : Frac) (r s : ℕ) (h : t < 3600000) (dx : Within i x r) (dy : Within j y s) where
  first_by : (b : Bool) → quartered t ≡ b → Within (cond b (quarters_first (t / 900000) i j) (odd_first t i j)) (first_image t x y) (cond b (quarters_spread (t / 900000) r s) (odd_spread (max r s) i j))
  first_by true e =
      let z = eqb-true (t % 900000) 0 e in
      subst (λ (k : ℕ). Within (quarters_first (t / 900000) i j) (difference (product (over (quarters_cosine (t / 900000) (quarter_cosine k) (quarter_sine k)) whole) x) (product (over (quarters_sine (t / 900000) (quarter_cosine k) (quarter_sine k)) whole) y)) (quarters_spread (t / 900000) r s))
      (sym z) (quarter_first i j x y r s dx dy (t / 900000) (omega arith))
  first_by false e = odd_first_lem t i j x y (max r s) (wider i x r (max r s) (le-max_left r s) dx) (wider j y s (max r s) (le-max_right r s) dy)

  second_by : (b : Bool) → quartered t ≡ b → Within (cond b (quarters_second (t / 900000) i j) (odd_second t i j)) (second_image t x y) (cond b (quarters_spread (t / 900000) s r) (odd_spread (max s r) i j))
  second_by true e =
      let z = eqb-true (t % 900000) 0 e in
      subst (λ (k : ℕ). Within (quarters_second (t / 900000) i j) (sum (product (over (quarters_sine (t / 900000) (quarter_cosine k) (quarter_sine k)) whole) x) (product (over (quarters_cosine (t / 900000) (quarter_cosine k) (quarter_sine k)) whole) y)) (quarters_spread (t / 900000) s r))
      (sym z) (quarter_second i j x y r s dx dy (t / 900000) (omega arith))
  second_by false e = odd_second_lem t i j x y (max s r) (wider i x r (max s r) (le-max_right s r) dx) (wider j y s (max s r) (le-max_left s r) dy)

  pub turned_first_near : Within (turned_first t i j) (first_image t x y) (turned_spread t i j r s)
  turned_first_near = first_by (quartered t) refl

  pub turned_second_near : Within (turned_second t i j) (second_image t x y) (turned_spread t i j s r)
  turned_second_near = second_by (quartered t) refl
