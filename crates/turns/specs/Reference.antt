-- The reference sine and cosine of an angle of a ticks, 0 to 450,000, as fractions over one denominator.
use Rattle.std.specs.Prelude.{ℕ, zero, suc, ◌+◌, ◌-◌, ◌*◌, ◌/◌, ◌%◌, ◌^◌, ◌≤◌, ℤ, pos, ◌-ℤ◌, ◌*ℤ◌, neg_ℤ, nat_abs, cond, leb, ◌≡◌}

-- x = a × Π / (1,800,000 × 10^20)
abbrev pub Π : ℕ
Π = 314159265358979323846

abbrev pub unit : ℕ
unit = 1800000 * 10 ^ 20

abbrev pub fact : ℕ → ℕ
fact zero = 1
fact (suc n) = suc n * fact n

-- the common denominator
abbrev pub whole : ℕ
whole = unit ^ 16 * fact 16

-- x^k / k!, over the common denominator
abbrev pub term : ℕ → ℕ → ℕ
term a k = (a * Π) ^ k * (unit ^ (16 - k) * (fact 16 / fact k))

-- the terms that are added, and those that are taken away
abbrev pub cosine_up : ℕ → ℕ
cosine_up a = term a 0 + term a 4 + term a 8 + term a 12 + term a 16

abbrev pub cosine_down : ℕ → ℕ
cosine_down a = term a 2 + term a 6 + term a 10 + term a 14

abbrev pub sine_up : ℕ → ℕ
sine_up a = term a 1 + term a 5 + term a 9 + term a 13

abbrev pub sine_down : ℕ → ℕ
sine_down a = term a 3 + term a 7 + term a 11 + term a 15

abbrev pub cosine : ℕ → ℤ
cosine a = pos (cosine_up a) -ℤ pos (cosine_down a)

abbrev pub sine : ℕ → ℤ
sine a = pos (sine_up a) -ℤ pos (sine_down a)

-- what is promised of the numbers c and s of a ticks up to 450,000
pub record OctantLaw (a c s : ℕ) : Type 0 where
  pub cosine_near : nat_abs (pos c *ℤ pos whole -ℤ pos (10 ^ 9) *ℤ cosine a) ≤ whole
  pub sine_near : nat_abs (pos s *ℤ pos whole -ℤ pos (10 ^ 9) *ℤ sine a) ≤ whole
  pub cosine_most : c ≤ 10 ^ 9
  pub sine_most : s ≤ 10 ^ 9
  pub none : a ≡ 0 → (c ≡ 10 ^ 9) × (s ≡ 0)

-- up to 900,000: above 450,000 the two change places at 900,000 - a
abbrev pub quarter_cosine : ℕ → ℤ
quarter_cosine a = cond (leb a 450000) (cosine a) (sine (900000 - a))

abbrev pub quarter_sine : ℕ → ℤ
quarter_sine a = cond (leb a 450000) (sine a) (cosine (900000 - a))

-- the further quadrants: each is a quarter turn on, which makes cosine and sine of c and s the numbers -s and c
abbrev pub quarters_cosine : ℕ → ℤ → ℤ → ℤ
quarters_cosine zero c s = c
quarters_cosine (suc q) c s = quarters_cosine q (neg_ℤ s) c

abbrev pub quarters_sine : ℕ → ℤ → ℤ → ℤ
quarters_sine zero c s = s
quarters_sine (suc q) c s = quarters_sine q (neg_ℤ s) c

abbrev pub cosine_of : ℕ → ℤ
cosine_of a = quarters_cosine (a / 900000) (quarter_cosine (a % 900000)) (quarter_sine (a % 900000))

abbrev pub sine_of : ℕ → ℤ
sine_of a = quarters_sine (a / 900000) (quarter_cosine (a % 900000)) (quarter_sine (a % 900000))

-- c and s, in 10^9ths, are within 1 of C / whole and S / whole and never beyond 10^9 in size
pub record NearTo (C S c s : ℤ) : Type 0 where
  pub cosine_near : nat_abs (c *ℤ pos whole -ℤ pos (10 ^ 9) *ℤ C) ≤ whole
  pub sine_near : nat_abs (s *ℤ pos whole -ℤ pos (10 ^ 9) *ℤ S) ≤ whole
  pub cosine_most : nat_abs c ≤ 10 ^ 9
  pub sine_most : nat_abs s ≤ 10 ^ 9

-- they are those numbers
pub record Exactly (C S c s : ℤ) : Type 0 where
  pub cosine_is : c *ℤ pos whole ≡ pos (10 ^ 9) *ℤ C
  pub sine_is : s *ℤ pos whole ≡ pos (10 ^ 9) *ℤ S

-- what is promised of the turn numbers c and s of a ticks
pub record TurnLaw (a : ℕ) (c s : ℤ) : Type 0 where
  pub near : NearTo (cosine_of a) (sine_of a) c s
  pub exact : a % 900000 ≡ 0 → Exactly (cosine_of a) (sine_of a) c s
