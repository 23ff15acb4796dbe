-- The turn numbers as they are computed, in 10^9ths. Their law is all that anything else uses of them.
use Rattle.std.specs.Prelude.{ℕ, ◌+◌, ◌-◌, ◌*◌, ◌/◌, ◌%◌, ◌^◌, ℤ, pos, cond, leb}
use Rattle.turns.specs.Reference.{Π, quarters_cosine, quarters_sine, TurnLaw}
use Rattle.turns.specs.Terms.{cut_term}

-- x in 10^18ths, cut off
abbrev pub argument : ℕ → ℕ
argument a = a * Π / 180000000

-- the sums of the series in 10^18ths
abbrev pub cosine_sum : ℕ → ℕ
cosine_sum x = 10 ^ 18 - (cut_term x 2 - cut_term x 4) - (cut_term x 6 - cut_term x 8) - (cut_term x 10 - cut_term x 12) - (cut_term x 14 - cut_term x 16)

abbrev pub sine_sum : ℕ → ℕ
sine_sum x = (cut_term x 1 - cut_term x 3) + (cut_term x 5 - cut_term x 7) + (cut_term x 9 - cut_term x 11) + (cut_term x 13 - cut_term x 15)

unfoldable pub octant_c : ℕ → ℕ
octant_c a = (cosine_sum (argument a) + 500000000) / 1000000000

unfoldable pub octant_s : ℕ → ℕ
octant_s a = (sine_sum (argument a) + 500000000) / 1000000000

abbrev pub quarter_c : ℕ → ℤ
quarter_c a = cond (leb a 450000) (pos (octant_c a)) (pos (octant_s (900000 - a)))

abbrev pub quarter_s : ℕ → ℤ
quarter_s a = cond (leb a 450000) (pos (octant_s a)) (pos (octant_c (900000 - a)))

-- C and S of any tick count
unfoldable pub turn_c : ℕ → ℤ
turn_c a = quarters_cosine (a / 900000) (quarter_c (a % 900000)) (quarter_s (a % 900000))

unfoldable pub turn_s : ℕ → ℤ
turn_s a = quarters_sine (a / 900000) (quarter_c (a % 900000)) (quarter_s (a % 900000))

-- the law, for every number of ticks
abbrev pub Law : Type 0
Law = (a : ℕ) → TurnLaw a (turn_c a) (turn_s a)
