-- The sums after so many rounds of four terms.
use Rattle.std.proofs.Common.{◌≡◌, ℕ, zero, suc, ◌+◌, ◌-◌, ◌*◌, ◌^◌, ap, zero-add}
use Rattle.turns.specs.Terms.{cut_term}
use Rattle.turns.specs.Numbers.{cosine_sum, sine_sum}

abbrev pub cosine_after : ℕ → ℕ → ℕ
cosine_after x zero = 10 ^ 18
cosine_after x (suc n) = cosine_after x n - (cut_term x (4 * n + 2) - cut_term x (4 * n + 4))

abbrev pub sine_after : ℕ → ℕ → ℕ
sine_after x zero = 0
sine_after x (suc n) = sine_after x n + (cut_term x (4 * n + 1) - cut_term x (4 * n + 3))

pub all_cosine : (x n : ℕ) → n ≡ 4 → cosine_after x n ≡ cosine_sum x
all_cosine x n e = ap (cosine_after x) e

pub all_sine : (x n : ℕ) → n ≡ 4 → sine_after x n ≡ sine_sum x
all_sine x n e = rw e (simp zero-add)
