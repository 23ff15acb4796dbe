-- The terms as the program has them: x^k / k! in 10^18ths, each cut off.
use Rattle.std.specs.Prelude.{ℕ, zero, suc, ◌*◌, ◌/◌, ◌^◌}

unfoldable pub cut_term : ℕ → ℕ → ℕ
cut_term x zero = 10 ^ 18
cut_term x (suc k) = cut_term x k * x / (suc k * 10 ^ 18)
