-- Division to the nearest whole number, ties away from zero.
use Rattle.std.specs.Prelude.{◌≡◌, ℕ, suc, ◌+◌, ◌*◌, ◌/◌, ◌≤◌, ℤ, pos, negsuc, ◌-ℤ◌, ◌*ℤ◌, neg_ℤ, ◌≤ℤ◌, unsigned_abs}

-- r × divisor is at most half the divisor away from the dividend; where it is exactly half away, it is no nearer to 0 than the dividend
pub record Nearest (dividend divisor r : ℤ) : Type 0 where
  pub close : 2 * unsigned_abs (dividend -ℤ r *ℤ divisor) ≤ unsigned_abs divisor
  pub tie : 2 * unsigned_abs (dividend -ℤ r *ℤ divisor) ≡ unsigned_abs divisor → unsigned_abs dividend ≤ unsigned_abs (r *ℤ divisor)

-- the two say which number it is
abbrev pub OnlyOne : Type 0
OnlyOne = (n d r s : ℤ) → pos 1 ≤ℤ d → Nearest n d r → Nearest n d s → r ≡ s

-- that number
unfoldable pub nearest : ℤ → ℕ → ℤ
nearest (pos n) d = pos ((n + d / 2) / d)
nearest (negsuc n) d = neg_ℤ (pos (suc (n + d / 2) / d))
