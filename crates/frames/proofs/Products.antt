-- A product with a negated factor.
use Rattle.std.proofs.Common.{◌≡◌, zero, suc, ◌*◌, ℤ, pos, negsuc, ◌-ℤ◌, ◌*ℤ◌, neg_ℤ, sym, refl, ap, ◌∙◌, zero-mul, arith}
use borrow.Author.Differences.{ints}
use lib.IntN.{neg_ℤ-neg_ℤ}

neg_ℤ-*ℤ : (a b : ℤ) → neg_ℤ a *ℤ b ≡ neg_ℤ (a *ℤ b)
neg_ℤ-*ℤ (pos zero) (pos n) = rw zero-mul
neg_ℤ-*ℤ (pos zero) (negsuc n) = rw zero-mul
neg_ℤ-*ℤ (pos (suc m)) (pos n) = refl
neg_ℤ-*ℤ (pos (suc m)) (negsuc n) = sym (neg_ℤ-neg_ℤ (pos (suc m * suc n)))
neg_ℤ-*ℤ (negsuc m) (pos n) = sym (neg_ℤ-neg_ℤ (pos (suc m * n)))
neg_ℤ-*ℤ (negsuc m) (negsuc n) = refl

pub from_zero : (a b : ℤ) → (pos 0 -ℤ a) *ℤ b ≡ neg_ℤ (a *ℤ b)
from_zero a b = let e : pos 0 -ℤ a ≡ neg_ℤ a = omega (arith, ints) in ap (λ (z : ℤ). z *ℤ b) e ∙ neg_ℤ-*ℤ a b
