-- Numbers of a limited range: which numbers are one.
use Rattle.std.specs.Prelude.{◌≡◌, ℕ, suc, ◌+◌, ◌%◌, ◌≤◌, Bool, true, false, ℤ, pos, Some, None, Option, nat_le, unsigned_abs, refl}
use Rattle.std.proofs.Common.{mod-lt, leb-true, lit≤, lit<}
use Rattle.units.specs.declared.quantity.Length.{Length}
use Rattle.units.specs.declared.quantity.Factor.{Factor}
use Rattle.units.specs.declared.quantity.Angle.{Angle}
use Rattle.units.specs.declared.quantity.Tolerance.{Tolerance}

-- what is made of a ≤ b where that holds, else none; t is the test's outcome
abbrev pub tested : {A : Type 0} → (a b : ℕ) (t : Bool) → nat_le a b ≡ t → (a ≤ b → Option A) → Option A
tested a b true e f = f (leb-true a b e)
tested a b false e f = None

abbrev pub where_≤ : {A : Type 0} → (a b : ℕ) → (a ≤ b → Option A) → Option A
where_≤ a b f = tested a b (nat_le a b) refl f

abbrev pub length_of : ℤ → Option Length
length_of z = where_≤ (unsigned_abs z) 999999999 (λ h. Some (record { units = z; most = h }))

abbrev pub zero_length : Length
zero_length = record { units = pos 0; most = lit≤ tt }

abbrev pub factor_of : ℕ → Option Factor
factor_of n = where_≤ 1 n (λ s. where_≤ n 10000000 (λ m. Some (record { parts = n; some = s; most = m })))

abbrev pub angle_of : ℕ → Option Angle
angle_of n = where_≤ (suc n) 3600000 (λ h. Some (record { ticks = n; below = h }))

abbrev pub tolerance_of : ℕ → Option Tolerance
tolerance_of n = where_≤ n 100000 (λ h. Some (record { units = n; most = h }))

-- two angles one after the other, modulo a full turn
abbrev pub turned_on : Angle → Angle → Angle
turned_on a b = record { ticks = (a.ticks + b.ticks) % 3600000; below = mod-lt (a.ticks + b.ticks) (lit< tt) }
