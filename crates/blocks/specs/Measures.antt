-- A number as a length, a factor or an angle, where it is in range.
use Rattle.std.specs.Prelude.{ℕ, suc, ◌-◌, ◌*◌, ◌^◌, Bool, true, false, cond, ℤ, pos, negsuc, ◌*ℤ◌, None, Option, nat_le}
use Rattle.std.proofs.Common.{lit<}
use Rattle.units.specs.declared.quantity.Length.{Length}
use Rattle.units.specs.declared.quantity.Factor.{Factor}
use Rattle.units.specs.declared.quantity.Angle.{Angle}
use Rattle.units.specs.Quantities.{length_of, factor_of, angle_of}
use Rattle.reader.specs.declared.types.Number.{Number}

-- a factor is above 0
abbrev pub whole_factor : ℤ → Option Factor
whole_factor (pos n) = factor_of n
whole_factor (negsuc n) = None

-- less than a full turn either way; below 0 a full turn more
abbrev pub whole_angle : ℤ → Option Angle
whole_angle (pos n) = angle_of n
whole_angle (negsuc n) = cond (nat_le 3600000 (suc n)) None (angle_of (3600000 - suc n))

abbrev pub zero_angle : Angle
zero_angle = record { ticks = 0; below = lit< tt }

-- a number in parts, each of its last counted decimals being so many
abbrev pub parts_of : Number → ℕ → ℤ → ℤ
parts_of n decimals each = n.value *ℤ (each *ℤ pos (10 ^ (decimals - n.decimals)))

-- how many decimals of a length are counted
abbrev pub most_in : Bool → ℕ
most_in true = 4
most_in false = 5

-- units of 10 nm: at most 5 decimals of a millimetre, or 4 of an inch, which is 2,540,000 units
abbrev pub units_in : Bool → Number → ℤ
units_in true n = n.value *ℤ pos (254 * 10 ^ (4 - n.decimals))
units_in false n = n.value *ℤ pos (10 ^ (5 - n.decimals))

abbrev pub length_in : Bool → Number → Option Length
length_in inch n = cond (nat_le n.decimals (most_in inch)) (length_of (units_in inch n)) None

-- hundred-thousandths
abbrev pub factor_in : Number → Option Factor
factor_in n = cond (nat_le n.decimals 5) (whole_factor (n.value *ℤ pos (10 ^ (5 - n.decimals)))) None

-- ten-thousandths of a degree
abbrev pub angle_in : Number → Option Angle
angle_in n = cond (nat_le n.decimals 4) (whole_angle (n.value *ℤ pos (10 ^ (4 - n.decimals)))) None
