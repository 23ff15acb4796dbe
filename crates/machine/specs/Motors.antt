-- What a machine with a motor for each axis is made of.
use Rattle.std.specs.Prelude.{ℕ, ℤ}
use Rattle.units.specs.declared.axis.ByAxis.{ByAxis}

-- the length of one count of each axis's motor, in units
abbrev pub Increments : Type 0
Increments = ByAxis ℕ

-- where each axis's motor stands, in counts
abbrev pub Counts : Type 0
Counts = ByAxis ℤ
