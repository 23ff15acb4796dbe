-- The scale end.
use Rattle.std.specs.Prelude.{ℕ, [], ◌∷◌, ℤ, pos, ◌*ℤ◌}
use Rattle.units.specs.Nearest.{nearest}
use Rattle.units.specs.declared.axis.Point.{Point}
use Rattle.machine.specs.declared.bounds.Bounds.{Bounds}
use Rattle.machine.specs.Meaning.{Meaning}

-- the nearest multiple of the increment; of two equally near the one further from 0
abbrev pub nearest_multiple : ℕ → ℤ → ℤ
nearest_multiple d v = nearest v d *ℤ pos d

-- one box, one increment for all axes, and the position held
abbrev pub scale_meaning : ℕ → Bounds → Point → Meaning
scale_meaning d b p = record { boxes = b ∷ []; increment = λ a. d; rounding = λ a. nearest_multiple d; held = p }
