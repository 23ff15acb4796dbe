-- What the simulator means.
use Rattle.std.specs.Prelude.{[], ◌∷◌}
use Rattle.units.specs.declared.axis.Point.{Point}
use Rattle.machine.specs.declared.bounds.Bounds.{Bounds}
use Rattle.machine.specs.Meaning.{Meaning}

-- one box, increments of 1, every coordinate its own rounding
abbrev pub simulated : Bounds → Point → Meaning
simulated b p = record { boxes = b ∷ []; increment = λ a. 1; rounding = λ a v. v; held = p }
