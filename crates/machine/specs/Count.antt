-- The count end: motors that stand on whole counts.
use Rattle.std.specs.Prelude.{ℕ, ◌+◌, ◌-◌, ◌*◌, ◌/◌, Bool, ◌&&◌, [], ◌∷◌, ℤ, pos, negsuc, ◌*ℤ◌}
use Rattle.units.specs.Nearest.{nearest}
use Rattle.units.specs.Axes.{on_axis}
use Rattle.units.specs.declared.axis.Point.{Point}
use Rattle.machine.specs.declared.bounds.Bounds.{Bounds}
use Rattle.units.specs.declared.axis.ByAxis.{ByAxis}
use Rattle.machine.specs.declared.increment.Increment.{Increment}
use Rattle.machine.specs.Motors.{Increments, Counts}
use Rattle.machine.specs.Ranges.{increment_fits}
use Rattle.machine.specs.Meaning.{Meaning}

-- the lengths of increments
abbrev pub lengths : ByAxis Increment → Increments
lengths i = record { x = i.x.units; y = i.y.units; z = i.z.units }

unfoldable pub increments_fit : Increments → Bool
increments_fit i = increment_fits i.x && (increment_fits i.y && increment_fits i.z)

-- the count nearest to a distance from 0; a tie goes towards 0
abbrev pub tie_down : ℕ → ℕ → ℕ
tie_down d n = (2 * n + (d - 1)) / (2 * d)

-- the count nearest to a coordinate; of two equally near the lower one, which below zero is the one further from 0
abbrev pub lower_count : ℕ → ℤ → ℤ
lower_count d (pos n) = pos (tie_down d n)
lower_count d (negsuc n) = nearest (negsuc n) d

abbrev pub lower_counts : Increments → Point → Counts
lower_counts i p = record { x = lower_count i.x p.x; y = lower_count i.y p.y; z = lower_count i.z p.z }

-- where a count stands
abbrev pub standing : ℕ → ℤ → ℤ
standing d k = k *ℤ pos d

abbrev pub standing_at : Increments → Counts → Point
standing_at i k = record { x = standing i.x k.x; y = standing i.y k.y; z = standing i.z k.z }

abbrev pub no_counts : Counts
no_counts = record { x = pos 0; y = pos 0; z = pos 0 }

-- one box, a count length for each axis, and the position of the counts held
abbrev pub count_meaning : Increments → Bounds → Counts → Meaning
count_meaning i b k = record { boxes = b ∷ []; increment = on_axis i; rounding = λ a v. standing (on_axis i a) (lower_count (on_axis i a) v); held = standing_at i k }
