-- The exact image of a point: the same steps in fractions, with the reference sine and cosine, and no rounding. Axes go by index: X 0, Y 1, Z 2.
use Rattle.std.specs.Prelude.{ℕ, false, cond, List, [], ◌∷◌, get_or, pos, Some, None, Option, ◌==◌, slice_index_or}
use Rattle.units.specs.Quantities.{zero_length}
use Rattle.units.specs.declared.quantity.Length.{Length}
use Rattle.units.specs.declared.quantity.Factor.{Factor}
use Rattle.fractions.specs.Fractions.{Frac, over, sum, difference, product, shifted, negated}
use Rattle.turns.specs.Reference.{cosine_of, sine_of, whole}
use Rattle.chains.specs.declared.step.Step.{Step}
use Rattle.chains.specs.declared.step.Step.TheVariants.{Offset, Scale, Mirror, Turn}
use Rattle.chains.specs.Steps.{first_of, second_of}

-- an exact coordinate for each axis
abbrev pub Exact : Type 0
Exact = ℕ → Frac

abbrev pub exact_offset : Option Length → Frac → Frac
exact_offset None x = x
exact_offset (Some o) x = shifted x o.units

abbrev pub exact_scale : Option Factor → Frac → Frac
exact_scale None x = x
exact_scale (Some f) x = product (over (pos f.parts) 100000) x

-- the reference cosine and sine
abbrev pub cosine : ℕ → Frac
cosine ticks = over (cosine_of ticks) whole

abbrev pub sine : ℕ → Frac
sine ticks = over (sine_of ticks) whole

-- i' = c × i - s × j
abbrev pub first_image : ℕ → Frac → Frac → Frac
first_image ticks i j = difference (product (cosine ticks) i) (product (sine ticks) j)

-- j' = s × i + c × j
abbrev pub second_image : ℕ → Frac → Frac → Frac
second_image ticks i j = sum (product (sine ticks) i) (product (cosine ticks) j)

-- the exact coordinate of the axis a after a step
abbrev pub exact_at : Step → Exact → ℕ → Frac
exact_at (Offset by) e a = exact_offset (slice_index_or by a None) (e a)
exact_at (Scale by) e a = exact_scale (slice_index_or by a None) (e a)
exact_at (Mirror named) e a = cond (slice_index_or named a false) (negated (e a)) (e a)
exact_at (Turn plane angle) e a = cond (a == first_of plane) (first_image angle.ticks (e (first_of plane)) (e (second_of plane)))
    (cond (a == second_of plane) (second_image angle.ticks (e (first_of plane)) (e (second_of plane))) (e a))

-- through the steps, the last first
abbrev pub exact_through : List Step → Exact → Exact
exact_through [] e = e
exact_through (s ∷ ss) e = exact_at s (exact_through ss e)

abbrev pub exact_values : List Length → Exact
exact_values values a = over (get_or values a zero_length).units 1

-- the whole image: the chain, then the settable offset
abbrev pub exact_image : List Step → List Length → List Length → ℕ → Frac
exact_image ss offset values a = shifted (exact_through ss (exact_values values) a) (get_or offset a zero_length).units
