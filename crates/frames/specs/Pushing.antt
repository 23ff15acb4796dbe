-- A point with its spreads through a step, the tests after it, and the whole frame. Axes go by index: X 0, Y 1, Z 2.
use Rattle.std.specs.Prelude.{ℕ, zero, suc, ◌+◌, ◌*◌, ◌/◌, ◌%◌, max, Bool, false, cond, ◌&&◌, List, [], ◌∷◌, ℤ, pos, ◌+ℤ◌, ◌-ℤ◌, ◌*ℤ◌, neg_ℤ, Some, None, Ok, Err, Option, Result, ◌==◌, nat_lt, slice_index, slice_index_or, unsigned_abs}
use Rattle.units.specs.Nearest.{nearest}
use Rattle.units.specs.Quantities.{zero_length}
use Rattle.units.specs.declared.axis.Axis.{Axis}
use Rattle.units.specs.declared.axis.Axis.TheVariants.{X, Y, Z}
use Rattle.units.specs.declared.quantity.Length.{Length}
use Rattle.units.specs.declared.quantity.Factor.{Factor}
use Rattle.units.specs.declared.fault.Fault.{Fault}
use Rattle.units.specs.declared.fault.Fault.TheVariants.{Beyond, Spread}
use Rattle.fractions.specs.Fractions.{ceiling, one_if}
use Rattle.turns.specs.Numbers.{turn_c, turn_s}
use Rattle.chains.specs.declared.step.Step.{Step}
use Rattle.chains.specs.declared.step.Step.TheVariants.{Offset, Scale, Mirror, Turn}
use Rattle.chains.specs.Steps.{first_of, second_of}
use Rattle.frames.specs.declared.image.Image.{Image}

abbrev pub coordinate : Image → ℕ → ℤ
coordinate p a = slice_index_or p.at a (pos 0)

abbrev pub spread_of : Image → ℕ → ℕ
spread_of p a = slice_index p.spread a

-- an offset, a scale and a mirror of one axis: where it is not named, it stays
abbrev pub offset_by : Option Length → ℤ → ℤ
offset_by None x = x
offset_by (Some o) x = x +ℤ o.units

abbrev pub scaled_by : Option Factor → ℤ → ℤ
scaled_by None x = x
scaled_by (Some f) x = nearest (pos f.parts *ℤ x) 100000

-- ⌈r × max(f, 100,000) / 100,000⌉, and 1 more where f × x / 100,000 leaves a remainder
abbrev pub scale_spread : ℕ → ℕ → ℤ → ℕ
scale_spread r f x = ceiling (r * max f 100000) 100000 + one_if (unsigned_abs (pos f *ℤ x) % 100000)

abbrev pub scaled_spread : Option Factor → ℤ → ℕ → ℕ
scaled_spread None x r = r
scaled_spread (Some f) x r = scale_spread r f.parts x

abbrev pub mirrored_by : Bool → ℤ → ℤ
mirrored_by named x = cond named (neg_ℤ x) x

-- q quarter turns, exact: each makes -j and i of i and j
abbrev pub quarters_first : ℕ → ℤ → ℤ → ℤ
quarters_first zero i j = i
quarters_first (suc q) i j = quarters_first q (neg_ℤ j) i

abbrev pub quarters_second : ℕ → ℤ → ℤ → ℤ
quarters_second zero i j = j
quarters_second (suc q) i j = quarters_second q (neg_ℤ j) i

-- spreads go with their coordinates
abbrev pub quarters_spread : ℕ → ℕ → ℕ → ℕ
quarters_spread zero r s = r
quarters_spread (suc q) r s = quarters_spread q s r

-- a turn is exact where its ticks are a multiple of 900,000, which is a quarter turn; any other is odd
abbrev pub quartered : ℕ → Bool
quartered t = t % 900000 == 0

abbrev pub odd_first : ℕ → ℤ → ℤ → ℤ
odd_first t i j = nearest (turn_c t *ℤ i -ℤ turn_s t *ℤ j) 1000000000

abbrev pub odd_second : ℕ → ℤ → ℤ → ℤ
odd_second t i j = nearest (turn_s t *ℤ i +ℤ turn_c t *ℤ j) 1000000000

-- ⌈3m/2⌉ + ⌈(|i| + |j|) / 10^9⌉ + 1, m the larger spread
abbrev pub odd_spread : ℕ → ℤ → ℤ → ℕ
odd_spread m i j = ceiling (3 * m) 2 + ceiling (unsigned_abs i + unsigned_abs j) 1000000000 + 1

abbrev pub turned_first : ℕ → ℤ → ℤ → ℤ
turned_first t i j = cond (quartered t) (quarters_first (t / 900000) i j) (odd_first t i j)

abbrev pub turned_second : ℕ → ℤ → ℤ → ℤ
turned_second t i j = cond (quartered t) (quarters_second (t / 900000) i j) (odd_second t i j)

-- the spread that goes with r's coordinate; s is the other's
abbrev pub turned_spread : ℕ → ℤ → ℤ → ℕ → ℕ → ℕ
turned_spread t i j r s = cond (quartered t) (quarters_spread (t / 900000) r s) (odd_spread (max r s) i j)

-- coordinate and spread of the axis a after a step
abbrev pub new_at : Step → ℕ → Image → ℤ
new_at (Offset by) a p = offset_by (slice_index_or by a None) (coordinate p a)
new_at (Scale by) a p = scaled_by (slice_index_or by a None) (coordinate p a)
new_at (Mirror named) a p = mirrored_by (slice_index_or named a false) (coordinate p a)
new_at (Turn plane angle) a p = cond (a == first_of plane) (turned_first angle.ticks (coordinate p (first_of plane)) (coordinate p (second_of plane)))
    (cond (a == second_of plane) (turned_second angle.ticks (coordinate p (first_of plane)) (coordinate p (second_of plane))) (coordinate p a))

abbrev pub new_spread : Step → ℕ → Image → ℕ
new_spread (Offset by) a p = spread_of p a
new_spread (Scale by) a p = scaled_spread (slice_index_or by a None) (coordinate p a) (spread_of p a)
new_spread (Mirror named) a p = spread_of p a
new_spread (Turn plane angle) a p = cond (a == first_of plane) (turned_spread angle.ticks (coordinate p (first_of plane)) (coordinate p (second_of plane)) (spread_of p (first_of plane)) (spread_of p (second_of plane)))
    (cond (a == second_of plane) (turned_spread angle.ticks (coordinate p (first_of plane)) (coordinate p (second_of plane)) (spread_of p (second_of plane)) (spread_of p (first_of plane))) (spread_of p a))

-- only moved axes are pushed
abbrev pub moved_at : List Bool → Step → Image → ℕ → ℤ
moved_at m s p a = cond (slice_index_or m a false) (new_at s a p) (coordinate p a)

abbrev pub moved_spread : List Bool → Step → Image → ℕ → ℕ
moved_spread m s p a = cond (slice_index_or m a false) (new_spread s a p) (spread_of p a)

abbrev pub through : List Bool → Step → Image → Image
through m s p = record {
  at = moved_at m s p 0 ∷ moved_at m s p 1 ∷ moved_at m s p 2 ∷ [];
  spread = moved_spread m s p 0 ∷ moved_spread m s p 1 ∷ moved_spread m s p 2 ∷ [];
}

abbrev pub axis_at : ℕ → Axis
axis_at zero = X
axis_at (suc zero) = Y
axis_at (suc (suc a)) = Z

-- the first axis of which the test is true
abbrev pub first_axis : (ℕ → Bool) → Option Axis
first_axis f = cond (f 0) (Some X) (cond (f 1) (Some Y) (cond (f 2) (Some Z) None))

abbrev pub too_far : Bool → ℤ → Bool
too_far moved x = moved && nat_lt 2000000000 (unsigned_abs x)

abbrev pub too_wide : ℕ → Bool → ℕ → Bool
too_wide tol moved r = moved && nat_lt tol r

abbrev pub is_beyond : List Bool → Image → ℕ → Bool
is_beyond m p a = too_far (slice_index_or m a false) (coordinate p a)

abbrev pub is_wide : List Bool → ℕ → Image → ℕ → Bool
is_wide m tol p a = too_wide tol (slice_index_or m a false) (spread_of p a)

-- 13, then 14, each in axis order; n is the step's number
abbrev pub or_else : Option Axis → (Axis → Fault) → Result Image Fault → Result Image Fault
or_else (Some a) f r = Err (f a)
or_else None f r = r

abbrev pub tested : ℕ → List Bool → ℕ → Image → Result Image Fault
tested n m tol p =
    or_else (first_axis (is_beyond m p)) (λ a. Beyond 0 a n)
    (or_else (first_axis (is_wide m tol p)) (λ a. Spread 0 a n) (Ok p))

abbrev pub onward : ℕ → List Bool → ℕ → Step → Result Image Fault → Result Image Fault
onward n m tol s (Ok p) = tested n m tol (through m s p)
onward n m tol s (Err e) = Err e

-- through steps that are numbered from n on: the innermost, which is the last, comes first
abbrev pub through_steps : List Step → ℕ → List Bool → ℕ → Image → Result Image Fault
through_steps [] n m tol p = Ok p
through_steps (s ∷ ss) n m tol p = onward n m tol s (through_steps ss (suc n) m tol p)

-- the workpiece values, with spreads of 0
abbrev pub length_at : List Length → ℕ → Length
length_at l a = slice_index_or l a zero_length

abbrev pub started : List Length → Image
started values = record { at = (length_at values 0).units ∷ (length_at values 1).units ∷ (length_at values 2).units ∷ []; spread = 0 ∷ 0 ∷ 0 ∷ [] }

-- the settable offset, added to all three axes
abbrev pub on_all : List Length → List (Option Length)
on_all o = Some (length_at o 0) ∷ Some (length_at o 1) ∷ Some (length_at o 2) ∷ []

abbrev pub settable : List Length → Step
settable o = Offset (on_all o)

-- the chain, and then the settable offset, which is told as step 9
abbrev pub pushed : List Step → List Bool → ℕ → List Length → List Length → Result Image Fault
pushed ss m tol o values = onward 9 m tol (settable o) (through_steps ss 1 m tol (started values))

-- the same with no test
abbrev pub carried : List Step → List Bool → Image → Image
carried [] m p = p
carried (s ∷ ss) m p = through m s (carried ss m p)
