-- Counts: their ranges, and that the lower of two equally near ones is at most half a count length away.
use Rattle.std.specs.Prelude.{◌≡◌, ℕ, ◌+◌, ◌-◌, ◌*◌, ◌/◌, ◌≤◌, true, ℤ, pos, negsuc, ◌-ℤ◌, FitsSigned, unsigned_abs}
use Rattle.std.proofs.Common.{sym, refl, ◌∙◌, ap, subst, arith, to_z, of_z}
use Rattle.std.proofs.Math.Bool.{and-eq-true_iff}
use Rattle.std.specs.Int.{w64}
use Rattle.std.proofs.lemmas.Int.{to_z-of_z, ints}
use Rattle.units.specs.declared.axis.Axis.{Axis}
use Rattle.units.specs.declared.axis.Axis.TheVariants.{X, Y, Z}
use Rattle.units.proofs.Round.{nearest_near}
use Rattle.machine.specs.Motors.{Increments, Counts}
use Rattle.units.specs.declared.axis.ByAxis.{ByAxis}
use Rattle.machine.specs.declared.increment.Increment.{Increment}
use Rattle.machine.specs.Ranges.{within, increment_fits}
use Rattle.machine.specs.Meaning.{at, each}
use Rattle.machine.specs.Count.{increments_fit, lengths, lower_count, lower_counts, standing, standing_at, no_counts}
use Rattle.units.specs.Axes.{on_axis}
use Rattle.machine.specs.RangesLemmas.{on_axis_lem, by_axis, same_within, increment_least, increment_most, in_range}
use Rattle.units.specs.declared.axis.Point.{Point}
use Rattle.machine.specs.Nearness.{each_fits}

pub length_fits : (i : Increments) → increments_fit i ≡ true → (a : Axis) → increment_fits (on_axis i a) ≡ true
unfolding increments_fit
length_fits i e X = ((and-eq-true_iff _ _).0 e).0
length_fits i e Y = ((and-eq-true_iff _ _).0 ((and-eq-true_iff (increment_fits i.x) _).0 e).1).0
length_fits i e Z = ((and-eq-true_iff (increment_fits i.y) _).0 ((and-eq-true_iff (increment_fits i.x) _).0 e).1).1

-- each length is that of its axis's increment
pub length_at : (i : ByAxis Increment) (a : Axis) → on_axis (lengths i) a ≡ (on_axis i a).units
length_at i X = refl
length_at i Y = refl
length_at i Z = refl

pub least_length : (i : ByAxis Increment) (a : Axis) → 1 ≤ on_axis (lengths i) a
least_length i X = i.x.least
least_length i Y = i.y.least
least_length i Z = i.z.least

pub most_length : (i : ByAxis Increment) (a : Axis) → on_axis (lengths i) a ≤ 100000
most_length i X = i.x.most
most_length i Y = i.y.most
most_length i Z = i.z.most

-- so they are in range together
pub lengths_fit : (i : ByAxis Increment) → increments_fit (lengths i) ≡ true
unfolding increments_fit
lengths_fit i = (and-eq-true_iff _ _).1 (in_range i.x, (and-eq-true_iff _ _).1 (in_range i.y, in_range i.z))

down_near : (d n : ℕ) → 1 ≤ d → (2 * ((2 * n + (d - 1)) / (2 * d) * d) ≤ 2 * n + d) × (2 * n ≤ 2 * ((2 * n + (d - 1)) / (2 * d) * d) + d)
down_near d n h = grind arith

apart : (d n m : ℕ) → (2 * m ≤ 2 * n + d) × (2 * n ≤ 2 * m + d) → 2 * unsigned_abs (pos n -ℤ pos m) ≤ d
apart d n m h = omega (arith, ints)

pub count_near : (d : ℕ) (v : ℤ) → 1 ≤ d → 2 * unsigned_abs (v -ℤ standing d (lower_count d v)) ≤ d
count_near d (pos n) h = apart d n ((2 * n + (d - 1)) / (2 * d) * d) (down_near d n h)
count_near d (negsuc n) h = (nearest_near (negsuc n) d h).close

abbrev rounded : Increments → Axis → ℤ → ℤ
rounded i a v = standing (on_axis i a) (lower_count (on_axis i a) v)

pub counts_within : (i : Increments) (p : Point) (k : Counts) → increments_fit i ≡ true → within 2000000000 p ≡ true → k ≡ lower_counts i p → within 2000050000 (standing_at i k) ≡ true
counts_within i p k s w e =
    same_within _ (standing_at i k) (each (rounded i) p) (ap (standing_at i) e)
    (each_fits (on_axis i) (rounded i) p (λ a. increment_most _ (length_fits i s a)) w (λ a v. count_near _ v (increment_least _ (length_fits i s a))))

pub start_within : (i : Increments) → within 2000050000 (standing_at i no_counts) ≡ true
start_within i = by_axis _ (standing_at i no_counts) nought
  where
    nought : (a : Axis) → unsigned_abs (at (standing_at i no_counts) a) ≤ 2000050000
    nought X = omega arith
    nought Y = omega arith
    nought Z = omega arith

on : (i : Increments) (k : Counts) → within 2000050000 (standing_at i k) ≡ true → (a : Axis) → unsigned_abs (standing (on_axis i a) (on_axis k a)) ≤ 2000050000
on i k w X = on_axis_lem _ (standing_at i k) w X
on i k w Y = on_axis_lem _ (standing_at i k) w Y
on i k w Z = on_axis_lem _ (standing_at i k) w Z

pub standing_fits : (i : Increments) (k : Counts) → within 2000050000 (standing_at i k) ≡ true → (a : Axis) (d : ℕ) (v : ℤ) → FitsSigned w64 v → d ≡ on_axis i a → v ≡ on_axis k a → unsigned_abs (standing d (to_z w64 (of_z w64 v))) ≤ 2000050000
standing_fits i k w a d v f e h =
    let same : standing (on_axis i a) (on_axis k a) ≡ standing d (to_z w64 (of_z w64 v)) = ap (λ z. standing (on_axis i a) z) (sym h ∙ sym (to_z-of_z w64 v f)) ∙ ap (λ n. standing n (to_z w64 (of_z w64 v))) (sym e) in
    subst (λ z. unsigned_abs z ≤ 2000050000) same (on i k w a)
