-- What the range tests say, axis by axis; a box is determined by its limits.
use Rattle.std.specs.Prelude.{◌≡◌, ℕ, ◌≤◌, Bool, true, ◌&&◌, nat_le, unsigned_abs}
use Rattle.std.proofs.Common.{sym, subst, arith, leb-true, le-leb}
use Rattle.std.proofs.Math.Bool.{and-eq-true_iff, Bool-set}
use Rattle.units.specs.declared.axis.Axis.{Axis}
use Rattle.units.specs.declared.axis.Axis.TheVariants.{X, Y, Z}
use Rattle.units.specs.declared.axis.Side.{Side}
use Rattle.units.specs.declared.axis.Side.TheVariants.{Lower, Upper}
use Rattle.units.specs.declared.axis.Point.{Point}
use Rattle.machine.specs.declared.bounds.Bounds.{Bounds}
use Rattle.machine.specs.declared.increment.Increment.{Increment}
use Rattle.machine.specs.Ranges.{within, increment_fits}
use Rattle.machine.specs.Meaning.{at, limits, origin}

left : (a b : Bool) → (a && b) ≡ true → a ≡ true
left a b e = ((and-eq-true_iff a b).0 e).0

right : (a b : Bool) → (a && b) ≡ true → b ≡ true
right a b e = ((and-eq-true_iff a b).0 e).1

both : (a b : Bool) → a ≡ true → b ≡ true → (a && b) ≡ true
both a b p q = (and-eq-true_iff a b).1 (p, q)

pub on_axis_lem : (n : ℕ) (p : Point) → within n p ≡ true → (a : Axis) → unsigned_abs (at p a) ≤ n
unfolding within
on_axis_lem n p e X = leb-true _ _ (left _ _ e)
on_axis_lem n p e Y = leb-true _ _ (left _ _ (right (nat_le (unsigned_abs p.x) n) _ e))
on_axis_lem n p e Z = leb-true _ _ (right (nat_le (unsigned_abs p.y) n) _ (right (nat_le (unsigned_abs p.x) n) _ e))

pub by_axis : (n : ℕ) (p : Point) → ((a : Axis) → unsigned_abs (at p a) ≤ n) → within n p ≡ true
unfolding within
by_axis n p h = both _ _ (le-leb _ _ (h X)) (both _ _ (le-leb _ _ (h Y)) (le-leb _ _ (h Z)))

pub origin_within : (n : ℕ) → within n origin ≡ true
origin_within n = by_axis n origin zero_on
  where
    zero_on : (a : Axis) → unsigned_abs (at origin a) ≤ n
    zero_on X = omega arith
    zero_on Y = omega arith
    zero_on Z = omega arith

pub limit_fits : (b : Bounds) (s : Side) (a : Axis) → unsigned_abs (at (limits b s) a) ≤ 2000000000
limit_fits b Lower a = on_axis_lem _ b.lower b.low a
limit_fits b Upper a = on_axis_lem _ b.upper b.high a

pub increment_least : (n : ℕ) → increment_fits n ≡ true → 1 ≤ n
unfolding increment_fits
increment_least n e = leb-true _ _ (left _ _ e)

pub increment_most : (n : ℕ) → increment_fits n ≡ true → n ≤ 100000
unfolding increment_fits
increment_most n e = leb-true _ _ (right (nat_le 1 n) _ e)

pub in_range : (i : Increment) → increment_fits i.units ≡ true
unfolding increment_fits
in_range i = both _ _ (le-leb _ _ i.least) (le-leb _ _ i.most)

pub same_bounds : (b c : Bounds) → b.lower ≡ c.lower → b.upper ≡ c.upper → b ≡ c
same_bounds b c p q =
    let P : Point → Type 0 = λ l. (u : Point) → b.upper ≡ u → (s : within 2000000000 l ≡ true) (t : within 2000000000 u ≡ true) → ◌≡◌ {A = Bounds} b (record { lower = l; upper = u; low = s; high = t }) in
    let Q : Point → Type 0 = λ u. (s : within 2000000000 b.lower ≡ true) (t : within 2000000000 u ≡ true) → ◌≡◌ {A = Bounds} b (record { lower = b.lower; upper = u; low = s; high = t }) in
    subst P p (λ u e. subst Q e (λ s t. λ i. record { lower = b.lower; upper = b.upper; low = Bool-set _ _ b.low s i; high = Bool-set _ _ b.high t i })) c.upper q c.low c.high

pub same_within : (n : ℕ) (p q : Point) → p ≡ q → within n q ≡ true → within n p ≡ true
same_within n p q e h = subst (λ (t : Point). within n t ≡ true) (sym e) h
