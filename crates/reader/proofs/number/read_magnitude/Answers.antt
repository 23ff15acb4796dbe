use Rattle.std.proofs.Common.{ℕ, ◌≤◌, Bool, List, length, get_or, take, sym, refl, subst, inl, inr, arith}
use Rattle.std.proofs.lemmas.List.{take_more, take_all}
use Rattle.reader.specs.Shapes.{IsMagnitude}
use Rattle.reader.proofs.Shapes.{Sofar, carry, digit_plain, digit_after, point_first, begins, done, not_allowed, second_point, first_wrong, first_short, ten_digits}
use Rattle.reader.proofs.number.read_magnitude.Goals as goal
use Rattle.reader.proofs.number.read_magnitude.Goals.{in-46+else-point, in-48-to-57+else-digits-eq-NUMBER_DIGITS+then-point-2, in-48-to-57+else-digits-eq-NUMBER_DIGITS+else-point-2}

pub loop-i-preserved : goal.loop-i-preserved
loop-i-preserved c =
    let s = c.args.s.now in
    let i = c.loop-i.i in
    let more = sym (take_more s i 0 c.loop-i-test.true) in
    elim c.match-b.branch [
      | in-46+else-point w ↦ carry more w.value-is w.digits-is w.decimals-is w.point-is (point_first (get_or s i 0) (carry refl refl refl refl (sym w.if-point.false) c.loop-i.invariant) w.in-46.is)
      | in-48-to-57+else-digits-eq-NUMBER_DIGITS+then-point-2 w ↦ carry more w.value-is w.digits-is w.decimals-is w.point-is (carry refl refl refl refl w.if-point-2.true (digit_after (get_or s i 0) (carry refl refl refl refl (sym w.if-point-2.true) c.loop-i.invariant) (omega arith) (omega arith) (omega arith)))
      | in-48-to-57+else-digits-eq-NUMBER_DIGITS+else-point-2 w ↦ carry more w.value-is w.digits-is w.decimals-is w.point-is (carry refl refl refl refl w.if-point-2.false (digit_plain (get_or s i 0) (carry refl refl refl refl (sym w.if-point-2.false) c.loop-i.invariant) (omega arith) (omega arith) (omega arith)))
    ]

pub returns-in_default : goal.returns-in_default
returns-in_default c = first_wrong IsMagnitude c.args.s.now c.loop-i.i c.loop-i-test.true (begins c.loop-i.invariant) (not_allowed _ _ (inl (omega arith)) (λ e. omega arith))

pub returns-in_default-2 : goal.returns-in_default-2
returns-in_default-2 c = first_wrong IsMagnitude c.args.s.now c.loop-i.i c.loop-i-test.true (begins c.loop-i.invariant) (not_allowed _ _ (inr (omega arith)) (λ e. omega arith))

pub returns-then-point : goal.returns-then-point
returns-then-point c = first_wrong IsMagnitude c.args.s.now c.loop-i.i c.loop-i-test.true (begins c.loop-i.invariant) (second_point _ (carry refl refl refl refl (sym c.if-point.true) c.loop-i.invariant) c.in-46.is)

-- the invariant at the end, over the whole text
all : (s : List ℕ) (i n ds fs : ℕ) (p : Bool) → length s ≤ i → Sofar (take i s) n ds fs p → Sofar s n ds fs p
all s i n ds fs p l h = subst (λ t. Sofar t n ds fs p) (take_all i s l) h

pub returns-then-digits-eq0 : goal.returns-then-digits-eq0
returns-then-digits-eq0 c =
    let h = all c.args.s.now c.loop-i.i _ _ _ _ c.loop-i-test.false c.loop-i.invariant in
    first_short IsMagnitude c.args.s.now (begins h) (λ m. omega (arith, m.some, h.digits_is, c.if-digits-eq0.true))

pub returns : goal.returns
returns c =
    let h = all c.args.s.now c.loop-i.i _ _ _ _ c.loop-i-test.false c.loop-i.invariant in
    (done h c.if-digits-eq0.false, h.value_is, h.decimals_is, ten_digits h)
