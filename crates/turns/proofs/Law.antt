-- The numbers are within 1 of 10^9 times their references.
use mathlib.Core.Path.{◌≡◌, refl, sym, subst, subst₂}
use mathlib.Core.Bool.{Bool, true, false, cond, not}
use Prim.Native.Nat.{ℕ, ◌-◌, ◌/◌, ◌%◌, ◌≤◌, ◌<◌}
use native.Mathlib.Omega.{arith}
use lib.IntN.{ℤ, pos}
use lib.Dec.{leb, leb→le, nleb→lt, T}
use Rattle.turns.specs.Reference.{NearTo, Exactly, TurnLaw, cosine, sine, cosine_of, sine_of, quarter_cosine, quarter_sine}
use Rattle.turns.specs.Numbers.{octant_c, octant_s, quarter_c, quarter_s, turn_c, turn_s, Law}
use Rattle.turns.proofs.Bounds.{octant_numbers}
use Rattle.turns.proofs.Turning.{quarters, quarters_exact, octant_exact}

quarter_told : (a : ℕ) → a ≤ 900000 → (t : Bool) → leb a 450000 ≡ t → NearTo (cond t (cosine a) (sine (900000 - a))) (cond t (sine a) (cosine (900000 - a))) (cond t (pos (octant_c a)) (pos (octant_s (900000 - a)))) (cond t (pos (octant_s a)) (pos (octant_c (900000 - a))))
quarter_told a h true e =
    let t = octant_numbers a (leb→le a 450000 (subst T (sym e) tt)) in
    record { cosine_near = t.cosine_near; sine_near = t.sine_near; cosine_most = t.cosine_most; sine_most = t.sine_most }
quarter_told a h false e =
    let l : 450000 < a = nleb→lt a 450000 (subst (λ (t : Bool). T (not t)) (sym e) tt) in
    let t = octant_numbers (900000 - a) (omega arith) in
    record { cosine_near = t.sine_near; sine_near = t.cosine_near; cosine_most = t.sine_most; sine_most = t.cosine_most }

pub numbers_told : (a : ℕ) → NearTo (cosine_of a) (sine_of a) (turn_c a) (turn_s a)
unfolding turn_c turn_s
numbers_told a = quarters (a / 900000) (quarter_cosine (a % 900000)) (quarter_sine (a % 900000)) (quarter_c (a % 900000)) (quarter_s (a % 900000)) (quarter_told (a % 900000) (omega arith) (leb (a % 900000) 450000) refl)

quarter_exact : (a : ℕ) → a ≡ 0 → Exactly (quarter_cosine a) (quarter_sine a) (quarter_c a) (quarter_s a)
quarter_exact a e =
    subst (λ (z : ℕ). Exactly (quarter_cosine z) (quarter_sine z) (quarter_c z) (quarter_s z)) (sym e)
    (octant_exact 0 (octant_c 0) (octant_s 0) (octant_numbers 0 (omega arith)) refl)

numbers_exact : (a : ℕ) → a % 900000 ≡ 0 → Exactly (cosine_of a) (sine_of a) (turn_c a) (turn_s a)
unfolding turn_c turn_s
numbers_exact a e = quarters_exact (a / 900000) (quarter_cosine (a % 900000)) (quarter_sine (a % 900000)) (quarter_c (a % 900000)) (quarter_s (a % 900000)) (quarter_exact (a % 900000) e)

pub law : Law
law a = record { near = numbers_told a; exact = numbers_exact a }

pub law_of : (a : ℕ) (c s : ℤ) → (c ≡ turn_c a) × (s ≡ turn_s a) → TurnLaw a c s
law_of a c s e = subst₂ (λ (x y : ℤ). TurnLaw a x y) (sym e.0) (sym e.1) (law a)
