-- A quarter turn of the numbers and of their references.
use mathlib.Core.Path.{◌≡◌, refl, sym, ◌∙◌, ap, subst, subst₂}
use Prim.Native.Nat.{ℕ, zero, suc, ◌/◌, ◌%◌, ◌^◌}
use native.Mathlib.Omega.{arith}
use native.Mathlib.Nat.{le_trans, le_of_eq}
use lib.IntN.{ℤ, pos, ◌-ℤ◌, ◌*ℤ◌, neg_ℤ, nat_abs}
use Rattle.turns.specs.Reference.{whole, NearTo, Exactly, OctantLaw, cosine, sine, quarters_cosine, quarters_sine}
use Rattle.turns.specs.Numbers.{quarter_c, quarter_s, turn_c, turn_s}
use Rattle.fractions.proofs.Ring.{is, is_pos, is_sub, is_neg, is_mul, is_same, abs_neg}

flip : (R W : ℕ) (s S : ℤ) → neg_ℤ s *ℤ pos W -ℤ pos R *ℤ neg_ℤ S ≡ neg_ℤ (s *ℤ pos W -ℤ pos R *ℤ S)
flip R W s S = is_same
    (is_sub (is_mul (is_neg (is s)) (is_pos W)) (is_mul (is_pos R) (is_neg (is S))))
    (is_neg (is_sub (is_mul (is s) (is_pos W)) (is_mul (is_pos R) (is S))))
    (omega arith)

flip_left : (W : ℕ) (s : ℤ) → neg_ℤ s *ℤ pos W ≡ neg_ℤ (s *ℤ pos W)
flip_left W s = is_same (is_mul (is_neg (is s)) (is_pos W)) (is_neg (is_mul (is s) (is_pos W))) (omega arith)

flip_right : (R : ℕ) (S : ℤ) → pos R *ℤ neg_ℤ S ≡ neg_ℤ (pos R *ℤ S)
flip_right R S = is_same (is_mul (is_pos R) (is_neg (is S))) (is_neg (is_mul (is_pos R) (is S))) (omega arith)

on : {C S c s : ℤ} → NearTo C S c s → NearTo (neg_ℤ S) C (neg_ℤ s) c
on {C} {S} {c} {s} t = record {
  cosine_near = le_trans (le_of_eq (ap nat_abs (flip (10 ^ 9) whole s S) ∙ abs_neg (s *ℤ pos whole -ℤ pos (10 ^ 9) *ℤ S))) t.sine_near;
  sine_near = t.cosine_near;
  cosine_most = le_trans (le_of_eq (abs_neg s)) t.sine_most;
  sine_most = t.cosine_most;
}

on_exact : {C S c s : ℤ} → Exactly C S c s → Exactly (neg_ℤ S) C (neg_ℤ s) c
on_exact {C} {S} {c} {s} t = record {
  cosine_is = flip_left whole s ∙ ap neg_ℤ t.sine_is ∙ sym (flip_right (10 ^ 9) S);
  sine_is = t.cosine_is;
}

pub quarters : (q : ℕ) (C S c s : ℤ) → NearTo C S c s → NearTo (quarters_cosine q C S) (quarters_sine q C S) (quarters_cosine q c s) (quarters_sine q c s)
quarters zero C S c s t = t
quarters (suc q) C S c s t = quarters q (neg_ℤ S) C (neg_ℤ s) c (on t)

pub quarters_exact : (q : ℕ) (C S c s : ℤ) → Exactly C S c s → Exactly (quarters_cosine q C S) (quarters_sine q C S) (quarters_cosine q c s) (quarters_sine q c s)
quarters_exact zero C S c s t = t
quarters_exact (suc q) C S c s t = quarters_exact q (neg_ℤ S) C (neg_ℤ s) c (on_exact t)

pub octant_told : (a c s : ℕ) → OctantLaw a c s → NearTo (cosine a) (sine a) (pos c) (pos s)
octant_told a c s t = record { cosine_near = t.cosine_near; sine_near = t.sine_near; cosine_most = t.cosine_most; sine_most = t.sine_most }

pub octant_exact : (a c s : ℕ) → OctantLaw a c s → a ≡ 0 → Exactly (cosine a) (sine a) (pos c) (pos s)
octant_exact a c s t e =
    subst (λ (z : ℕ). Exactly (cosine z) (sine z) (pos c) (pos s)) (sym e)
    (subst₂ (λ (x y : ℕ). Exactly (cosine 0) (sine 0) (pos x) (pos y)) (sym (t.none e).0) (sym (t.none e).1) (record { cosine_is = refl; sine_is = refl }))

-- so many quarters further, c and s are the numbers of a
pub record Towards (a n : ℕ) (c s : ℤ) : Type 0 where
  pub cosine : quarters_cosine n c s ≡ turn_c a
  pub sine : quarters_sine n c s ≡ turn_s a

pub begun : (a n : ℕ) (c s : ℤ) → n ≡ a / 900000 → c ≡ quarter_c (a % 900000) → s ≡ quarter_s (a % 900000) → Towards a n c s
unfolding turn_c turn_s
begun a n c s e ec es = rw (e, ec, es) (record { cosine = refl; sine = refl })

pub further : (a m n : ℕ) (c s c' s' : ℤ) → m ≡ suc n → c' ≡ neg_ℤ s → s' ≡ c → Towards a m c s → Towards a n c' s'
further a m n c s c' s' e ec es t = rw (ec, es) (record { cosine = ap (λ (k : ℕ). quarters_cosine k c s) (sym e) ∙ t.cosine; sine = ap (λ (k : ℕ). quarters_sine k c s) (sym e) ∙ t.sine })

pub arrived : (a n : ℕ) (c s : ℤ) → n ≡ 0 → Towards a n c s → (c ≡ turn_c a) × (s ≡ turn_s a)
arrived a n c s e t = (ap (λ (k : ℕ). quarters_cosine k c s) (sym e) ∙ t.cosine, ap (λ (k : ℕ). quarters_sine k c s) (sym e) ∙ t.sine)
