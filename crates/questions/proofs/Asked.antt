-- What is told of a limit on no axis.
use Rattle.std.proofs.Common.{◌≡◌, ℕ, zero, suc, Bool, true, false, cond, List, [], ◌∷◌, Ok, Err, Result, ◌==◌, refl, sym, ap, ◌∙◌, arith}
use Rattle.units.specs.Axes.{axis_of}
use Rattle.units.specs.declared.axis.Axis.{Axis}
use Rattle.units.specs.declared.axis.Axis.TheVariants.{X, Y, Z}
use Rattle.units.specs.declared.axis.Side.{Side}
use Rattle.units.specs.declared.fault.Fault.{Fault}
use Rattle.units.specs.declared.fault.Fault.TheVariants.{Argument}
use Rattle.machine.specs.declared.bounds.Bounds.{Bounds}
use Rattle.machine.specs.Replies.{box_at, limit_of}

never : (a : Axis) (f : Fault) → ◌≡◌ {A = Result Axis Fault} (Ok a) (Err f) → ⊥
never a f e = let z : ◌≡◌ {A = ℕ} 0 1 = cc in omega arith

only : (x y z : Bool) (f : Fault) → ◌≡◌ {A = Result Axis Fault} (cond x (Ok X) (cond y (Ok Y) (cond z (Ok Z) (Err Argument)))) (Err f) → Argument ≡ f
only true y z f e = absurd (never X f e)
only false true z f e = absurd (never Y f e)
only false false true f e = absurd (never Z f e)
only false false false f e = cc

refused : (bs : List Bounds) (n : ℕ) (s : Side) → limit_of (box_at bs n) (Err Argument) s ≡ Err Argument
refused [] n s = refl
refused (b ∷ bs) zero s = refl
refused (b ∷ bs) (suc n) s = refused bs n s

pub on_no_axis : (bs : List Bounds) (n k : ℕ) (s : Side) (f : Fault) → axis_of k ≡ Err f → limit_of (box_at bs n) (axis_of k) s ≡ Err f
on_no_axis bs n k s f e =
    let a : Argument ≡ f = only (k == 1) (k == 2) (k == 3) f e in
    ap (λ r. limit_of (box_at bs n) r s) (e ∙ sym (ap (λ (x : Fault). Err x) a)) ∙ refused bs n s ∙ ap (λ (x : Fault). Err x) a
