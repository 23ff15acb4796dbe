-- Increments as they are written.
use Rattle.std.proofs.Common.{◌≡◌, ℕ, ◌<◌, Bool, true, false, ◌&&◌, leb, ℤ, pos, negsuc, unsigned_abs, Ok, Err, Result, sym, refl, ap, ◌∙◌, subst, ⊎_elim, arith}
use Rattle.std.specs.Result.{OkIff, MatchResult}
use Rattle.std.specs.Int.{FitsUnsignedBits}
use Rattle.units.specs.declared.fault.Fault.TheVariants.{Argument}
use Rattle.std.proofs.lemmas.Bool.{and_right, lt-leb, cases_lt}
use Rattle.units.specs.declared.axis.Point.{Point}
use Rattle.units.specs.declared.fault.Fault.{Fault}
use Rattle.machine.specs.Motors.{Increments}
use Rattle.machine.specs.Made.{MadeWhere}
use Rattle.machine.specs.Ranges.{increment_fits}
use Rattle.machine.specs.Count.{increments_fit}
use Rattle.jobs.specs.Ends.{written_fits, all_fit, Fitting}

same_test : {T : Type 0} (P : T → Type 0) (test other : Bool) (r : Result T Fault) → other ≡ test → MadeWhere test P r → MadeWhere other (λ _. Unit {0}) r
same_test P test other (Ok v) e m = (e ∙ m.0, tt)
same_test P test other (Err f) e m = (e ∙ m.0, m.1)

fits_alike : (p : Point) (n : Increments) → p.x ≡ pos n.x → p.y ≡ pos n.y → p.z ≡ pos n.z → all_fit p ≡ increments_fit n
unfolding increments_fit increment_fits
fits_alike p n x y z = ap (λ (i : ℤ). written_fits i && (written_fits p.y && written_fits p.z)) x ∙ ap (λ (i : ℤ). increment_fits n.x && (written_fits i && written_fits p.z)) y ∙ ap (λ (i : ℤ). increment_fits n.x && (increment_fits n.y && written_fits i)) z

pub counted : {T : Type 0} (P : T → Type 0) (limited : Bool) (p : Point) (n : Increments) (r : Result T Fault) → limited ≡ true → p.x ≡ pos n.x → p.y ≡ pos n.y → p.z ≡ pos n.z → MadeWhere (increments_fit n) P r → MadeWhere (limited && all_fit p) (λ _. Unit {0}) r
counted P limited p n r l x y z m = same_test P (increments_fit n) (limited && all_fit p) r (ap (λ (b : Bool). b && all_fit p) l ∙ fits_alike p n x y z) m

too_large : (n : ℕ) → (n < 4294967296 → ⊥) → increment_fits n ≡ false
unfolding increment_fits
too_large n f = and_right (leb 1 n) (leb n 100000) (lt-leb n 100000 (⊎_elim (λ l. absurd (f (omega arith))) (λ h. omega arith) (cases_lt n 100001)))

-- by what the conversion to 32 bits gives
pub fitting : {E : Type 0} (z : ℤ) (u : Result ℕ E) (r : Result ℕ Fault) → OkIff u (FitsUnsignedBits 32 z) (unsigned_abs z) → MatchResult u (λ x. r ≡ Ok x) (λ e. r ≡ Err Argument) → Fitting z r
fitting (pos n) (Ok x) r f m = subst (Fitting (pos n)) (sym m) (ap pos (sym f.1))
fitting (negsuc n) (Ok x) r f m = absurd f.0
fitting (pos n) (Err e) r f m = subst (Fitting (pos n)) (sym m) (too_large n f, refl)
fitting (negsuc n) (Err e) r f m = subst (Fitting (negsuc n)) (sym m) (refl, refl)
