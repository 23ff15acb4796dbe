-- A number that is not negative.
use Rattle.std.proofs.Common.{◌≡◌, ℕ, ℤ, pos, negsuc, unsigned_abs, Ok, Err, Result, ap, ◌∙◌, SFits, w64, arith}
use Rattle.std.specs.Result.{OkIff, result_ok}
use Rattle.std.specs.Option.{option_and_then}
use Rattle.std.specs.Int.{FitsUnsignedBits}
use Rattle.std.proofs.lemmas.Int.{ints}
use Rattle.units.specs.declared.fault.Fault.{Fault}
use Rattle.units.specs.declared.quantity.Tolerance.{Tolerance}
use Rattle.units.specs.Quantities.{tolerance_of}
use Rattle.jobs.specs.Conversions.{or_argument, tolerance_asked}

pub asked : {E : Type 0} (z : ℤ) (u : Result ℕ E) (r : Result Tolerance Fault) → SFits w64 z → OkIff u (FitsUnsignedBits 64 z) (unsigned_abs z) → r ≡ or_argument (option_and_then tolerance_of (result_ok u)) → r ≡ tolerance_asked z
asked (pos n) (Ok x) r s f e = e ∙ ap (λ (k : ℕ). or_argument (tolerance_of k)) f.1
asked (negsuc n) (Ok x) r s f e = absurd f.0
asked (pos n) (Err b) r s f e = absurd (f (omega (arith, ints)))
asked (negsuc n) (Err b) r s f e = e
