-- Making something whose numbers have to be in range.
use Rattle.std.specs.Prelude.{◌≡◌, Bool, true, false, Ok, Err, Result}
use Rattle.units.specs.declared.fault.Fault.{Fault}
use Rattle.units.specs.declared.fault.Fault.TheVariants.{Argument}

-- made as P says exactly where the test holds; else 17
abbrev pub MadeWhere : {T : Type 0} → Bool → (T → Type 0) → Result T Fault → Type 0
MadeWhere test P (Ok v) = (test ≡ true) × P v
MadeWhere test P (Err f) = (test ≡ false) × (f ≡ Argument)
