-- Worked examples as one fact about the definitions. Lengths are in units of 10 nm: 1 mm is 100,000.
use Rattle.std.specs.Prelude.{◌≡◌, ℕ, zero, suc, Bool, true, false, List, [], ◌∷◌, ℤ, pos, negsuc, Some, None, Ok, Err, Result}
use Rattle.std.proofs.Common.{lit<, lit≤}
use Rattle.units.specs.Quantities.{zero_length}
use Rattle.units.specs.declared.axis.Axis.TheVariants.{X}
use Rattle.units.specs.declared.axis.Plane.TheVariants.{Xy, Zx}
use Rattle.units.specs.declared.quantity.Length.{Length}
use Rattle.units.specs.declared.quantity.Factor.{Factor}
use Rattle.units.specs.declared.quantity.Angle.{Angle}
use Rattle.units.specs.declared.fault.Fault.{Fault}
use Rattle.units.specs.declared.fault.Fault.TheVariants.{Spread}
use Rattle.chains.specs.declared.step.Step.{Step}
use Rattle.chains.specs.declared.step.Step.TheVariants.{Offset, Scale, Turn}
use Rattle.chains.specs.Chains.{appended, left_by}
use Rattle.frames.specs.declared.image.Image.{Image}
use Rattle.frames.specs.Pushing.{pushed}

abbrev all : List Bool
all = true ∷ true ∷ true ∷ []

abbrev plane17 : List Bool
plane17 = true ∷ true ∷ false ∷ []

abbrev none : List Length
none = zero_length ∷ zero_length ∷ zero_length ∷ []

abbrev placed : ℤ → ℤ → ℤ → ℕ → ℕ → ℕ → Result Image Fault
placed x y z r s t = Ok (record { at = x ∷ y ∷ z ∷ []; spread = r ∷ s ∷ t ∷ [] })

-- 5 units, 5, 10, 20, 50 and 100 mm
abbrev units5 : Length
units5 = record { units = pos 5; most = lit≤ tt }

abbrev mm5 : Length
mm5 = record { units = pos 500000; most = lit≤ tt }

abbrev mm10 : Length
mm10 = record { units = pos 1000000; most = lit≤ tt }

abbrev mm20 : Length
mm20 = record { units = pos 2000000; most = lit≤ tt }

abbrev mm50 : Length
mm50 = record { units = pos 5000000; most = lit≤ tt }

abbrev mm100 : Length
mm100 = record { units = pos 10000000; most = lit≤ tt }

-- 10, 30 and 90 degrees
abbrev angle10 : Angle
angle10 = record { ticks = 100000; below = lit< tt }

abbrev angle30 : Angle
angle30 = record { ticks = 300000; below = lit< tt }

abbrev angle90 : Angle
angle90 = record { ticks = 900000; below = lit< tt }

-- 0.33333 and 2
abbrev third : Factor
third = record { parts = 33333; some = lit≤ tt; most = lit≤ tt }

abbrev double : Factor
double = record { parts = 200000; some = lit≤ tt; most = lit≤ tt }

-- the step appended n times
abbrev times : ℕ → Step → List Step → List Step
times zero s ss = ss
times (suc n) s ss = left_by (times n s ss) (appended (times n s ss) s)

abbrev plus_one : Step → List Step → List Step
plus_one s ss = left_by ss (appended ss s)

pub record Examples : Type 0 where
  -- G54 at 100, 50, 0 mm, ROT RPL=90, X10 Y20
  pub quarter : pushed (Turn Xy angle90 ∷ []) plane17 100 (mm100 ∷ mm50 ∷ zero_length ∷ []) (mm10 ∷ mm20 ∷ zero_length ∷ []) ≡ placed (pos 8000000) (pos 6000000) (pos 0) 0 0 0
  -- SCALE X2 Y2, ATRANS X10 Y5, X0 Y0
  pub inside : pushed (plus_one (Offset (Some mm10 ∷ Some mm5 ∷ None ∷ [])) (Scale (Some double ∷ Some double ∷ None ∷ []) ∷ [])) plane17 100 none none ≡ placed (pos 2000000) (pos 1000000) (pos 0) 0 0 0
  -- TRANS X50, 36 × AROT RPL=10, X10 Y0
  pub round : pushed (times 36 (Turn Xy angle10) (Offset (Some mm50 ∷ None ∷ None ∷ []) ∷ [])) plane17 100 none (mm10 ∷ zero_length ∷ zero_length ∷ []) ≡ placed (pos 6000000) (pos 0) (pos 0) 0 0 0
  -- ROT RPL=30, X100 Y0, with tolerance 100 and with tolerance 1
  pub turned : pushed (Turn Xy angle30 ∷ []) plane17 100 none (mm100 ∷ zero_length ∷ zero_length ∷ []) ≡ placed (pos 8660254) (pos 5000000) (pos 0) 2 2 0
  pub refused : pushed (Turn Xy angle30 ∷ []) plane17 1 none (mm100 ∷ zero_length ∷ zero_length ∷ []) ≡ Err (Spread 0 X 1)
  -- ROT RPL=30, G18, AROT RPL=30, X100 Y0 Z0
  pub twice : pushed (plus_one (Turn Zx angle30) (Turn Xy angle30 ∷ [])) all 100 none (mm100 ∷ zero_length ∷ zero_length ∷ []) ≡ placed (pos 7500000) (pos 4330127) (negsuc 4999999) 5 5 2
  -- SCALE X0.33333, X0.00005
  pub scaled : pushed (Scale (Some third ∷ None ∷ None ∷ []) ∷ []) (true ∷ false ∷ false ∷ []) 100 none (units5 ∷ zero_length ∷ zero_length ∷ []) ≡ placed (pos 2) (pos 0) (pos 0) 1 0 0
