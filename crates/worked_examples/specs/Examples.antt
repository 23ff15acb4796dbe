-- Worked examples over a scale end of increment 100 and limits of 50,000,000 units either way, at tolerance 100 unless said otherwise.
use Rattle.std.specs.Prelude.{◌≡◌, ℕ, ◌≤◌, Bool, true, false, List, [], ◌∷◌, replicate, ℤ, pos, negsuc, Ok, Err, codes, Result, refl}
use Rattle.std.proofs.Common.{lit≤}
use Rattle.units.specs.declared.axis.Axis.TheVariants.{X}
use Rattle.units.specs.declared.axis.Point.{Point}
use Rattle.units.specs.declared.fault.Fault.{Fault}
use Rattle.units.specs.declared.fault.Fault.TheVariants.{Range, Open, Spread, Outside}
use Rattle.units.specs.declared.quantity.Tolerance.{Tolerance}
use Rattle.machine.specs.declared.bounds.Bounds.{Bounds}
use Rattle.machine.specs.Meaning.{origin}
use Rattle.machine.specs.Ranges.{within}
use Rattle.machine.specs.Scale.{scale_meaning}
use Rattle.translator.specs.declared.reply.Reply.{Reply}
use Rattle.translator.specs.State.{State, opened}
use Rattle.translator.specs.Work.{worked, entered, replied, left_by}

abbrev pub point : ℤ → ℤ → ℤ → Point
point x y z = record { x = x; y = y; z = z }

pub lower_fits : within 2000000000 (point (negsuc 49999999) (negsuc 49999999) (negsuc 49999999)) ≡ true
unfolding within
lower_fits = refl

pub upper_fits : within 2000000000 (point (pos 50000000) (pos 50000000) (pos 50000000)) ≡ true
unfolding within
upper_fits = refl

abbrev pub box : Bounds
box = record {
  lower = point (negsuc 49999999) (negsuc 49999999) (negsuc 49999999);
  upper = point (pos 50000000) (pos 50000000) (pos 50000000);
  low = lower_fits;
  high = upper_fits;
}

abbrev pub tolerance : (n : ℕ) → n ≤ 100000 → Tolerance
tolerance n h = record { units = n; most = h }

-- a new translator at a tolerance
abbrev pub new : (n : ℕ) → n ≤ 100000 → State
new n h = opened (scale_meaning 100 box origin) (tolerance n h)

abbrev pub start : State
start = new 100 (lit≤ tt)

-- after blocks, each worked in turn
abbrev pub after : State → List (List ℕ) → State
after s [] = s
after s (b ∷ bs) = after (left_by s (worked s b)) bs

-- the answer to a block after others
abbrev pub answer : State → List (List ℕ) → List ℕ → Result Reply Fault
answer s bs b = replied (worked (after s bs) b)

abbrev pub moved : Bool → Bool → Bool → ℤ → ℤ → ℤ → ℕ → ℕ → ℕ → Result Reply Fault
moved a b c x y z r s t = Ok (record { moved = a ∷ b ∷ c ∷ []; image = record { at = x ∷ y ∷ z ∷ []; spread = r ∷ s ∷ t ∷ [] } })

-- G54 entered as 10,000,000; 5,000,000; 0
abbrev pub offset_start : State
offset_start = left_by start (entered start (pos 1) (point (pos 10000000) (pos 5000000) (pos 0)))

pub record Examples : Type 0 where
  -- G54 and a quarter turn
  pub quarter : answer offset_start (codes "G54" ∷ codes "ROT RPL=90" ∷ []) (codes "X10 Y20") ≡ moved true true false (pos 8000000) (pos 6000000) (pos 0) 0 0 0
  -- an offset inside a scale
  pub inside : answer start (codes "SCALE X2 Y2" ∷ codes "ATRANS X10 Y5" ∷ []) (codes "X0 Y0") ≡ moved true true false (pos 2000000) (pos 1000000) (pos 0) 0 0 0
  -- 36 times 10 degrees make a turn of 0, which is exact
  pub round : answer start (codes "TRANS X50" ∷ replicate 36 (codes "AROT RPL=10")) (codes "X10 Y0") ≡ moved true true false (pos 6000000) (pos 0) (pos 0) 0 0 0
  -- an odd turn, and the same at tolerance 1
  pub turned : answer start (codes "ROT RPL=30" ∷ []) (codes "X100 Y0") ≡ moved true true false (pos 8660254) (pos 5000000) (pos 0) 2 2 0
  pub refused : answer (new 1 (lit≤ tt)) (codes "ROT RPL=30" ∷ []) (codes "X100 Y0") ≡ Err (Spread 0 X 1)
  -- two odd turns in two planes, and a move in machine coordinates after it
  pub twice : answer start (codes "ROT RPL=30" ∷ codes "G18" ∷ codes "AROT RPL=30" ∷ []) (codes "X100 Y0 Z0") ≡ moved true true true (pos 7500000) (pos 4330127) (negsuc 4999999) 5 5 2
  pub machine : answer start (codes "ROT RPL=30" ∷ codes "G18" ∷ codes "AROT RPL=30" ∷ codes "X100 Y0 Z0" ∷ []) (codes "G53 Z0") ≡ moved false false true (pos 7500000) (pos 4330127) (pos 0) 5 5 0
  -- inches
  pub inch : answer start [] (codes "G70 X0.0001") ≡ moved true false false (pos 254) (pos 0) (pos 0) 0 0 0
  pub decimals : answer start [] (codes "G70 X0.00001") ≡ Err (Range 4)
  -- a scale that rounds
  pub scaled : answer start (codes "SCALE X0.33333" ∷ []) (codes "X0.00005") ≡ moved true false false (pos 2) (pos 0) (pos 0) 1 0 0
  -- the limit belongs to the box
  pub limit : answer start [] (codes "X500") ≡ moved true false false (pos 50000000) (pos 0) (pos 0) 0 0 0
  pub outside : answer start [] (codes "X500.00001") ≡ Err (Outside 0 X 1)
  -- the first block has nothing to add to
  pub incremental : answer start [] (codes "G91 X5") ≡ Err (Open 4 X)
