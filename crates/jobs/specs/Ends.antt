-- Which lines of a script make an end.
use Rattle.std.specs.Prelude.{◌≡◌, ℕ, Bool, true, false, ◌&&◌, ℤ, pos, negsuc, Some, None, Ok, Err, Option, Result}
use Rattle.units.specs.declared.axis.Point.{Point}
use Rattle.units.specs.declared.fault.Fault.{Fault}
use Rattle.units.specs.declared.fault.Fault.TheVariants.{Argument}
use Rattle.machine.specs.Ranges.{within, increment_fits}
use Rattle.machine.specs.Motors.{Increments}
use Rattle.script.specs.declared.call.Limits.{Limits}
use Rattle.script.specs.declared.call.Call.{Call}
use Rattle.script.specs.declared.call.Call.TheVariants.{ScaleEnd, CountEnd, Area, Move, Ask, New, Block, Entry, Reset, Read, Rolls, Programme, Check}
use Rattle.jobs.specs.declared.convert.MadeEnd.{MadeEnd}

-- limits that a box may have
abbrev pub limits_fit : Limits → Bool
limits_fit l = within 2000000000 l.lower && within 2000000000 l.upper

-- an increment as it is written
abbrev pub written_fits : ℤ → Bool
written_fits (negsuc n) = false
written_fits (pos n) = increment_fits n

-- the same number, or 17 where it cannot be an increment
abbrev pub Fitting : ℤ → Result ℕ Fault → Type 0
Fitting z (Ok n) = z ≡ pos n
Fitting z (Err f) = (written_fits z ≡ false) × (f ≡ Argument)

abbrev pub all_fit : Point → Bool
all_fit p = written_fits p.x && (written_fits p.y && written_fits p.z)

abbrev pub AllFitting : Point → Result Increments Fault → Type 0
AllFitting p (Ok n) = (p.x ≡ pos n.x) × ((p.y ≡ pos n.y) × (p.z ≡ pos n.z))
AllFitting p (Err f) = (all_fit p ≡ false) × (f ≡ Argument)

-- whether a call makes an end
abbrev pub makes_end : Call → Bool
makes_end (ScaleEnd i l) = limits_fit l && written_fits i
makes_end (CountEnd p l) = limits_fit l && all_fit p
makes_end (Area l) = false
makes_end (Move to) = false
makes_end (Ask q) = false
makes_end (New t) = false
makes_end (Block bytes) = false
makes_end (Entry f o) = false
makes_end Reset = false
makes_end Read = false
makes_end (Rolls c) = false
makes_end Programme = false
makes_end Check = false

abbrev pub line_makes_end : Option Call → Bool
line_makes_end None = false
line_makes_end (Some call) = makes_end call

-- an end where the test holds; else none, and 17 where the line asks for one
abbrev pub EndMade : Bool → Option (Result MadeEnd Fault) → Type 0
EndMade test (Some (Ok e)) = test ≡ true
EndMade test (Some (Err f)) = (test ≡ false) × (f ≡ Argument)
EndMade test None = test ≡ false
