-- The nearness law over a shift.
use Rattle.std.specs.Prelude.{◌≡◌, ℕ, ◌*◌, ◌<◌, ◌≤◌, Bool, true, false, cond, List, [], ◌∷◌, ◌-ℤ◌, Some, None, Ok, Err, Option, Result, slice_index_or, unsigned_abs}
use Rattle.units.specs.Faults.{decline_of}
use Rattle.units.specs.declared.axis.Axis.{Axis}
use Rattle.units.specs.declared.axis.Point.{Point}
use Rattle.units.specs.declared.fault.Fault.{Fault}
use Rattle.units.specs.declared.quantity.Tolerance.{Tolerance}
use Rattle.fractions.specs.Fractions.{Within}
use Rattle.machine.specs.Meaning.{at, Meaning}
use Rattle.machine.specs.Standing.{InsideAll}
use Rattle.frames.specs.Pushing.{coordinate, spread_of}
use Rattle.frames.specs.Theorems.{NoneEnlarges, Grown, weight_of}
use Rattle.blocks.specs.Block.{block_of}
use Rattle.blocks.specs.declared.types.Block.{Block}
use Rattle.blocks.specs.declared.types.Block.TheVariants.{Frame, Limit, Ordinary as ordinary}
use Rattle.blocks.specs.declared.types.Ordinary.{Ordinary}
use Rattle.workpiece.specs.declared.plan.Plan.{Plan}
use Rattle.workpiece.specs.Modes.{is_inch}
use Rattle.workpiece.specs.Moves.{planned}
use Rattle.translator.specs.declared.reply.Reading.{Reading}
use Rattle.translator.specs.State.{State, opened, point_of}
use Rattle.shifts.specs.declared.call.Call.{Call}
use Rattle.shifts.specs.declared.call.Call.TheVariants.{Block as block, Entry, Reset, Read, Ask}
use Rattle.shifts.specs.declared.call.Answer.{Answer}
use Rattle.shifts.specs.declared.call.Answer.TheVariants.{Replied, Told}
use Rattle.shifts.specs.declared.call.Seen.{Seen}
use Rattle.shifts.specs.Calls.{left_after}
use Rattle.shifts.specs.Plain.{Plain, begun, after}

abbrev pub was_declined : Result Answer Fault → Bool
was_declined (Ok a) = false
was_declined (Err f) = true

-- (a) each target is within its told spread of the exact one, whose denominator is above 0, and the held coordinate within half an increment of the target
pub record Near (increment : Axis → ℕ) (p : Plain) (r : Reading) : Type 0 where
  pub exact : (a : ℕ) → a < 3 → Within (coordinate r.image a) (p.exact a) (spread_of r.image a)
  pub positive : (a : ℕ) → a < 3 → 0 < (p.exact a).den
  pub held : (a : Axis) → 2 * unsigned_abs (at (point_of r.image) a -ℤ at r.held a) ≤ increment a

-- a block without G53
abbrev pub WithoutMachine : Result Block Fault → Type 0
WithoutMachine (Err f) = ⊥
WithoutMachine (Ok (Frame change place)) = Unit {0}
WithoutMachine (Ok (Limit side values place)) = Unit {0}
WithoutMachine (Ok (ordinary o)) = o.machine ≡ None

-- (b) where no scale of the chain enlarges, each axis that an accepted block without G53 moved has 2^t × (spread + 11) ≤ 11 × 3^t, t the number of scales and odd turns
abbrev pub Growth : Plain → Call → Result Answer Fault → Type 0
Growth p (block bytes) (Ok (Replied r)) = WithoutMachine (block_of bytes.now p.inch) → NoneEnlarges p.steps → (a : ℕ) → a < 3 → slice_index_or r.moved a false ≡ true → Grown (weight_of p.steps) (spread_of r.image a)
Growth p (block bytes) (Ok (Told t)) = Unit {0}
Growth p (block bytes) (Err f) = Unit {0}
Growth p (Entry frame offset) r = Unit {0}
Growth p Reset r = Unit {0}
Growth p Read r = Unit {0}
Growth p (Ask q) r = Unit {0}

abbrev pub targets_of_plan : Result Plan Fault → Option Point
targets_of_plan (Ok p) = Some (point_of p.image)
targets_of_plan (Err f) = None

abbrev pub targets_at : State → Ordinary → Option ℕ → Option Point
targets_at s o None = None
targets_at s o (Some place) = targets_of_plan (planned s.setup o)

abbrev pub targets_of_block : State → Result Block Fault → Option Point
targets_of_block s (Err f) = None
targets_of_block s (Ok (Frame change place)) = None
targets_of_block s (Ok (Limit side values place)) = None
targets_of_block s (Ok (ordinary o)) = cond s.setup.ended None (targets_at s o o.first)

-- the three targets that a block hands to the pile: it moves an axis, and no check before 15 declines it
abbrev pub targets_of : State → List ℕ → Option Point
targets_of s bytes = targets_of_block s (block_of bytes (is_inch s.setup.modes.unit))

-- some target is outside a box of the pile
abbrev pub OutsideSome : Meaning → Point → Type 0
OutsideSome m t = ((a : Axis) → InsideAll m.boxes a (at t a)) → ⊥

abbrev pub Got15 : Result Answer Fault → Type 0
Got15 (Ok a) = ⊥
Got15 (Err f) = (decline_of f).number ≡ 15

-- (c) a block gets 15 exactly where it hands over targets of which one is outside a box, and the end then holds what it held
pub record Fifteen (s : State) (bytes : List ℕ) (r : Seen) : Type 0 where
  pub only : Got15 r.answer → (t : Point) × (targets_of s bytes ≡ Some t) × OutsideSome s.pile t
  pub every : (t : Point) → targets_of s bytes ≡ Some t → OutsideSome s.pile t → Got15 r.answer
  pub holds : Got15 r.answer → r.reading.held ≡ s.pile.held

abbrev pub FifteenAt : State → Call → Seen → Type 0
FifteenAt s (block bytes) r = Fifteen s bytes.now r
FifteenAt s (Entry frame offset) r = Unit {0}
FifteenAt s Reset r = Unit {0}
FifteenAt s Read r = Unit {0}
FifteenAt s (Ask q) r = Unit {0}

-- what holds of one call, s the translator before it and p the plain shift before it
pub record Holds (increment : Axis → ℕ) (p : Plain) (s : State) (c : Call) (r : Seen) : Type 0 where
  pub near : Near increment (after p c (was_declined r.answer)) r.reading
  pub grown : Growth p c r.answer
  pub fifteen : FifteenAt s c r

-- of each call in turn
abbrev pub HoldsAll : (Axis → ℕ) → Plain → State → List Call → List Seen → Type 0
HoldsAll inc p s [] rs = Unit {0}
HoldsAll inc p s (c ∷ cs) [] = ⊥
HoldsAll inc p s (c ∷ cs) (r ∷ rs) = Holds inc p s c r × HoldsAll inc (after p c (was_declined r.answer)) (left_after s c) cs rs

-- at the start and after each call, over an end of that meaning
pub record Law (end : Meaning) (tolerance : Tolerance) (calls : List Call) (opening : Reading) (seen : List Seen) : Type 0 where
  pub start : Near end.increment (begun end.held) opening
  pub along : HoldsAll end.increment (begun end.held) (opened end tolerance) calls seen
