-- A translator as its calls see it: its pile and its setup.
use Rattle.std.specs.Prelude.{◌≡◌, true, false, List, [], ◌∷◌, pos, negsuc, Option, refl}
use Rattle.units.specs.declared.axis.Point.{Point}
use Rattle.units.specs.declared.axis.Side.{Side}
use Rattle.units.specs.declared.quantity.Length.{Length}
use Rattle.units.specs.declared.quantity.Tolerance.{Tolerance}
use Rattle.machine.specs.declared.bounds.Bounds.{Bounds}
use Rattle.machine.specs.Area.{rewritten}
use Rattle.machine.specs.Ranges.{within}
use Rattle.machine.specs.Meaning.{Meaning, topped}
use Rattle.frames.specs.declared.image.Image.{Image}
use Rattle.frames.specs.Pushing.{coordinate}
use Rattle.workpiece.specs.Setup.{SetupState, setup_of, started}
use Rattle.chains.specs.Chains.{steps_of}
use Rattle.translator.specs.declared.reply.Reply.{Reply}
use Rattle.translator.specs.declared.reply.Reading.{Reading}
use Rattle.translator.specs.declared.translator.Translator.{Translator}

pub record State : Type 0 where
  pub pile : Meaning
  pub setup : SetupState

-- the work area's box on top of what the end means
abbrev pub state_of : {E : Type 0} → (E → Meaning) → Translator E → State
state_of meaning t = record { pile = topped t.pile.own (meaning t.pile.below); setup = setup_of t.setup }

-- three targets as a point of the machine
abbrev pub point_of : Image → Point
point_of i = record { x = coordinate i 0; y = coordinate i 1; z = coordinate i 2 }

-- no axis moved
abbrev pub still : SetupState → Reply
still s = record { moved = false ∷ false ∷ false ∷ []; image = s.image }

-- the topmost box, which is the work area's, with the given limits written on one side
abbrev pub relimited : Side → List (Option Length) → List Bounds → List Bounds
relimited side values [] = []
relimited side values (b ∷ bs) = rewritten side values b ∷ bs

abbrev pub with_limits : Side → List (Option Length) → Meaning → Meaning
with_limits side values m = record { boxes = relimited side values m.boxes; increment = m.increment; rounding = m.rounding; held = m.held }

pub widest_low : within 2000000000 (record { x = negsuc 1999999999; y = negsuc 1999999999; z = negsuc 1999999999 }) ≡ true
unfolding within
widest_low = refl

pub widest_high : within 2000000000 (record { x = pos 2000000000; y = pos 2000000000; z = pos 2000000000 }) ≡ true
unfolding within
widest_high = refl

-- the work area as it is at first
abbrev pub widest : Bounds
widest = record {
  lower = record { x = negsuc 1999999999; y = negsuc 1999999999; z = negsuc 1999999999 };
  upper = record { x = pos 2000000000; y = pos 2000000000; z = pos 2000000000 };
  low = widest_low;
  high = widest_high;
}

-- a new translator over an end
abbrev pub opened : Meaning → Tolerance → State
opened m t = record { pile = topped widest m; setup = started t m.held }

-- what a reading tells
pub record Tells (s : State) (r : Reading) : Type 0 where
  pub image : r.image ≡ s.setup.image
  pub held : r.held ≡ s.pile.held
  pub steps : steps_of r.chain ≡ s.setup.steps
