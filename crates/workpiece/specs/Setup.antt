-- What a translator keeps beside its machine, as its calls see it.
use Rattle.std.specs.Prelude.{Bool, false, List, [], ◌∷◌, Option}
use Rattle.units.specs.declared.axis.Point.{Point}
use Rattle.units.specs.declared.quantity.Length.{Length}
use Rattle.units.specs.declared.quantity.Tolerance.{Tolerance}
use Rattle.chains.specs.declared.step.Step.{Step}
use Rattle.chains.specs.Chains.{steps_of}
use Rattle.frames.specs.declared.image.Image.{Image}
use Rattle.workpiece.specs.declared.modes.Modes.{Modes}
use Rattle.workpiece.specs.declared.force.InForce.{InForce}
use Rattle.workpiece.specs.declared.settable.SettableFrame.{SettableFrame}
use Rattle.workpiece.specs.declared.setup.Setup.{Setup}
use Rattle.workpiece.specs.Force.{start_force}
use Rattle.workpiece.specs.Modes.{start_modes}
use Rattle.workpiece.specs.Places.{all_open}
use Rattle.workpiece.specs.Settable.{records_of, no_records}

pub record SetupState : Type 0 where
  pub tolerance : Tolerance
  pub steps : List Step
  pub records : List SettableFrame
  pub modes : Modes
  pub force : InForce
  pub values : List (Option Length)
  pub image : Image
  pub ended : Bool

abbrev pub setup_of : Setup → SetupState
setup_of s = record {
  tolerance = s.frames.tolerance;
  steps = steps_of s.frames.chain;
  records = records_of s.frames.settable;
  modes = s.modes;
  force = s.force;
  values = s.values;
  image = s.image;
  ended = s.ended;
}

-- three targets with spreads of 0
abbrev pub standing_at : Point → Image
standing_at p = record { at = p.x ∷ p.y ∷ p.z ∷ []; spread = 0 ∷ 0 ∷ 0 ∷ [] }

-- a new translator's, over an end that holds p
abbrev pub started : Tolerance → Point → SetupState
started t p = record {
  tolerance = t;
  steps = [];
  records = no_records;
  modes = start_modes;
  force = start_force;
  values = all_open;
  image = standing_at p;
  ended = false;
}

-- reset keeps entries, targets and spreads
abbrev pub after_reset : SetupState → SetupState
after_reset s = record {
  tolerance = s.tolerance;
  steps = [];
  records = s.records;
  modes = start_modes;
  force = start_force;
  values = all_open;
  image = s.image;
  ended = false;
}
