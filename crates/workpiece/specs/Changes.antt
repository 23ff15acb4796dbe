-- What a frame instruction makes of the chain, and which axes it opens.
use Rattle.std.specs.Prelude.{Bool, false, ◌||◌, List, [], ◌∷◌, Ok, Err, Result, slice_index_or}
use Rattle.units.specs.declared.axis.Plane.{Plane}
use Rattle.units.specs.declared.fault.Fault.{Fault}
use Rattle.blocks.specs.declared.types.FrameChange.{FrameChange}
use Rattle.blocks.specs.declared.types.FrameChange.TheVariants.{Empty, Replace, Append}
use Rattle.blocks.specs.declared.types.FrameStep.{FrameStep}
use Rattle.blocks.specs.declared.types.FrameStep.TheVariants.{Offset as offset, Turn as turn, Scale as scale, Mirror as mirror}
use Rattle.chains.specs.declared.step.Step.{Step}
use Rattle.chains.specs.declared.step.Step.TheVariants.{Offset, Scale, Mirror, Turn}
use Rattle.chains.specs.Chains.{touched, appended}
use Rattle.workpiece.specs.Places.{opened}
use Rattle.workpiece.specs.Setup.{SetupState}

-- a programmed step, a turn in the plane that is in force
abbrev pub step_in : Plane → FrameStep → Step
step_in p (offset by) = Offset by
step_in p (turn angle) = Turn p angle
step_in p (scale by) = Scale by
step_in p (mirror named) = Mirror named

abbrev pub either_of : List Bool → List Bool → List Bool
either_of a b = (slice_index_or a 0 false || slice_index_or b 0 false) ∷ (slice_index_or a 1 false || slice_index_or b 1 false) ∷ (slice_index_or a 2 false || slice_index_or b 2 false) ∷ []

-- another chain, and some axes opened
abbrev pub reframed : SetupState → List Step → List Bool → SetupState
reframed s steps ts = record {
  tolerance = s.tolerance;
  steps = steps;
  records = s.records;
  modes = s.modes;
  force = s.force;
  values = opened ts s.values;
  image = s.image;
  ended = s.ended;
}

-- opens what the old chain touched
abbrev pub emptied : SetupState → SetupState
emptied s = reframed s [] (touched s.steps)

-- opens what the old chain or the new step touches
abbrev pub replaced_by : SetupState → Step → SetupState
replaced_by s t = reframed s (t ∷ []) (either_of (touched s.steps) (touched (t ∷ [])))

-- opens what the new step touches
abbrev pub on_longer : SetupState → Step → Result (List Step) Fault → Result SetupState Fault
on_longer s t (Ok longer) = Ok (reframed s longer (touched (t ∷ [])))
on_longer s t (Err f) = Err f

abbrev pub lengthened_by : SetupState → Step → Result SetupState Fault
lengthened_by s t = on_longer s t (appended s.steps t)

abbrev pub changed : SetupState → FrameChange → Result SetupState Fault
changed s Empty = Ok (emptied s)
changed s (Replace f) = Ok (replaced_by s (step_in s.modes.plane f))
changed s (Append f) = lengthened_by s (step_in s.modes.plane f)

-- what a change tells, and what it leaves: where it is declined, what there was
abbrev pub told_of : Result SetupState Fault → Result (Unit {0}) Fault
told_of (Ok s) = Ok tt
told_of (Err f) = Err f

abbrev pub left_of : SetupState → Result SetupState Fault → SetupState
left_of s (Ok t) = t
left_of s (Err f) = s
