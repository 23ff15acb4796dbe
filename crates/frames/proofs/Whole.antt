-- What an accepted push has, together.
use Rattle.std.proofs.Common.{◌≡◌, ℕ, Bool, List, ◌∷◌, IfOk, Ok, Err, Result, sym, subst}
use Rattle.units.specs.declared.quantity.Length.{Length}
use Rattle.units.specs.declared.fault.Fault.{Fault}
use Rattle.fractions.proofs.Steps.{equals_of}
use Rattle.chains.specs.declared.step.Step.{Step}
use Rattle.frames.specs.declared.image.Image.{Image}
use Rattle.frames.specs.Pushing.{coordinate, spread_of, carried, settable, pushed, started}
use Rattle.frames.specs.Exact.{exact_image}
use Rattle.frames.specs.Theorems.{Sound, AllInRange}
use Rattle.frames.proofs.Passing.{pushed_carried}
use Rattle.frames.proofs.Images.{image_near, image_positive}
use Rattle.frames.proofs.Growth.{image_grown, image_rigid}

carried_sound : (ss : List Step) (m : List Bool) (o values : List Length) → AllInRange (settable o ∷ ss) m (started values) → Sound ss m o values (carried (settable o ∷ ss) m (started values))
carried_sound ss m o values r = record {
  near = image_near ss m o values;
  positive = image_positive ss o values;
  grown = λ k. image_grown ss m o values k r;
  rigid = λ e. image_rigid ss m o values e r;
  exact = λ e j a h t. equals_of (coordinate (carried (settable o ∷ ss) m (started values)) a) (exact_image ss o values a) (spread_of (carried (settable o ∷ ss) m (started values)) a) (image_rigid ss m o values e r a h) (image_near ss m o values j a h t);
}

pub pushed_sound : (ss : List Step) (m : List Bool) (tol : ℕ) (o values : List Length) (r : Result Image Fault) → r ≡ pushed ss m tol o values → IfOk r (Sound ss m o values)
pushed_sound ss m tol o values (Err f) e = tt
pushed_sound ss m tol o values (Ok q) e =
    let c = pushed_carried ss m tol o values q (sym e) in
    subst (Sound ss m o values) (sym c.same) (carried_sound ss m o values c.ranged)
