-- What is asked axis by axis.
use Rattle.std.specs.Prelude.{◌≡◌, ℕ, ◌<◌, ℤ, Ok, Err, Result}
use Rattle.units.specs.declared.fault.Fault.{Fault}
use Rattle.chains.specs.declared.step.Step.{Step}
use Rattle.frames.specs.declared.image.Image.{Image}
use Rattle.frames.specs.declared.tested.Tested.{Tested}
use Rattle.frames.specs.Pushing.{new_at, new_spread}

-- each call at an axis gives what f has there
abbrev pub GivesAt : {A : Type 0} → (ℕ → A → Type 0) → (ℕ → A) → Type 0
GivesAt {A} post f = (a : ℕ) (r : A) → a < 3 → post a r → r ≡ f a

-- coordinate and spread of an axis after a step
abbrev pub new_axis : Step → Image → ℕ → ℤ × ℕ
new_axis s p a = (new_at s a p, new_spread s a p)

-- the image that passed its tests
abbrev pub image_of : Result Tested Fault → Result Image Fault
image_of (Ok p) = Ok p.image
image_of (Err e) = Err e
