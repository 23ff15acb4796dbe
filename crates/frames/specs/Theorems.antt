-- What is proved of every push.
use Rattle.std.specs.Prelude.{◌≡◌, ℕ, ◌+◌, ◌*◌, ◌^◌, ◌<◌, ◌≤◌, Bool, true, false, cond, List, [], ◌∷◌, Some, None, Option, slice_index_or, unsigned_abs}
use Rattle.units.specs.declared.quantity.Length.{Length}
use Rattle.units.specs.declared.quantity.Factor.{Factor}
use Rattle.fractions.specs.Fractions.{Within, Equals}
use Rattle.chains.specs.declared.step.Step.{Step}
use Rattle.chains.specs.declared.step.Step.TheVariants.{Offset, Scale, Mirror, Turn}
use Rattle.chains.specs.Joined.{AllJoined}
use Rattle.frames.specs.declared.image.Image.{Image}
use Rattle.frames.specs.Pushing.{coordinate, spread_of, quartered, carried, started, length_at}
use Rattle.frames.specs.Exact.{Exact, exact_image}

-- each moved axis is within its spread of its exact image
abbrev pub Near : List Bool → Image → Exact → Type 0
Near m p e = (a : ℕ) → a < 3 → slice_index_or m a false ≡ true → Within (coordinate p a) (e a) (spread_of p a)

-- exact images are numbers
abbrev pub Positive : Exact → Type 0
Positive e = (a : ℕ) → a < 3 → 0 < (e a).den

-- the number of scales and odd turns
abbrev pub weight : Step → ℕ
weight (Offset by) = 0
weight (Scale by) = 1
weight (Mirror named) = 0
weight (Turn plane angle) = cond (quartered angle.ticks) 0 1

abbrev pub weight_of : List Step → ℕ
weight_of [] = 0
weight_of (s ∷ ss) = weight s + weight_of ss

-- a scale that does not enlarge: no factor above 100,000
abbrev pub Modest : Option Factor → Type 0
Modest None = Unit {0}
Modest (Some f) = f.parts ≤ 100000

abbrev pub NotEnlarging : Step → Type 0
NotEnlarging (Offset by) = Unit {0}
NotEnlarging (Scale by) = (a : ℕ) → a < 3 → Modest (slice_index_or by a None)
NotEnlarging (Mirror named) = Unit {0}
NotEnlarging (Turn plane angle) = Unit {0}

abbrev pub NoneEnlarges : List Step → Type 0
NoneEnlarges [] = Unit {0}
NoneEnlarges (s ∷ ss) = NotEnlarging s × NoneEnlarges ss

-- t scales and odd turns, spread r
abbrev pub Grown : ℕ → ℕ → Type 0
Grown t r = 2 ^ t * (r + 11) ≤ 11 * 3 ^ t

-- what 13 asks of the moved axes after a step, and after every step
abbrev pub InRange : List Bool → Image → Type 0
InRange m p = (a : ℕ) → a < 3 → slice_index_or m a false ≡ true → unsigned_abs (coordinate p a) ≤ 2000000000

abbrev pub AllInRange : List Step → List Bool → Image → Type 0
AllInRange [] m p = Unit {0}
AllInRange (s ∷ ss) m p = AllInRange ss m p × InRange m (carried (s ∷ ss) m p)

-- growth with no test of a spread on the way
abbrev pub Growth : Type 0
Growth = (ss : List Step) (m : List Bool) (values : List Length) → NoneEnlarges ss → AllInRange ss m (started values) → (a : ℕ) → a < 3 → Grown (weight_of ss) (spread_of (carried ss m (started values)) a)

-- what a push that is accepted has
pub record Sound (ss : List Step) (m : List Bool) (offset values : List Length) (p : Image) : Type 0 where
  -- nearness
  pub near : AllJoined m ss → Near m p (exact_image ss offset values)
  pub positive : Positive (exact_image ss offset values)
  -- growth
  pub grown : NoneEnlarges ss → (a : ℕ) → a < 3 → Grown (weight_of ss) (spread_of p a)
  -- a chain with no scale and no odd turn is exact
  pub rigid : weight_of ss ≡ 0 → (a : ℕ) → a < 3 → spread_of p a ≡ 0
  pub exact : weight_of ss ≡ 0 → AllJoined m ss → (a : ℕ) → a < 3 → slice_index_or m a false ≡ true → Equals (coordinate p a) (exact_image ss offset values a)

-- the range of what is accepted, and the axes that are not moved
pub record Limited (m : List Bool) (tolerance : ℕ) (values : List Length) (p : Image) : Type 0 where
  pub ranged : (a : ℕ) → a < 3 → unsigned_abs (coordinate p a) ≤ 2000000000
  pub tolerated : (a : ℕ) → a < 3 → spread_of p a ≤ tolerance
  pub unmoved : (a : ℕ) → a < 3 → slice_index_or m a false ≡ false → (coordinate p a ≡ (length_at values a).units) × (spread_of p a ≡ 0)
