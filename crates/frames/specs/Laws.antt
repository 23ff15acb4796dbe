-- Chains that give back the point.
use Rattle.std.specs.Prelude.{◌≡◌, ℕ, ◌<◌, Bool, List, [], ◌∷◌, length, neg_ℤ, Some, None, Option, slice_index_or}
use Rattle.std.proofs.Common.{lit<}
use Rattle.units.specs.declared.axis.Plane.{Plane}
use Rattle.units.specs.declared.quantity.Length.{Length}
use Rattle.chains.specs.declared.step.Step.{Step}
use Rattle.chains.specs.declared.step.Step.TheVariants.{Offset, Mirror, Turn}
use Rattle.chains.specs.Joined.{AllJoined}
use Rattle.frames.specs.declared.image.Image.{Image}
use Rattle.frames.specs.Pushing.{carried}

-- three coordinates and three spreads
abbrev pub Sized : Image → Type 0
Sized p = (length p.at ≡ 3) × (length p.spread ≡ 3)

abbrev pub quarter_turn : Plane → Step
quarter_turn plane = Turn plane (record { ticks = 900000; below = lit< tt })

-- what the one adds the other takes away
abbrev pub Opposite : Option Length → Option Length → Type 0
Opposite None None = Unit {0}
Opposite None (Some b) = ⊥
Opposite (Some a) None = ⊥
Opposite (Some a) (Some b) = b.units ≡ neg_ℤ a.units

abbrev pub Opposed : List (Option Length) → List (Option Length) → Type 0
Opposed by back = (a : ℕ) → a < 3 → Opposite (slice_index_or by a None) (slice_index_or back a None)

-- four quarter turns about an offset, anywhere in a chain: coordinates and spreads are as if they were not there
abbrev pub FourQuarters : Type 0
FourQuarters = (plane : Plane) (by back : List (Option Length)) (ss : List Step) (m : List Bool) (p : Image) → Sized p → AllJoined m (quarter_turn plane ∷ []) → Opposed by back →
    carried (Offset by ∷ quarter_turn plane ∷ quarter_turn plane ∷ quarter_turn plane ∷ quarter_turn plane ∷ Offset back ∷ ss) m p ≡ carried ss m p

-- a mirror twice
abbrev pub MirrorTwice : Type 0
MirrorTwice = (named : List Bool) (ss : List Step) (m : List Bool) (p : Image) → Sized p → carried (Mirror named ∷ Mirror named ∷ ss) m p ≡ carried ss m p
