-- What the replies and the roundings mean, as relations.
use Rattle.std.specs.Prelude.{◌≡◌, ℕ, ◌*◌, ◌<◌, ◌≤◌, min, List, ℤ, pos, ◌-ℤ◌, ◌≤ℤ◌, Ok, Err, unsigned_abs}
use Rattle.units.specs.Axes.{axis_number}
use Rattle.units.specs.Nearest.{Nearest, nearest}
use Rattle.units.specs.declared.axis.Axis.{Axis}
use Rattle.units.specs.declared.axis.Point.{Point}
use Rattle.units.specs.declared.fault.Fault.{Fault}
use Rattle.units.specs.declared.fault.Fault.TheVariants.{Outside}
use Rattle.machine.specs.declared.bounds.Bounds.{Bounds}
use Rattle.machine.specs.Meaning.{at, Every, Meaning}
use Rattle.machine.specs.Replies.{box_at, reply_to}
use Rattle.machine.specs.Count.{lower_count, standing}

-- v is within the box on that axis, limits included
pub record Inside (b : Bounds) (a : Axis) (v : ℤ) : Type 0 where
  pub not_below : at b.lower a ≤ℤ v
  pub not_above : v ≤ℤ at b.upper a

abbrev pub InsideAll : List Bounds → Axis → ℤ → Type 0
InsideAll bs a v = Every (λ b. Inside b a v) bs

-- the box of level n is the first, from the top, that v is outside of
pub record FirstOutside (bs : List Bounds) (a : Axis) (v : ℤ) (n : ℕ) : Type 0 where
  pub box : Bounds
  pub at_level : box_at bs n ≡ Ok box
  pub outside : Inside box a v → ⊥
  pub above : (k : ℕ) (b : Bounds) → k < n → box_at bs k ≡ Ok b → Inside b a v

-- a is the lowest axis on which the point is outside some box, and l the level of the first such box, told as at most 255
pub record Declines (bs : List Bounds) (p : Point) (a : Axis) (l : ℕ) : Type 0 where
  pub level : ℕ
  pub first : FirstOutside bs a (at p a) level
  pub lower : (e : Axis) → axis_number e < axis_number a → InsideAll bs e (at p e)
  pub capped : l ≡ min level 255

-- A move is taken exactly where each coordinate is within every box; else it gets that axis and level, and nothing else.
pub record Replies (m : Meaning) (p : Point) : Type 0 where
  pub taken : reply_to m p ≡ Ok tt → (a : Axis) → InsideAll m.boxes a (at p a)
  pub taken_where : ((a : Axis) → InsideAll m.boxes a (at p a)) → reply_to m p ≡ Ok tt
  pub declined : (f : Fault) → reply_to m p ≡ Err f → (a : Axis) × (l : ℕ) × ((f ≡ Outside 0 a l) × Declines m.boxes p a l)
  pub declined_where : (a : Axis) (l : ℕ) → Declines m.boxes p a l → reply_to m p ≡ Err (Outside 0 a l)

abbrev pub RepliesStand : Type 0
RepliesStand = (m : Meaning) (p : Point) → Replies m p

-- k counts of length d stand at most half a count away from v; where exactly half, they stand below it
pub record NearestBelow (v : ℤ) (d : ℕ) (k : ℤ) : Type 0 where
  pub close : 2 * unsigned_abs (v -ℤ standing d k) ≤ d
  pub tie : 2 * unsigned_abs (v -ℤ standing d k) ≡ d → standing d k ≤ℤ v

-- The scale end's rounding is the nearest multiple, ties away from zero; the count end's the nearest count, ties to the lower one; and each of these says which number it is.
pub record Roundings (d : ℕ) (v : ℤ) : Type 0 where
  pub scale : Nearest v (pos d) (nearest v d)
  pub scale_one : (k : ℤ) → Nearest v (pos d) k → k ≡ nearest v d
  pub count : NearestBelow v d (lower_count d v)
  pub count_one : (k : ℤ) → NearestBelow v d k → k ≡ lower_count d v

abbrev pub RoundingsStand : Type 0
RoundingsStand = (d : ℕ) (v : ℤ) → 1 ≤ d → Roundings d v
