-- Levels and numbers of boxes beyond what is told, over lists of that length.
use Rattle.std.specs.Prelude.{◌≡◌, ℕ, true, List, [], ◌∷◌, ◌++◌, length, replicate, ℤ, pos, negsuc, Ok, Err, refl}
use Rattle.units.specs.declared.axis.Axis.TheVariants.{X, Y}
use Rattle.units.specs.declared.axis.Point.{Point}
use Rattle.units.specs.declared.fault.Fault.TheVariants.{Outside}
use Rattle.machine.specs.declared.bounds.Bounds.{Bounds}
use Rattle.machine.specs.Ranges.{within}
use Rattle.machine.specs.Replies.{reply, told}

abbrev pub all : ℤ → Point
all v = record { x = v; y = v; z = v }

pub least_fits : within 2000000000 (all (negsuc 1999999999)) ≡ true
unfolding within
least_fits = refl

pub most_fits : within 2000000000 (all (pos 2000000000)) ≡ true
unfolding within
most_fits = refl

pub one_fits : within 2000000000 (all (pos 1)) ≡ true
unfolding within
one_fits = refl

abbrev pub widest : Bounds
widest = record { lower = all (negsuc 1999999999); upper = all (pos 2000000000); low = least_fits; high = most_fits }

-- holds no point but 1, 1, 1
abbrev pub single : Bounds
single = record { lower = all (pos 1); upper = all (pos 1); low = one_fits; high = one_fits }

-- n boxes that hold everything in reach, over one that holds one point
abbrev pub pile : ℕ → List Bounds
pile n = replicate n widest ++ (single ∷ [])

pub record Deep : Type 0 where
  pub taken : reply (pile 300) (all (pos 1)) ≡ Ok tt
  pub level_254 : reply (pile 254) (all (pos 2)) ≡ Err (Outside 0 X 254)
  pub level_255 : reply (pile 255) (all (pos 2)) ≡ Err (Outside 0 X 255)
  pub level_300 : reply (pile 300) (all (pos 2)) ≡ Err (Outside 0 X 255)
  pub top_first : reply (pile 300) (record { x = pos 1; y = pos 2000000001; z = pos 1 }) ≡ Err (Outside 0 Y 0)
  pub count_255 : told (length (pile 254)) ≡ 255
  pub count_301 : told (length (pile 300)) ≡ 255
