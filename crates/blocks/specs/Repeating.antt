-- What is found among the words of a block, and what a repeated word is: as many earlier words have its address, or
-- its G group, as may stand in a block.
use Rattle.std.specs.Prelude.{◌≡◌, ℕ, ◌+◌, Bool, true, false, cond, ◌&&◌, List, [], ◌∷◌, ◌++◌, Some, None, Option, ◌==◌, nat_le}
use Rattle.std.specs.List.{AllByRecursion}
use Rattle.units.specs.declared.axis.Axis.{Axis}
use Rattle.reader.specs.declared.functions.MFunction.TheVariants.{End, Other}
use Rattle.reader.specs.declared.functions.GFunction.{GFunction}
use Rattle.reader.specs.declared.functions.GFunction.TheVariants.{Motion, Plane, Settable, Machine, Unit as LengthsIn, Distance, Limit}
use Rattle.reader.specs.declared.types.Said.{Said}
use Rattle.reader.specs.declared.types.Said.TheVariants.{Name as s_name, Axis as s_axis, Rpl as s_rpl, G as s_g, M as s_m, N as s_n, Passed as s_passed}
use Rattle.reader.specs.declared.types.Item.{Item}
use Rattle.blocks.specs.declared.gathered.Placed.{Placed}
use Rattle.blocks.specs.Slots.{name_index, axis_index, passed_index}
use Rattle.blocks.specs.Found.{find, has, g_of, motion_of, plane_of, settable_of, machine_of, unit_of, distance_of, axis_of, ends_m, repeated}
use Rattle.blocks.specs.Order.{instructs, instruction}
use Rattle.blocks.specs.Meaning.{Among}

-- the kind of a word, and which of its kind it is
abbrev pub kind : Said → ℕ
kind (s_name f) = 0
kind (s_axis a n) = 1
kind (s_rpl n) = 2
kind (s_g g) = 3
kind (s_m m) = 4
kind s_n = 5
kind (s_passed a) = 6

abbrev pub group_index : GFunction → ℕ
group_index (Motion m) = 0
group_index (Plane p) = 1
group_index (Settable s) = 2
group_index Machine = 3
group_index (LengthsIn u) = 4
group_index (Distance d) = 5
group_index (Limit s) = 6

abbrev pub which : Said → ℕ
which (s_name f) = name_index f
which (s_axis a n) = axis_index a
which (s_rpl n) = 0
which (s_g g) = group_index g
which (s_m m) = 0
which s_n = 0
which (s_passed a) = passed_index a

-- the two words have one address, or are G words of one group
abbrev pub kin : Said → Said → Bool
kin x y = kind x == kind y && which x == which y

abbrev pub count : (Said → Bool) → List Item → ℕ
count test [] = 0
count test (x ∷ ws) = cond (test x.says) 1 0 + count test ws

-- how many such words a block may have
abbrev pub most : Said → ℕ
most (s_name f) = 1
most (s_axis a n) = 1
most (s_rpl n) = 1
most (s_g g) = 1
most (s_m m) = 5
most s_n = 1
most (s_passed a) = 1

-- i is the first instruction of the block
pub record FirstInstruction (ws : List Item) (i : Placed) : Type 0 where
  pub after : List Item
  pub word : Item
  pub earlier : List Item
  pub parts : ws ≡ after ++ word ∷ earlier
  pub is : instructs word.says ≡ Some i.by
  pub place : i.place ≡ word.place
  pub none : AllByRecursion (λ x. instructs x.says ≡ None) earlier

-- nothing is found exactly when no word of the list says it, and else what some word says
pub record Finds {V : Type 0} (pick : Item → Option V) (ws : List Item) : Type 0 where
  pub none : find pick ws ≡ None → AllByRecursion (λ x. pick x ≡ None) ws
  pub some : (v : V) → find pick ws ≡ Some v → (x : Item) × Among ws x × (pick x ≡ Some v)

-- M2 or M30
abbrev pub is_end : Said → Bool
is_end (s_name f) = false
is_end (s_axis a n) = false
is_end (s_rpl n) = false
is_end (s_g g) = false
is_end (s_m End) = true
is_end (s_m Other) = false
is_end s_n = false
is_end (s_passed a) = false

pub record Kinds : Type 0 where
  pub motions : (ws : List Item) → Finds (g_of motion_of) ws
  pub planes : (ws : List Item) → Finds (g_of plane_of) ws
  pub settables : (ws : List Item) → Finds (g_of settable_of) ws
  pub machines : (ws : List Item) → Finds (g_of machine_of) ws
  pub units : (ws : List Item) → Finds (g_of unit_of) ws
  pub distances : (ws : List Item) → Finds (g_of distance_of) ws
  pub axes : (a : Axis) (ws : List Item) → Finds (axis_of a) ws
  pub ends : (ws : List Item) → ends_m ws ≡ has is_end ws
  pub again : (ws : List Item) (x : Said) → repeated ws x ≡ nat_le (most x) (count (kin x) ws)
  pub first : (ws : List Item) (i : Placed) → instruction ws ≡ Some i → FirstInstruction ws i
  pub none : (ws : List Item) → instruction ws ≡ None → AllByRecursion (λ x. instructs x.says ≡ None) ws
