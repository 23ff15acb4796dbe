-- The slots hold the words of a list.
use Rattle.std.proofs.Common.{◌≡◌, ℕ, List, ◌∷◌, is_some, refl}
use Rattle.units.specs.declared.axis.Axis.{Axis}
use Rattle.units.specs.declared.axis.Axis.TheVariants.{X, Y, Z}
use Rattle.reader.specs.declared.functions.GFunction.{GFunction}
use Rattle.reader.specs.declared.functions.GFunction.TheVariants.{Motion, Plane, Settable, Machine, Unit as LengthsIn, Distance, Limit}
use Rattle.reader.specs.declared.types.FrameName.{FrameName}
use Rattle.reader.specs.declared.types.FrameName.TheVariants.{Trans, Rot, Scale, Mirror, Atrans, Arot, Ascale, Amirror}
use Rattle.reader.specs.declared.types.Passed.{Passed}
use Rattle.reader.specs.declared.types.Passed.TheVariants.{F, S, T, D}
use Rattle.reader.specs.declared.types.Said.{Said}
use Rattle.reader.specs.declared.types.Said.TheVariants.{Name as s_name, Axis as s_axis, Rpl as s_rpl, G as s_g, M as s_m, N as s_n, Passed as s_passed}
use Rattle.reader.specs.declared.types.Item.{Item}
use Rattle.blocks.specs.Slots.{taken_name, taken_group, taken_axis, taken_passed, taken, put_said, put}
use Rattle.blocks.specs.Found.{find, has, is_name, is_passed, axis_of, repeated_g, repeated, slots_of}

module _ (ws : List Item) where
  name_taken : (f : FrameName) → taken_name (slots_of ws).names f ≡ has (is_name f) ws
  name_taken Trans = refl
  name_taken Rot = refl
  name_taken Scale = refl
  name_taken Mirror = refl
  name_taken Atrans = refl
  name_taken Arot = refl
  name_taken Ascale = refl
  name_taken Amirror = refl

  axis_taken : (a : Axis) → taken_axis (slots_of ws).axes a ≡ is_some (find (axis_of a) ws)
  axis_taken X = refl
  axis_taken Y = refl
  axis_taken Z = refl

  passed_taken : (a : Passed) → taken_passed (slots_of ws).passed a ≡ has (is_passed a) ws
  passed_taken F = refl
  passed_taken S = refl
  passed_taken T = refl
  passed_taken D = refl

  group_taken : (g : GFunction) → taken_group (slots_of ws).groups g ≡ repeated_g ws g
  group_taken (Motion m) = refl
  group_taken (Plane p) = refl
  group_taken (Settable s) = refl
  group_taken Machine = refl
  group_taken (LengthsIn u) = refl
  group_taken (Distance d) = refl
  group_taken (Limit l) = refl

  -- a slot is taken exactly when the word repeats an earlier one
  pub taken_is : (x : Said) → taken (slots_of ws) x ≡ repeated ws x
  taken_is (s_name f) = name_taken f
  taken_is (s_axis a n) = axis_taken a
  taken_is (s_rpl n) = refl
  taken_is (s_g g) = group_taken g
  taken_is (s_m m) = refl
  taken_is s_n = refl
  taken_is (s_passed a) = passed_taken a

  put_g : (g : GFunction) (p : ℕ) → put_said (slots_of ws) (s_g g) p ≡ slots_of (record { says = s_g g; place = p } ∷ ws)
  put_g (Motion m) p = refl
  put_g (Plane l) p = refl
  put_g (Settable s) p = refl
  put_g Machine p = refl
  put_g (LengthsIn u) p = refl
  put_g (Distance d) p = refl
  put_g (Limit l) p = refl

  put_f : (f : FrameName) (p : ℕ) → put_said (slots_of ws) (s_name f) p ≡ slots_of (record { says = s_name f; place = p } ∷ ws)
  put_f Trans p = refl
  put_f Rot p = refl
  put_f Scale p = refl
  put_f Mirror p = refl
  put_f Atrans p = refl
  put_f Arot p = refl
  put_f Ascale p = refl
  put_f Amirror p = refl

  put_passed : (a : Passed) (p : ℕ) → put_said (slots_of ws) (s_passed a) p ≡ slots_of (record { says = s_passed a; place = p } ∷ ws)
  put_passed F p = refl
  put_passed S p = refl
  put_passed T p = refl
  put_passed D p = refl

  put_said_lem : (x : Said) (p : ℕ) → put_said (slots_of ws) x p ≡ slots_of (record { says = x; place = p } ∷ ws)
  put_said_lem (s_name f) p = put_f f p
  put_said_lem (s_axis a n) p = refl
  put_said_lem (s_rpl n) p = refl
  put_said_lem (s_g g) p = put_g g p
  put_said_lem (s_m m) p = refl
  put_said_lem s_n p = refl
  put_said_lem (s_passed a) p = put_passed a p

  -- a word put into the slots of a list makes the slots of the longer list
  pub put_is : (x : Item) → put (slots_of ws) x ≡ slots_of (x ∷ ws)
  put_is x = put_said_lem x.says x.place
