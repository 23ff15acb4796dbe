-- The slots of a block, and what a word does to them.
use Rattle.std.specs.Prelude.{ℕ, ◌+◌, Bool, true, false, cond, List, [], ◌∷◌, is_some, Some, None, Option, ◌==◌, nat_le, slice_index_or, slice_set}
use Rattle.units.specs.declared.axis.Axis.{Axis}
use Rattle.units.specs.declared.axis.Axis.TheVariants.{X, Y, Z}
use Rattle.units.specs.declared.axis.ByAxis.{ByAxis}
use Rattle.units.specs.Axes.{on_axis}
use Rattle.reader.specs.declared.functions.GFunction.{GFunction}
use Rattle.reader.specs.declared.functions.GFunction.TheVariants.{Motion, Plane, Settable, Machine, Unit as LengthsIn, Distance, Limit}
use Rattle.reader.specs.declared.functions.MFunction.{MFunction}
use Rattle.reader.specs.declared.functions.MFunction.TheVariants.{End, Other}
use Rattle.reader.specs.declared.types.FrameName.{FrameName}
use Rattle.reader.specs.declared.types.FrameName.TheVariants.{Trans, Rot, Scale, Mirror, Atrans, Arot, Ascale, Amirror}
use Rattle.reader.specs.declared.types.Passed.{Passed}
use Rattle.reader.specs.declared.types.Passed.TheVariants.{F, S, T, D}
use Rattle.reader.specs.declared.types.Said.{Said}
use Rattle.reader.specs.declared.types.Said.TheVariants.{Name as s_name, Axis as s_axis, Rpl as s_rpl, G as s_g, M as s_m, N as s_n, Passed as s_passed}
use Rattle.reader.specs.declared.types.Item.{Item}
use Rattle.blocks.specs.declared.gathered.Measured.{Measured}
use Rattle.blocks.specs.declared.gathered.Groups.{Groups}
use Rattle.blocks.specs.declared.gathered.Ms.{Ms}
use Rattle.blocks.specs.declared.gathered.Slots.{Slots}

-- which of the frame names, of the axes, of F, S, T and D
abbrev pub name_index : FrameName → ℕ
name_index Trans = 0
name_index Rot = 1
name_index Scale = 2
name_index Mirror = 3
name_index Atrans = 4
name_index Arot = 5
name_index Ascale = 6
name_index Amirror = 7

abbrev pub axis_index : Axis → ℕ
axis_index X = 0
axis_index Y = 1
axis_index Z = 2

abbrev pub passed_index : Passed → ℕ
passed_index F = 0
passed_index S = 1
passed_index T = 2
passed_index D = 3

abbrev pub same_name : FrameName → FrameName → Bool
same_name f g = name_index f == name_index g

abbrev pub same_axis : Axis → Axis → Bool
same_axis a b = axis_index a == axis_index b

abbrev pub same_passed : Passed → Passed → Bool
same_passed a b = passed_index a == passed_index b

-- the new value, if there is one
abbrev pub over : {X : Type 0} → Option X → Option X → Option X
over o None = o
over o (Some v) = Some v

abbrev pub hit : {X : Type 0} → Bool → X → Option X
hit b v = cond b (Some v) None

abbrev pub taken_name : List Bool → FrameName → Bool
taken_name s f = slice_index_or s (name_index f) false

abbrev pub put_name : List Bool → FrameName → List Bool
put_name s f = slice_set s (name_index f) true

abbrev pub taken_group : Groups → GFunction → Bool
taken_group g (Motion m) = is_some g.selections.motion
taken_group g (Plane p) = is_some g.selections.plane
taken_group g (Settable s) = is_some g.selections.settable
taken_group g (LengthsIn u) = is_some g.selections.unit
taken_group g (Distance d) = is_some g.selections.distance
taken_group g Machine = is_some g.machine
taken_group g (Limit s) = g.limit

abbrev pub put_group : Groups → GFunction → ℕ → Groups
put_group g (Motion m) q = record { selections = record { motion = Some m; plane = g.selections.plane; settable = g.selections.settable; unit = g.selections.unit; distance = g.selections.distance }; machine = g.machine; limit = g.limit }
put_group g (Plane p) q = record { selections = record { motion = g.selections.motion; plane = Some p; settable = g.selections.settable; unit = g.selections.unit; distance = g.selections.distance }; machine = g.machine; limit = g.limit }
put_group g (Settable s) q = record { selections = record { motion = g.selections.motion; plane = g.selections.plane; settable = Some s; unit = g.selections.unit; distance = g.selections.distance }; machine = g.machine; limit = g.limit }
put_group g (LengthsIn u) q = record { selections = record { motion = g.selections.motion; plane = g.selections.plane; settable = g.selections.settable; unit = Some u; distance = g.selections.distance }; machine = g.machine; limit = g.limit }
put_group g (Distance d) q = record { selections = record { motion = g.selections.motion; plane = g.selections.plane; settable = g.selections.settable; unit = g.selections.unit; distance = Some d }; machine = g.machine; limit = g.limit }
put_group g Machine q = record { selections = g.selections; machine = Some q; limit = g.limit }
put_group g (Limit s) q = record { selections = g.selections; machine = g.machine; limit = true }

abbrev pub taken_axis : ByAxis (Option Measured) → Axis → Bool
taken_axis s a = is_some (on_axis s a)

abbrev pub put_axis : ByAxis (Option Measured) → Axis → Measured → ByAxis (Option Measured)
put_axis s a v = record { x = over s.x (hit (same_axis X a) v); y = over s.y (hit (same_axis Y a) v); z = over s.z (hit (same_axis Z a) v) }

abbrev pub taken_passed : List Bool → Passed → Bool
taken_passed s a = slice_index_or s (passed_index a) false

abbrev pub put_passed : List Bool → Passed → List Bool
put_passed s a = slice_set s (passed_index a) true

-- M2 and M30 end the programme
abbrev pub ending : MFunction → Bool → Bool
ending End e = true
ending Other e = e

-- a block may have five M words
abbrev pub full : Ms → Bool
full s = nat_le 5 s.count

abbrev pub put_m : Ms → MFunction → Ms
put_m s m = record { count = s.count + 1; ends = ending m s.ends }

abbrev pub taken : Slots → Said → Bool
taken s (s_name f) = taken_name s.names f
taken s (s_axis a n) = taken_axis s.axes a
taken s (s_rpl n) = is_some s.rpl
taken s (s_g g) = taken_group s.groups g
taken s (s_m m) = full s.ms
taken s s_n = s.n
taken s (s_passed a) = taken_passed s.passed a

abbrev pub put_said : Slots → Said → ℕ → Slots
put_said s (s_name f) p = record { names = put_name s.names f; groups = s.groups; axes = s.axes; n = s.n; passed = s.passed; ms = s.ms; rpl = s.rpl }
put_said s (s_axis a n) p = record { names = s.names; groups = s.groups; axes = put_axis s.axes a (record { number = n; place = p }); n = s.n; passed = s.passed; ms = s.ms; rpl = s.rpl }
put_said s (s_rpl n) p = record { names = s.names; groups = s.groups; axes = s.axes; n = s.n; passed = s.passed; ms = s.ms; rpl = Some (record { number = n; place = p }) }
put_said s (s_g g) p = record { names = s.names; groups = put_group s.groups g p; axes = s.axes; n = s.n; passed = s.passed; ms = s.ms; rpl = s.rpl }
put_said s (s_m m) p = record { names = s.names; groups = s.groups; axes = s.axes; n = s.n; passed = s.passed; ms = put_m s.ms m; rpl = s.rpl }
put_said s s_n p = record { names = s.names; groups = s.groups; axes = s.axes; n = true; passed = s.passed; ms = s.ms; rpl = s.rpl }
put_said s (s_passed a) p = record { names = s.names; groups = s.groups; axes = s.axes; n = s.n; passed = put_passed s.passed a; ms = s.ms; rpl = s.rpl }

-- one word more
abbrev pub put : Slots → Item → Slots
put s x = put_said s x.says x.place

abbrev pub empty_slots : Slots
empty_slots = record { names = false ∷ false ∷ false ∷ false ∷ false ∷ false ∷ false ∷ false ∷ []; groups = record { selections = record { motion = None; plane = None; settable = None; unit = None; distance = None }; machine = None; limit = false }; axes = record { x = None; y = None; z = None }; n = false; passed = false ∷ false ∷ false ∷ false ∷ []; ms = record { count = 0; ends = false }; rpl = None }
