-- The words of a block by address and group. A list has the latest word first, so that its tail is the words before it.
use Rattle.std.specs.Prelude.{◌≡◌, ℕ, ◌+◌, Bool, true, false, ◌||◌, List, [], ◌∷◌, is_some, Some, None, Option, nat_le}
use Rattle.units.specs.declared.axis.Axis.{Axis}
use Rattle.units.specs.declared.axis.Axis.TheVariants.{X, Y, Z}
use Rattle.units.specs.declared.axis.Plane.{Plane as Planes}
use Rattle.reader.specs.declared.functions.Motion.{Motion as Motions}
use Rattle.reader.specs.declared.functions.Settable.{Settable as Settables}
use Rattle.reader.specs.declared.functions.LengthUnit.{LengthUnit as Units}
use Rattle.reader.specs.declared.functions.Distance.{Distance as Distances}
use Rattle.reader.specs.declared.functions.GFunction.{GFunction}
use Rattle.reader.specs.declared.functions.GFunction.TheVariants.{Motion, Plane, Settable, Machine, Unit as LengthsIn, Distance, Limit}
use Rattle.reader.specs.declared.types.FrameName.{FrameName}
use Rattle.reader.specs.declared.types.FrameName.TheVariants.{Trans, Rot, Scale, Mirror, Atrans, Arot, Ascale, Amirror}
use Rattle.reader.specs.declared.types.Passed.{Passed}
use Rattle.reader.specs.declared.types.Passed.TheVariants.{F, S, T, D}
use Rattle.reader.specs.declared.types.Said.{Said}
use Rattle.reader.specs.declared.types.Said.TheVariants.{Name as s_name, Axis as s_axis, Rpl as s_rpl, G as s_g, M as s_m, N as s_n, Passed as s_passed}
use Rattle.reader.specs.declared.types.Item.{Item}
use Rattle.blocks.specs.declared.gathered.Measured.{Measured}
use Rattle.blocks.specs.declared.gathered.Slots.{Slots}
use Rattle.blocks.specs.Slots.{over, hit, same_name, same_axis, same_passed, ending}

-- what the word that says it says, if the list has one
abbrev pub find : {X : Type 0} → (Item → Option X) → List Item → Option X
find pick [] = None
find pick (x ∷ ws) = over (find pick ws) (pick x)

-- does a word of the list pass?
abbrev pub has : (Said → Bool) → List Item → Bool
has test [] = false
has test (x ∷ ws) = test x.says || has test ws

abbrev pub is_name : FrameName → Said → Bool
is_name f (s_name h) = same_name f h
is_name f (s_axis b n) = false
is_name f (s_rpl n) = false
is_name f (s_g g) = false
is_name f (s_m m) = false
is_name f s_n = false
is_name f (s_passed b) = false

abbrev pub is_passed : Passed → Said → Bool
is_passed a (s_name h) = false
is_passed a (s_axis b n) = false
is_passed a (s_rpl n) = false
is_passed a (s_g g) = false
is_passed a (s_m m) = false
is_passed a s_n = false
is_passed a (s_passed b) = same_passed a b

abbrev pub is_n : Said → Bool
is_n (s_name h) = false
is_n (s_axis b n) = false
is_n (s_rpl n) = false
is_n (s_g g) = false
is_n (s_m m) = false
is_n s_n = true
is_n (s_passed b) = false

abbrev axis_at : Axis → Said → ℕ → Option Measured
axis_at a (s_name h) p = None
axis_at a (s_axis b n) p = hit (same_axis a b) (record { number = n; place = p })
axis_at a (s_rpl n) p = None
axis_at a (s_g g) p = None
axis_at a (s_m m) p = None
axis_at a s_n p = None
axis_at a (s_passed b) p = None

-- an axis word of this axis
abbrev pub axis_of : Axis → Item → Option Measured
axis_of a x = axis_at a x.says x.place

abbrev rpl_at : Said → ℕ → Option Measured
rpl_at (s_name h) p = None
rpl_at (s_axis b n) p = None
rpl_at (s_rpl n) p = Some (record { number = n; place = p })
rpl_at (s_g g) p = None
rpl_at (s_m m) p = None
rpl_at s_n p = None
rpl_at (s_passed b) p = None

-- an RPL word
abbrev pub rpl_of : Item → Option Measured
rpl_of x = rpl_at x.says x.place

abbrev g_at : {X : Type 0} → (GFunction → ℕ → Option X) → Said → ℕ → Option X
g_at f (s_name h) p = None
g_at f (s_axis b n) p = None
g_at f (s_rpl n) p = None
g_at f (s_g g) p = f g p
g_at f (s_m m) p = None
g_at f s_n p = None
g_at f (s_passed b) p = None

-- what a G word selects
abbrev pub g_of : {X : Type 0} → (GFunction → ℕ → Option X) → Item → Option X
g_of f x = g_at f x.says x.place

abbrev pub motion_of : GFunction → ℕ → Option Motions
motion_of (Motion m) q = Some m
motion_of (Plane p) q = None
motion_of (Settable s) q = None
motion_of Machine q = None
motion_of (LengthsIn u) q = None
motion_of (Distance d) q = None
motion_of (Limit l) q = None

abbrev pub plane_of : GFunction → ℕ → Option Planes
plane_of (Motion m) q = None
plane_of (Plane p) q = Some p
plane_of (Settable s) q = None
plane_of Machine q = None
plane_of (LengthsIn u) q = None
plane_of (Distance d) q = None
plane_of (Limit l) q = None

abbrev pub settable_of : GFunction → ℕ → Option Settables
settable_of (Motion m) q = None
settable_of (Plane p) q = None
settable_of (Settable s) q = Some s
settable_of Machine q = None
settable_of (LengthsIn u) q = None
settable_of (Distance d) q = None
settable_of (Limit l) q = None

abbrev pub machine_of : GFunction → ℕ → Option ℕ
machine_of (Motion m) q = None
machine_of (Plane p) q = None
machine_of (Settable s) q = None
machine_of Machine q = Some q
machine_of (LengthsIn u) q = None
machine_of (Distance d) q = None
machine_of (Limit l) q = None

abbrev pub unit_of : GFunction → ℕ → Option Units
unit_of (Motion m) q = None
unit_of (Plane p) q = None
unit_of (Settable s) q = None
unit_of Machine q = None
unit_of (LengthsIn u) q = Some u
unit_of (Distance d) q = None
unit_of (Limit l) q = None

abbrev pub distance_of : GFunction → ℕ → Option Distances
distance_of (Motion m) q = None
distance_of (Plane p) q = None
distance_of (Settable s) q = None
distance_of Machine q = None
distance_of (LengthsIn u) q = None
distance_of (Distance d) q = Some d
distance_of (Limit l) q = None

abbrev limit_g : GFunction → Bool
limit_g (Motion m) = false
limit_g (Plane p) = false
limit_g (Settable s) = false
limit_g Machine = false
limit_g (LengthsIn u) = false
limit_g (Distance d) = false
limit_g (Limit l) = true

abbrev pub is_limit : Said → Bool
is_limit (s_name h) = false
is_limit (s_axis b n) = false
is_limit (s_rpl n) = false
is_limit (s_g g) = limit_g g
is_limit (s_m m) = false
is_limit s_n = false
is_limit (s_passed b) = false

-- how many M words there are, and whether M2 or M30 is among them
abbrev count_on : Said → ℕ → ℕ
count_on (s_name h) k = k
count_on (s_axis b n) k = k
count_on (s_rpl n) k = k
count_on (s_g g) k = k
count_on (s_m m) k = k + 1
count_on s_n k = k
count_on (s_passed b) k = k

abbrev pub count_m : List Item → ℕ
count_m [] = 0
count_m (x ∷ ws) = count_on x.says (count_m ws)

abbrev end_on : Said → Bool → Bool
end_on (s_name h) e = e
end_on (s_axis b n) e = e
end_on (s_rpl n) e = e
end_on (s_g g) e = e
end_on (s_m m) e = ending m e
end_on s_n e = e
end_on (s_passed b) e = e

abbrev pub ends_m : List Item → Bool
ends_m [] = false
ends_m (x ∷ ws) = end_on x.says (ends_m ws)

-- an earlier word has this word's address; of G, its group; of M, five have
abbrev pub repeated_g : List Item → GFunction → Bool
repeated_g ws (Motion m) = is_some (find (g_of motion_of) ws)
repeated_g ws (Plane p) = is_some (find (g_of plane_of) ws)
repeated_g ws (Settable s) = is_some (find (g_of settable_of) ws)
repeated_g ws Machine = is_some (find (g_of machine_of) ws)
repeated_g ws (LengthsIn u) = is_some (find (g_of unit_of) ws)
repeated_g ws (Distance d) = is_some (find (g_of distance_of) ws)
repeated_g ws (Limit l) = has is_limit ws

abbrev pub repeated : List Item → Said → Bool
repeated ws (s_name f) = has (is_name f) ws
repeated ws (s_axis a n) = is_some (find (axis_of a) ws)
repeated ws (s_rpl n) = is_some (find rpl_of ws)
repeated ws (s_g g) = repeated_g ws g
repeated ws (s_m m) = nat_le 5 (count_m ws)
repeated ws s_n = has is_n ws
repeated ws (s_passed a) = has (is_passed a) ws

-- no word repeats an earlier one
abbrev pub Unrepeated : List Item → Type 0
Unrepeated [] = Unit {0}
Unrepeated (x ∷ earlier) = (repeated earlier x.says ≡ false) × Unrepeated earlier

-- the words in their slots
abbrev pub slots_of : List Item → Slots
slots_of ws = record { names = has (is_name Trans) ws ∷ has (is_name Rot) ws ∷ has (is_name Scale) ws ∷ has (is_name Mirror) ws ∷ has (is_name Atrans) ws ∷ has (is_name Arot) ws ∷ has (is_name Ascale) ws ∷ has (is_name Amirror) ws ∷ []; groups = record { selections = record { motion = find (g_of motion_of) ws; plane = find (g_of plane_of) ws; settable = find (g_of settable_of) ws; unit = find (g_of unit_of) ws; distance = find (g_of distance_of) ws }; machine = find (g_of machine_of) ws; limit = has is_limit ws }; axes = record { x = find (axis_of X) ws; y = find (axis_of Y) ws; z = find (axis_of Z) ws }; n = has is_n ws; passed = has (is_passed F) ws ∷ has (is_passed S) ws ∷ has (is_passed T) ws ∷ has (is_passed D) ws ∷ []; ms = record { count = count_m ws; ends = ends_m ws }; rpl = find rpl_of ws }
