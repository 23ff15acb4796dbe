-- A word is repeated when as many earlier words have its address or group as may stand.
use Rattle.std.proofs.Common.{◌≡◌, ℕ, ◌+◌, Bool, true, false, cond, ◌||◌, eqb, leb, List, [], ◌∷◌, is_some, Some, None, Option, sym, refl, ap, ◌∙◌, ⊎_elim, zero-add, arith}
use Rattle.std.specs.List.{AllByRecursion}
use Rattle.std.proofs.lemmas.Bool.{le-leb}
use Rattle.std.proofs.lemmas.Option.{same_Some}
use Rattle.units.specs.declared.axis.Axis.{Axis}
use Rattle.reader.specs.declared.functions.GFunction.{GFunction}
use Rattle.reader.specs.declared.functions.GFunction.TheVariants.{Motion, Plane, Settable, Machine, Unit as LengthsIn, Distance, Limit}
use Rattle.reader.specs.declared.types.FrameName.{FrameName}
use Rattle.reader.specs.declared.types.Passed.{Passed}
use Rattle.reader.specs.declared.functions.MFunction.{MFunction}
use Rattle.reader.specs.declared.functions.MFunction.TheVariants.{End, Other}
use Rattle.reader.specs.declared.types.Number.{Number}
use Rattle.reader.specs.declared.types.Said.{Said}
use Rattle.reader.specs.declared.types.Said.TheVariants.{Name as s_name, Axis as s_axis, Rpl as s_rpl, G as s_g, M as s_m, N as s_n, Passed as s_passed}
use Rattle.reader.specs.declared.types.Item.{Item}
use Rattle.blocks.specs.declared.gathered.Instruction.{Instruction}
use Rattle.blocks.specs.declared.gathered.Placed.{Placed}
use Rattle.blocks.specs.Slots.{over, hit, same_axis}
use Rattle.blocks.specs.Found.{find, has, is_name, is_passed, is_n, axis_of, rpl_of, g_of, motion_of, plane_of, settable_of, machine_of, unit_of, distance_of, is_limit, count_m, ends_m, repeated_g, repeated}
use Rattle.blocks.specs.Order.{instructs, placed, instruction}
use Rattle.blocks.specs.Repeating.{group_index, kin, count, most, is_end, Finds, FirstInstruction, Kinds}
use Rattle.blocks.proofs.Options.{keep_none, keep_some}
use Rattle.blocks.proofs.Meaning.{find_none, find_some}

-- one is there exactly when at least one is counted
more : (b : Bool) (n : ℕ) → leb 1 (cond b 1 0 + n) ≡ (b || leb 1 n)
more true n = le-leb 1 (1 + n) (omega arith)
more false n = ap (leb 1) (zero-add n)

has_count : (test other : Said → Bool) → ((x : Said) → test x ≡ other x) → (ws : List Item) → has test ws ≡ leb 1 (count other ws)
has_count test other h [] = refl
has_count test other h (x ∷ ws) = ap (λ b. b || has test ws) (h x.says) ∙ ap (λ b. other x.says || b) (has_count test other h ws) ∙ sym (more (other x.says) (count other ws))

over_or : {V : Type 0} (a b : Option V) → is_some (over a b) ≡ (is_some b || is_some a)
over_or a None = refl
over_or a (Some v) = refl

find_count : {V : Type 0} (pick : Item → Option V) (other : Said → Bool) → ((x : Item) → is_some (pick x) ≡ other x.says) → (ws : List Item) → is_some (find pick ws) ≡ leb 1 (count other ws)
find_count pick other h [] = refl
find_count pick other h (x ∷ ws) =
    over_or (find pick ws) (pick x)
    ∙ ap (λ b. b || is_some (find pick ws)) (h x)
    ∙ ap (λ b. other x.says || b) (find_count pick other h ws)
    ∙ sym (more (other x.says) (count other ws))

hit_is : {V : Type 0} (b : Bool) (v : V) → is_some (hit b v) ≡ b
hit_is true v = refl
hit_is false v = refl

name_kin : (f : FrameName) (x : Said) → is_name f x ≡ kin (s_name f) x
name_kin f (s_name h) = refl
name_kin f (s_axis b n) = refl
name_kin f (s_rpl n) = refl
name_kin f (s_g h) = refl
name_kin f (s_m m) = refl
name_kin f s_n = refl
name_kin f (s_passed b) = refl

passed_kin : (a : Passed) (x : Said) → is_passed a x ≡ kin (s_passed a) x
passed_kin a (s_name h) = refl
passed_kin a (s_axis b n) = refl
passed_kin a (s_rpl n) = refl
passed_kin a (s_g h) = refl
passed_kin a (s_m m) = refl
passed_kin a s_n = refl
passed_kin a (s_passed b) = refl

n_kin : (x : Said) → is_n x ≡ kin s_n x
n_kin (s_name h) = refl
n_kin (s_axis b n) = refl
n_kin (s_rpl n) = refl
n_kin (s_g h) = refl
n_kin (s_m m) = refl
n_kin s_n = refl
n_kin (s_passed b) = refl

axis_kin : (a : Axis) (k : Number) (s : Said) (p : ℕ) → is_some (axis_of a (record { says = s; place = p })) ≡ kin (s_axis a k) s
axis_kin a k (s_name h) p = refl
axis_kin a k (s_axis b n) p = hit_is (same_axis a b) (record { number = n; place = p })
axis_kin a k (s_rpl n) p = refl
axis_kin a k (s_g h) p = refl
axis_kin a k (s_m m) p = refl
axis_kin a k s_n p = refl
axis_kin a k (s_passed b) p = refl

rpl_kin : (k : Number) (s : Said) (p : ℕ) → is_some (rpl_of (record { says = s; place = p })) ≡ kin (s_rpl k) s
rpl_kin k (s_name h) p = refl
rpl_kin k (s_axis b n) p = refl
rpl_kin k (s_rpl n) p = refl
rpl_kin k (s_g h) p = refl
rpl_kin k (s_m m) p = refl
rpl_kin k s_n p = refl
rpl_kin k (s_passed b) p = refl

g_kin : {V : Type 0} (pick : GFunction → ℕ → Option V) (g : GFunction) → ((h : GFunction) (p : ℕ) → is_some (pick h p) ≡ eqb (group_index g) (group_index h)) → (s : Said) (p : ℕ) → is_some (g_of pick (record { says = s; place = p })) ≡ kin (s_g g) s
g_kin pick g e (s_name h) p = refl
g_kin pick g e (s_axis b n) p = refl
g_kin pick g e (s_rpl n) p = refl
g_kin pick g e (s_g h) p = e h p
g_kin pick g e (s_m m) p = refl
g_kin pick g e s_n p = refl
g_kin pick g e (s_passed b) p = refl

motion_group : (h : GFunction) (p : ℕ) → is_some (motion_of h p) ≡ eqb 0 (group_index h)
motion_group (Motion m) p = refl
motion_group (Plane l) p = refl
motion_group (Settable s) p = refl
motion_group Machine p = refl
motion_group (LengthsIn u) p = refl
motion_group (Distance d) p = refl
motion_group (Limit l) p = refl

plane_group : (h : GFunction) (p : ℕ) → is_some (plane_of h p) ≡ eqb 1 (group_index h)
plane_group (Motion m) p = refl
plane_group (Plane l) p = refl
plane_group (Settable s) p = refl
plane_group Machine p = refl
plane_group (LengthsIn u) p = refl
plane_group (Distance d) p = refl
plane_group (Limit l) p = refl

settable_group : (h : GFunction) (p : ℕ) → is_some (settable_of h p) ≡ eqb 2 (group_index h)
settable_group (Motion m) p = refl
settable_group (Plane l) p = refl
settable_group (Settable s) p = refl
settable_group Machine p = refl
settable_group (LengthsIn u) p = refl
settable_group (Distance d) p = refl
settable_group (Limit l) p = refl

machine_group : (h : GFunction) (p : ℕ) → is_some (machine_of h p) ≡ eqb 3 (group_index h)
machine_group (Motion m) p = refl
machine_group (Plane l) p = refl
machine_group (Settable s) p = refl
machine_group Machine p = refl
machine_group (LengthsIn u) p = refl
machine_group (Distance d) p = refl
machine_group (Limit l) p = refl

unit_group : (h : GFunction) (p : ℕ) → is_some (unit_of h p) ≡ eqb 4 (group_index h)
unit_group (Motion m) p = refl
unit_group (Plane l) p = refl
unit_group (Settable s) p = refl
unit_group Machine p = refl
unit_group (LengthsIn u) p = refl
unit_group (Distance d) p = refl
unit_group (Limit l) p = refl

distance_group : (h : GFunction) (p : ℕ) → is_some (distance_of h p) ≡ eqb 5 (group_index h)
distance_group (Motion m) p = refl
distance_group (Plane l) p = refl
distance_group (Settable s) p = refl
distance_group Machine p = refl
distance_group (LengthsIn u) p = refl
distance_group (Distance d) p = refl
distance_group (Limit l) p = refl

limit_group : (g : GFunction) → group_index g ≡ 6 → (h : GFunction) → is_limit (s_g h) ≡ eqb (group_index g) (group_index h)
limit_group g e (Motion m) = ap (λ i. eqb i 0) (sym e)
limit_group g e (Plane l) = ap (λ i. eqb i 1) (sym e)
limit_group g e (Settable s) = ap (λ i. eqb i 2) (sym e)
limit_group g e Machine = ap (λ i. eqb i 3) (sym e)
limit_group g e (LengthsIn u) = ap (λ i. eqb i 4) (sym e)
limit_group g e (Distance d) = ap (λ i. eqb i 5) (sym e)
limit_group g e (Limit l) = ap (λ i. eqb i 6) (sym e)

limit_kin : (g : GFunction) → group_index g ≡ 6 → (x : Said) → is_limit x ≡ kin (s_g g) x
limit_kin g e (s_name h) = refl
limit_kin g e (s_axis b n) = refl
limit_kin g e (s_rpl n) = refl
limit_kin g e (s_g h) = limit_group g e h
limit_kin g e (s_m m) = refl
limit_kin g e s_n = refl
limit_kin g e (s_passed b) = refl

m_count : (m : MFunction) (ws : List Item) → count_m ws ≡ count (kin (s_m m)) ws
m_count m [] = refl
m_count m (x ∷ ws) = one x.says ∙ ap (λ n. cond (kin (s_m m) x.says) 1 0 + n) (m_count m ws)
  where
    one : (s : Said) → count_m (record { says = s; place = x.place } ∷ ws) ≡ cond (kin (s_m m) s) 1 0 + count_m ws
    one (s_name h) = sym (zero-add (count_m ws))
    one (s_axis b n) = sym (zero-add (count_m ws))
    one (s_rpl n) = sym (zero-add (count_m ws))
    one (s_g h) = sym (zero-add (count_m ws))
    one (s_m k) = omega arith
    one s_n = sym (zero-add (count_m ws))
    one (s_passed b) = sym (zero-add (count_m ws))

again_g : (ws : List Item) (g : GFunction) → repeated_g ws g ≡ leb 1 (count (kin (s_g g)) ws)
again_g ws (Motion m) = find_count (g_of motion_of) (kin (s_g (Motion m))) (λ x. g_kin motion_of (Motion m) motion_group x.says x.place) ws
again_g ws (Plane l) = find_count (g_of plane_of) (kin (s_g (Plane l))) (λ x. g_kin plane_of (Plane l) plane_group x.says x.place) ws
again_g ws (Settable s) = find_count (g_of settable_of) (kin (s_g (Settable s))) (λ x. g_kin settable_of (Settable s) settable_group x.says x.place) ws
again_g ws Machine = find_count (g_of machine_of) (kin (s_g Machine)) (λ x. g_kin machine_of Machine machine_group x.says x.place) ws
again_g ws (LengthsIn u) = find_count (g_of unit_of) (kin (s_g (LengthsIn u))) (λ x. g_kin unit_of (LengthsIn u) unit_group x.says x.place) ws
again_g ws (Distance d) = find_count (g_of distance_of) (kin (s_g (Distance d))) (λ x. g_kin distance_of (Distance d) distance_group x.says x.place) ws
again_g ws (Limit l) = has_count is_limit (kin (s_g (Limit l))) (limit_kin (Limit l) refl) ws

again : (ws : List Item) (x : Said) → repeated ws x ≡ leb (most x) (count (kin x) ws)
again ws (s_name f) = has_count (is_name f) (kin (s_name f)) (name_kin f) ws
again ws (s_axis a n) = find_count (axis_of a) (kin (s_axis a n)) (λ x. axis_kin a n x.says x.place) ws
again ws (s_rpl n) = find_count rpl_of (kin (s_rpl n)) (λ x. rpl_kin n x.says x.place) ws
again ws (s_g g) = again_g ws g
again ws (s_m m) = ap (leb 5) (m_count m ws)
again ws s_n = has_count is_n (kin s_n) n_kin ws
again ws (s_passed a) = has_count (is_passed a) (kin (s_passed a)) (passed_kin a) ws

-- the first instruction
placed_none : (o : Option Instruction) (p : ℕ) → placed o p ≡ None → o ≡ None
placed_none None p e = refl
placed_none (Some b) p e = absurd cc

placed_some : (o : Option Instruction) (p : ℕ) (i : Placed) → placed o p ≡ Some i → (o ≡ Some i.by) × (i.place ≡ p)
placed_some None p i e = absurd cc
placed_some (Some b) p i e = let h = same_Some _ _ e in (ap (λ (k : Placed). Some k.by) h, sym (ap (λ (k : Placed). k.place) h))

none_of : (ws : List Item) → instruction ws ≡ None → AllByRecursion (λ x. instructs x.says ≡ None) ws
none_of [] e = tt
none_of (x ∷ ws) e = let h = keep_none (instruction ws) (placed (instructs x.says) x.place) e in (placed_none (instructs x.says) x.place h.1, none_of ws h.0)

first_of : (ws : List Item) (i : Placed) → instruction ws ≡ Some i → FirstInstruction ws i
first_of [] i e = absurd cc
first_of (x ∷ ws) i e =
    ⊎_elim
    (λ l. let g = first_of ws i l in record { after = x ∷ g.after; word = g.word; earlier = g.earlier; parts = ap (λ t. x ∷ t) g.parts; is = g.is; place = g.place; none = g.none })
    (λ r. let h = placed_some (instructs x.says) x.place i r.1 in record { after = []; word = x; earlier = ws; parts = refl; is = h.0; place = h.1; none = none_of ws r.0 })
    (keep_some (instruction ws) (placed (instructs x.says) x.place) i e)

ends_is : (ws : List Item) → ends_m ws ≡ has is_end ws
ends_is [] = refl
ends_is (x ∷ ws) = one x.says ∙ ap (λ b. is_end x.says || b) (ends_is ws)
  where
    one : (s : Said) → ends_m (record { says = s; place = x.place } ∷ ws) ≡ (is_end s || ends_m ws)
    one (s_name f) = refl
    one (s_axis a n) = refl
    one (s_rpl n) = refl
    one (s_g g) = refl
    one (s_m End) = refl
    one (s_m Other) = refl
    one s_n = refl
    one (s_passed a) = refl

finds : {V : Type 0} (pick : Item → Option V) (ws : List Item) → Finds pick ws
finds pick ws = record { none = find_none pick ws; some = find_some pick ws }

pub stand : Kinds
stand = record {
  motions = finds (g_of motion_of);
  planes = finds (g_of plane_of);
  settables = finds (g_of settable_of);
  machines = finds (g_of machine_of);
  units = finds (g_of unit_of);
  distances = finds (g_of distance_of);
  axes = λ a. finds (axis_of a);
  ends = ends_is;
  again = again;
  first = first_of;
  none = none_of;
}
