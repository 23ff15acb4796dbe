-- The reply as a function says what the relations say.
use Rattle.std.proofs.Common.{◌≡◌, ℕ, zero, suc, ◌+◌, ◌<◌, Bool, true, false, cond, ◌||◌, List, [], ◌∷◌, ℤ, ◌≤ℤ◌, Ok, Err, Result, sym, refl, ap, ◌∙◌, subst, add-one, arith}
use lib.Signed.{lt_z}
use Rattle.std.proofs.lemmas.Int.{ints}
use Rattle.units.specs.Axes.{axis_number}
use Rattle.units.specs.declared.axis.Axis.{Axis}
use Rattle.units.specs.declared.axis.Axis.TheVariants.{X, Y, Z}
use Rattle.units.specs.declared.axis.Point.{Point}
use Rattle.units.specs.declared.fault.Fault.{Fault}
use Rattle.units.specs.declared.fault.Fault.TheVariants.{Outside}
use Rattle.machine.specs.declared.bounds.Bounds.{Bounds}
use Rattle.machine.specs.Meaning.{at}
use Rattle.machine.specs.Replies.{beyond, out, depth, told, outside, reply, box_at}
use Rattle.machine.specs.Standing.{Inside, InsideAll, FirstOutside, Declines, RepliesStand}
use Rattle.machine.proofs.Taken.{taken_axis_lem}

between : (lo hi v : ℤ) → (lt_z v lo || lt_z hi v) ≡ false → (lo ≤ℤ v) × (v ≤ℤ hi)
between lo hi v e = (grind (arith, ints), grind (arith, ints))

not_out : (lo hi v : ℤ) → lo ≤ℤ v → v ≤ℤ hi → (lt_z v lo || lt_z hi v) ≡ false
not_out lo hi v a b = grind (arith, ints)

pub inside : (b : Bounds) (a : Axis) (v : ℤ) → beyond b a v ≡ false → Inside b a v
inside b a v e = let h = between (at b.lower a) (at b.upper a) v e in record { not_below = h.0; not_above = h.1 }

pub not_beyond : (b : Bounds) (a : Axis) (v : ℤ) → Inside b a v → beyond b a v ≡ false
not_beyond b a v i = not_out (at b.lower a) (at b.upper a) v i.not_below i.not_above

clash : {t : Bool} → t ≡ true → t ≡ false → ⊥
clash {t} p q = let z : true ≡ false = sym p ∙ q in let o : ◌≡◌ {A = ℕ} 0 1 = cc in omega arith

-- every box, by the test
all_inside : (bs : List Bounds) (a : Axis) (v : ℤ) → out bs a v ≡ false → InsideAll bs a v
all_inside [] a v e = tt
all_inside (b ∷ bs) a v e = step (beyond b a v) refl (λ k. all_inside bs a v k) e
  where
    step : (t : Bool) → beyond b a v ≡ t → (out bs a v ≡ false → InsideAll bs a v) → (t || out bs a v) ≡ false → InsideAll (b ∷ bs) a v
    step true h rest k = absurd (clash refl k)
    step false h rest k = (inside b a v h, rest k)

none_out : (bs : List Bounds) (a : Axis) (v : ℤ) → InsideAll bs a v → out bs a v ≡ false
none_out [] a v i = refl
none_out (b ∷ bs) a v i = ap (λ t. t || out bs a v) (not_beyond b a v i.0) ∙ none_out bs a v i.1

-- the first box outside, by the count of boxes above it
deepen : (b : Bounds) (bs : List Bounds) (a : Axis) (v : ℤ) (n : ℕ) → Inside b a v → FirstOutside bs a v n → FirstOutside (b ∷ bs) a v (suc n)
deepen b bs a v n i f = record { box = f.box; at_level = f.at_level; outside = f.outside; above = over }
  where
    same : (c : Bounds) → ◌≡◌ {A = Result Bounds Fault} (Ok b) (Ok c) → Inside c a v
    same c e = let s : b ≡ c = cc in subst (λ (x : Bounds). Inside x a v) s i

    over : (k : ℕ) (c : Bounds) → k < suc n → box_at (b ∷ bs) k ≡ Ok c → Inside c a v
    over zero c h e = same c e
    over (suc k) c h e = f.above k c (omega arith) e

pub first_of : (bs : List Bounds) (a : Axis) (v : ℤ) → out bs a v ≡ true → FirstOutside bs a v (depth bs a v)
first_of [] a v e = absurd (clash e refl)
first_of (b ∷ bs) a v e = step (beyond b a v) refl (λ k. first_of bs a v k) e
  where
    step : (t : Bool) → beyond b a v ≡ t → (out bs a v ≡ true → FirstOutside bs a v (depth bs a v)) → (t || out bs a v) ≡ true → FirstOutside (b ∷ bs) a v (cond t 0 (depth bs a v + 1))
    step true h rest k = record { box = b; at_level = refl; outside = λ i. clash h (not_beyond b a v i); above = λ n c l. absurd (omega arith) }
    step false h rest k = subst (λ n. FirstOutside (b ∷ bs) a v n) (sym (add-one _)) (deepen b bs a v (depth bs a v) (inside b a v h) (rest k))

beyond_true : (b : Bounds) (a : Axis) (v : ℤ) → (Inside b a v → ⊥) → beyond b a v ≡ true
beyond_true b a v n = step (beyond b a v) refl
  where
    step : (t : Bool) → beyond b a v ≡ t → t ≡ true
    step true h = refl
    step false h = absurd (n (inside b a v h))

higher : (b : Bounds) (bs : List Bounds) (a : Axis) (v : ℤ) (n : ℕ) → FirstOutside (b ∷ bs) a v (suc n) → FirstOutside bs a v n
higher b bs a v n f = record { box = f.box; at_level = f.at_level; outside = f.outside; above = λ k c h e. f.above (suc k) c (omega arith) e }

pub first_out : (bs : List Bounds) (a : Axis) (v : ℤ) (n : ℕ) → FirstOutside bs a v n → (out bs a v ≡ true) × (depth bs a v ≡ n)
first_out [] a v n f = let z : ◌≡◌ {A = ℕ} 0 1 = cc in absurd (omega arith)
first_out (b ∷ bs) a v zero f =
    let s : b ≡ f.box = cc in
    let t = beyond_true b a v (subst (λ (x : Bounds). Inside x a v → ⊥) (sym s) f.outside) in
    (ap (λ u. u || out bs a v) t, ap (λ u. cond u 0 (depth bs a v + 1)) t)
first_out (b ∷ bs) a v (suc n) f =
    let t = not_beyond b a v (f.above zero b (omega arith) refl) in
    let r = first_out bs a v n (higher b bs a v n f) in
    (ap (λ u. u || out bs a v) t ∙ r.0, ap (λ u. cond u 0 (depth bs a v + 1)) t ∙ ap (λ k. k + 1) r.1 ∙ add-one n)

-- the reply, axis by axis
all_within : (bs : List Bounds) (p : Point) → ((a : Axis) → out bs a (at p a) ≡ false) → reply bs p ≡ Ok tt
all_within bs p n = on_x (n X) ∙ on_y (n Y) ∙ on_z (n Z)
  where
    on_x : out bs X p.x ≡ false → reply bs p ≡ cond (out bs Y p.y) (outside bs Y p.y) (cond (out bs Z p.z) (outside bs Z p.z) (Ok tt))
    on_x e = rw e

    on_y : out bs Y p.y ≡ false → cond (out bs Y p.y) (outside bs Y p.y) (cond (out bs Z p.z) (outside bs Z p.z) (Ok tt)) ≡ cond (out bs Z p.z) (outside bs Z p.z) (Ok tt)
    on_y e = rw e

    on_z : out bs Z p.z ≡ false → cond (out bs Z p.z) (outside bs Z p.z) (Ok tt) ≡ Ok tt
    on_z e = rw e

-- the tests of the three axes
pub record Tests (bs : List Bounds) (p : Point) (x y z : Bool) : Type 0 where
  pub on_x : out bs X p.x ≡ x
  pub on_y : out bs Y p.y ≡ y
  pub on_z : out bs Z p.z ≡ z

abbrev Says : List Bounds → Point → Fault → Type 0
Says bs p f = (a : Axis) × (l : ℕ) × ((f ≡ Outside 0 a l) × Declines bs p a l)

declines : (bs : List Bounds) (p : Point) (a : Axis) → out bs a (at p a) ≡ true → ((e : Axis) → axis_number e < axis_number a → out bs e (at p e) ≡ false) → Declines bs p a (told (depth bs a (at p a)))
declines bs p a o n = record { level = depth bs a (at p a); first = first_of bs a (at p a) o; lower = λ e h. all_inside bs e (at p e) (n e h); capped = refl }

said : (bs : List Bounds) (p : Point) (f : Fault) (a : Axis) → out bs a (at p a) ≡ true → ((e : Axis) → axis_number e < axis_number a → out bs e (at p e) ≡ false) → outside bs a (at p a) ≡ Err f → Says bs p f
said bs p f a o n e = let s : f ≡ Outside 0 a (told (depth bs a (at p a))) = cc in (a, told (depth bs a (at p a)), (s, declines bs p a o n))

by_tests : (bs : List Bounds) (p : Point) (f : Fault) (x y z : Bool) → Tests bs p x y z → cond x (outside bs X p.x) (cond y (outside bs Y p.y) (cond z (outside bs Z p.z) (Ok tt))) ≡ Err f → Says bs p f
by_tests bs p f true y z t e = said bs p f X t.on_x none e
  where
    none : (e : Axis) → axis_number e < axis_number X → out bs e (at p e) ≡ false
    none X h = absurd (omega arith)
    none Y h = absurd (omega arith)
    none Z h = absurd (omega arith)
by_tests bs p f false true z t e = said bs p f Y t.on_y none e
  where
    none : (e : Axis) → axis_number e < axis_number Y → out bs e (at p e) ≡ false
    none X h = t.on_x
    none Y h = absurd (omega arith)
    none Z h = absurd (omega arith)
by_tests bs p f false false true t e = said bs p f Z t.on_z none e
  where
    none : (e : Axis) → axis_number e < axis_number Z → out bs e (at p e) ≡ false
    none X h = t.on_x
    none Y h = t.on_y
    none Z h = absurd (omega arith)
by_tests bs p f false false false t e = let o : ◌≡◌ {A = ℕ} 0 1 = cc in absurd (omega arith)

-- the told axis and level are the ones declined with
told_axis : (bs : List Bounds) (p : Point) (a : Axis) → out bs a (at p a) ≡ true → ((e : Axis) → axis_number e < axis_number a → out bs e (at p e) ≡ false) → reply bs p ≡ outside bs a (at p a)
told_axis bs p X o n = rw o
told_axis bs p Y o n = let x = n X (omega arith) in rw (x, o)
told_axis bs p Z o n = let x = n X (omega arith) in let y = n Y (omega arith) in rw (x, y, o)

declined_so : (bs : List Bounds) (p : Point) (a : Axis) (l : ℕ) → Declines bs p a l → reply bs p ≡ Err (Outside 0 a l)
declined_so bs p a l d =
    let r = first_out bs a (at p a) d.level d.first in
    told_axis bs p a r.0 (λ e h. none_out bs e (at p e) (d.lower e h)) ∙
    ap (λ (n : ℕ). Err (Outside 0 a n)) (ap told r.1 ∙ sym d.capped)

pub replies : RepliesStand
replies m p = record {
  taken = λ e a. all_inside m.boxes a (at p a) (taken_axis_lem m.boxes p e a);
  taken_where = λ i. all_within m.boxes p (λ a. none_out m.boxes a (at p a) (i a));
  declined = λ f e. by_tests m.boxes p f (out m.boxes X p.x) (out m.boxes Y p.y) (out m.boxes Z p.z) (record { on_x = refl; on_y = refl; on_z = refl }) e;
  declined_where = λ a l d. declined_so m.boxes p a l d;
}
