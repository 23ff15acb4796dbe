-- What is gathered decides as the words do.
use Rattle.std.proofs.Common.{◌≡◌, ℕ, ◌<◌, Bool, true, false, cond, ltb, List, [], ◌∷◌, is_some, Some, None, Option, sym, refl, ap, ◌∙◌, arith}
use Rattle.std.specs.List.{AllByRecursion}
use Rattle.std.proofs.lemmas.Bool.{lt-ltb, le-ltb}
use Rattle.units.specs.declared.axis.Axis.{Axis}
use Rattle.units.specs.declared.axis.Axis.TheVariants.{X, Y, Z}
use Rattle.reader.specs.declared.types.Number.{Number}
use Rattle.reader.specs.declared.types.Said.{Said}
use Rattle.reader.specs.declared.types.Said.TheVariants.{Name as s_name, Axis as s_axis, Rpl as s_rpl, G as s_g, M as s_m, N as s_n, Passed as s_passed}
use Rattle.reader.specs.declared.types.Item.{Item}
use Rattle.blocks.specs.declared.gathered.Measured.{Measured}
use Rattle.blocks.specs.declared.gathered.Measure.{Measure}
use Rattle.blocks.specs.Slots.{over, hit, same_axis}
use Rattle.blocks.specs.Found.{find, axis_of, rpl_of, slots_of, repeated, Unrepeated}
use Rattle.blocks.specs.Order.{keep, leftmost, instruction, misplaced_by, order_of}
use Rattle.blocks.specs.Rules.{unfit, measure, bad_axis, bad_rpl, bad, out_of_range_at, lesser, place_if, inch_in}
use Rattle.blocks.specs.Typed.{ruled, made, judged, judged_in}
use Rattle.blocks.specs.Gathers.{Rising}
use Rattle.blocks.proofs.Options.{none_is}

module _ (ws : List Item) where
  by_instruction : (b : Bool) → cond b (order_of ws).stray (order_of ws).late ≡ leftmost (misplaced_by b) ws
  by_instruction true = refl
  by_instruction false = refl

-- all of an option is below p
abbrev Below : ℕ → Option ℕ → Type 0
Below p None = Unit {0}
Below p (Some q) = q < p

pick_below : (p q t : ℕ) → q < p → t < p → (b : Bool) → cond b t q < p
pick_below p q t l h true = h
pick_below p q t l h false = l

lesser_below : (p : ℕ) (a b : Option ℕ) → Below p a → Below p b → Below p (lesser a b)
lesser_below p None b l h = h
lesser_below p (Some q) None l h = l
lesser_below p (Some q) (Some t) l h = pick_below p q t l h (ltb t q)

-- a place behind all others comes last
late_first : (p : ℕ) (o : Option ℕ) → Below p o → lesser (Some p) o ≡ keep o (Some p)
late_first p None l = refl
late_first p (Some q) l = ap (λ b. Some (cond b q p)) (lt-ltb q p l)

late_in : (p : ℕ) (a o : Option ℕ) → Below p a → lesser a (keep o (Some p)) ≡ keep (lesser a o) (Some p)
late_in p None o l = refl
late_in p (Some q) None l = ap (λ b. Some (cond b p q)) (le-ltb p q (omega arith))
late_in p (Some q) (Some t) l = refl

module _ (test : Number → Bool) where
  place_over : (p : ℕ) (a b : Option Measured) → Below p (place_if test a) → Below p (place_if test b) → Below p (place_if test (over a b))
  place_over p a None l h = l
  place_over p a (Some m) l h = h

  hit_below : (p : ℕ) (b : Bool) (v : ℕ) → v < p → Below p (hit b v)
  hit_below p true v l = l
  hit_below p false v l = tt

  place_hit : (p : ℕ) (b : Bool) (m : Measured) → m.place < p → Below p (place_if test (hit b m))
  place_hit p true m l = hit_below p (test m.number) m.place l
  place_hit p false m l = tt

  axis_one : (p : ℕ) (a : Axis) (s : Said) (q : ℕ) → q < p → Below p (place_if test (axis_of a (record { says = s; place = q })))
  axis_one p a (s_name f) q l = tt
  axis_one p a (s_axis b n) q l = place_hit p (same_axis a b) (record { number = n; place = q }) l
  axis_one p a (s_rpl n) q l = tt
  axis_one p a (s_g g) q l = tt
  axis_one p a (s_m m) q l = tt
  axis_one p a s_n q l = tt
  axis_one p a (s_passed b) q l = tt

  axis_below : (p : ℕ) (a : Axis) (ws : List Item) → AllByRecursion (λ y. y.place < p) ws → Below p (place_if test (find (axis_of a) ws))
  axis_below p a [] l = tt
  axis_below p a (x ∷ ws) l = place_over p (find (axis_of a) ws) (axis_of a x) (axis_below p a ws l.1) (axis_one p a x.says x.place l.0)

-- a number at the place p that comes last among a, b, c and d, in each of the four slots
module _ (p : ℕ) (a b c d : Option ℕ) (la : Below p a) (lb : Below p b) (lc : Below p c) (ld : Below p d) where
  four_first : (t : Bool) → lesser (hit t p) (lesser b (lesser c d)) ≡ keep (lesser b (lesser c d)) (hit t p)
  four_first true = late_first p (lesser b (lesser c d)) (lesser_below p b (lesser c d) lb (lesser_below p c d lc ld))
  four_first false = refl

  four_second : (t : Bool) → lesser a (lesser (hit t p) (lesser c d)) ≡ keep (lesser a (lesser c d)) (hit t p)
  four_second true = ap (lesser a) (late_first p (lesser c d) (lesser_below p c d lc ld)) ∙ late_in p a (lesser c d) la
  four_second false = refl

  four_third : (t : Bool) → lesser a (lesser b (lesser (hit t p) d)) ≡ keep (lesser a (lesser b d)) (hit t p)
  four_third true = ap (λ o. lesser a (lesser b o)) (late_first p d ld) ∙ ap (lesser a) (late_in p b d lb) ∙ late_in p a (lesser b d) la
  four_third false = refl

  four_last : (t : Bool) → lesser a (lesser b (lesser c (hit t p))) ≡ keep (lesser a (lesser b (lesser c None))) (hit t p)
  four_last true = ap (λ o. lesser a (lesser b o)) (late_in p c None lc) ∙ ap (lesser a) (late_in p b (lesser c None) lb) ∙ late_in p a (lesser b (lesser c None)) la
  four_last false = refl

-- the least place of a bad number in the slots is that of the leftmost bad word
module _ (m : Measure) where
  abbrev at_axis_lem : Axis → List Item → Option ℕ
  at_axis_lem a ws = place_if (bad_axis m) (find (axis_of a) ws)

  abbrev at_rpl : List Item → Option ℕ
  at_rpl ws = place_if (bad_rpl m) (find rpl_of ws)

  abbrev least : List Item → Option ℕ
  least ws = lesser (at_axis_lem X ws) (lesser (at_axis_lem Y ws) (lesser (at_axis_lem Z ws) (at_rpl ws)))

  rpl_over : (p : ℕ) (a b : Option Measured) → Below p (place_if (bad_rpl m) a) → Below p (place_if (bad_rpl m) b) → Below p (place_if (bad_rpl m) (over a b))
  rpl_over = place_over (bad_rpl m)

  rpl_one : (p : ℕ) (s : Said) (q : ℕ) → q < p → Below p (place_if (bad_rpl m) (rpl_of (record { says = s; place = q })))
  rpl_one p (s_name f) q l = tt
  rpl_one p (s_axis b n) q l = tt
  rpl_one p (s_rpl n) q l = hit_below (bad_rpl m) p (bad_rpl m n) q l
  rpl_one p (s_g g) q l = tt
  rpl_one p (s_m f) q l = tt
  rpl_one p s_n q l = tt
  rpl_one p (s_passed b) q l = tt

  rpl_below : (p : ℕ) (ws : List Item) → AllByRecursion (λ y. y.place < p) ws → Below p (at_rpl ws)
  rpl_below p [] l = tt
  rpl_below p (x ∷ ws) l = rpl_over p (find rpl_of ws) (rpl_of x) (rpl_below p ws l.1) (rpl_one p x.says x.place l.0)

  module _ (ws : List Item) (p : ℕ) (l : AllByRecursion (λ y. y.place < p) ws) (ih : least ws ≡ out_of_range_at m ws) where
    none_at : (a : Axis) → is_some (find (axis_of a) ws) ≡ false → at_axis_lem a ws ≡ None
    none_at a e = ap (place_if (bad_axis m)) (none_is (find (axis_of a) ws) e)

    none_rpl : is_some (find rpl_of ws) ≡ false → at_rpl ws ≡ None
    none_rpl e = ap (place_if (bad_rpl m)) (none_is (find rpl_of ws) e)

    bx : (a : Axis) → Below p (at_axis_lem a ws)
    bx a = axis_below (bad_axis m) p a ws l

    axis_more : (a : Axis) (n : Number) → is_some (find (axis_of a) ws) ≡ false → least (record { says = s_axis a n; place = p } ∷ ws) ≡ keep (out_of_range_at m ws) (hit (bad_axis m n) p)
    axis_more X n e = four_first p None (at_axis_lem Y ws) (at_axis_lem Z ws) (at_rpl ws) tt (bx Y) (bx Z) (rpl_below p ws l) (bad_axis m n) ∙ ap (λ o. keep o (hit (bad_axis m n) p)) (ap (λ o. lesser o (lesser (at_axis_lem Y ws) (lesser (at_axis_lem Z ws) (at_rpl ws)))) (sym (none_at X e)) ∙ ih)
    axis_more Y n e = four_second p (at_axis_lem X ws) None (at_axis_lem Z ws) (at_rpl ws) (bx X) tt (bx Z) (rpl_below p ws l) (bad_axis m n) ∙ ap (λ o. keep o (hit (bad_axis m n) p)) (ap (λ o. lesser (at_axis_lem X ws) (lesser o (lesser (at_axis_lem Z ws) (at_rpl ws)))) (sym (none_at Y e)) ∙ ih)
    axis_more Z n e = four_third p (at_axis_lem X ws) (at_axis_lem Y ws) None (at_rpl ws) (bx X) (bx Y) tt (rpl_below p ws l) (bad_axis m n) ∙ ap (λ o. keep o (hit (bad_axis m n) p)) (ap (λ o. lesser (at_axis_lem X ws) (lesser (at_axis_lem Y ws) (lesser o (at_rpl ws)))) (sym (none_at Z e)) ∙ ih)

    rpl_more : (n : Number) → is_some (find rpl_of ws) ≡ false → least (record { says = s_rpl n; place = p } ∷ ws) ≡ keep (out_of_range_at m ws) (hit (bad_rpl m n) p)
    rpl_more n e = four_last p (at_axis_lem X ws) (at_axis_lem Y ws) (at_axis_lem Z ws) None (bx X) (bx Y) (bx Z) tt (bad_rpl m n) ∙ ap (λ o. keep o (hit (bad_rpl m n) p)) (ap (λ o. lesser (at_axis_lem X ws) (lesser (at_axis_lem Y ws) (lesser (at_axis_lem Z ws) o))) (sym (none_rpl e)) ∙ ih)

    more : (s : Said) → repeated ws s ≡ false → least (record { says = s; place = p } ∷ ws) ≡ keep (out_of_range_at m ws) (hit (bad m s) p)
    more (s_name f) e = ih
    more (s_axis a n) e = axis_more a n e
    more (s_rpl n) e = rpl_more n e
    more (s_g g) e = ih
    more (s_m f) e = ih
    more s_n e = ih
    more (s_passed a) e = ih

  least_is : (ws : List Item) → Rising ws → Unrepeated ws → least ws ≡ out_of_range_at m ws
  least_is [] r u = refl
  least_is (x ∷ ws) r u = more ws x.place r.0 (least_is ws r.1 u.1) x.says u.0

pub judged_is : (ws : List Item) → Rising ws → Unrepeated ws → (inch : Bool) → judged_in inch (slots_of ws) (order_of ws) ≡ judged inch ws
judged_is ws r u inch =
    let six = by_instruction ws (is_some (instruction ws)) in
    let eight = least_is (measure inch ws) ws r u in
    λ i. ruled (six i) (unfit ws) (eight i) (made (inch_in inch ws) (slots_of ws) (order_of ws))
