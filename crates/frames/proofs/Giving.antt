-- Four quarter turns about an offset, and a mirror twice.
use Rattle.std.proofs.Common.{◌≡◌, ℕ, Bool, true, false, cond, List, [], ◌∷◌, length, get_or, ℤ, Some, None, Option, sym, refl, ap, ◌∙◌, inl, inr, arith, lit<}
use lib.IntN.{neg_ℤ-neg_ℤ}
use borrow.Author.Differences.{ints}
use Rattle.units.specs.declared.axis.Plane.{Plane}
use Rattle.units.specs.declared.axis.Plane.TheVariants.{Xy, Zx, Yz}
use Rattle.units.specs.declared.quantity.Length.{Length}
use Rattle.chains.specs.declared.step.Step.{Step}
use Rattle.chains.specs.declared.step.Step.TheVariants.{Offset, Mirror}
use Rattle.chains.specs.Steps.{first_of, second_of}
use Rattle.chains.specs.Joined.{AllJoined}
use Rattle.frames.specs.declared.image.Image.{Image}
use Rattle.frames.specs.Pushing.{through, carried, offset_by, mirrored_by}
use Rattle.frames.specs.Laws.{Sized, quarter_turn, Opposite, Opposed, FourQuarters, MirrorTwice}

-- an image has three coordinates and three spreads
abbrev image : ℤ → ℤ → ℤ → ℕ → ℕ → ℕ → Image
image x y z r s t = record { at = x ∷ y ∷ z ∷ []; spread = r ∷ s ∷ t ∷ [] }

three : (P : List ℤ → List ℕ → Type 0) (xs : List ℤ) (rs : List ℕ) → length xs ≡ 3 → length rs ≡ 3 → ((x y z : ℤ) (r s t : ℕ) → P (x ∷ y ∷ z ∷ []) (r ∷ s ∷ t ∷ [])) → P xs rs
three P [] rs h g f = absurd (omega arith)
three P (x ∷ []) rs h g f = absurd (omega arith)
three P (x ∷ y ∷ []) rs h g f = absurd (omega arith)
three P (x ∷ y ∷ z ∷ w ∷ xs) rs h g f = absurd (omega arith)
three P (x ∷ y ∷ z ∷ []) [] h g f = absurd (omega arith)
three P (x ∷ y ∷ z ∷ []) (r ∷ []) h g f = absurd (omega arith)
three P (x ∷ y ∷ z ∷ []) (r ∷ s ∷ []) h g f = absurd (omega arith)
three P (x ∷ y ∷ z ∷ []) (r ∷ s ∷ t ∷ []) h g f = f x y z r s t
three P (x ∷ y ∷ z ∷ []) (r ∷ s ∷ t ∷ u ∷ rs) h g f = absurd (omega arith)

every : (P : Image → Type 0) (p : Image) → Sized p → ((x y z : ℤ) (r s t : ℕ) → P (image x y z r s t)) → P p
every P p h f = three (λ xs rs. P (record { at = xs; spread = rs })) p.at p.spread h.0 h.1 f

carried_sized : (ss : List Step) (m : List Bool) (p : Image) → Sized p → Sized (carried ss m p)
carried_sized [] m p h = h
carried_sized (s ∷ ss) m p h = (refl, refl)

same : {x x' y y' z z' : ℤ} (r s t : ℕ) → x ≡ x' → y ≡ y' → z ≡ z' → image x y z r s t ≡ image x' y' z' r s t
same r s t ex ey ez = λ i. image (ex i) (ey i) (ez i) r s t

-- a mirror twice, at one axis
mirror_by : (f b : Bool) (x : ℤ) → cond f (mirrored_by b (cond f (mirrored_by b x) x)) (cond f (mirrored_by b x) x) ≡ x
mirror_by true true x = neg_ℤ-neg_ℤ x
mirror_by true false x = refl
mirror_by false b x = refl

spread_by : (f : Bool) (r : ℕ) → cond f (cond f r r) (cond f r r) ≡ r
spread_by true r = refl
spread_by false r = refl

same_all : {x x' y y' z z' : ℤ} {r r' s s' t t' : ℕ} → x ≡ x' → y ≡ y' → z ≡ z' → r ≡ r' → s ≡ s' → t ≡ t' → image x y z r s t ≡ image x' y' z' r' s' t'
same_all ex ey ez er es et = λ i. image (ex i) (ey i) (ez i) (er i) (es i) (et i)

mirror_image : (n m : List Bool) (x y z : ℤ) (r s t : ℕ) → through m (Mirror n) (through m (Mirror n) (image x y z r s t)) ≡ image x y z r s t
mirror_image n m x y z r s t =
    same_all (mirror_by (get_or m 0 false) (get_or n 0 false) x) (mirror_by (get_or m 1 false) (get_or n 1 false) y) (mirror_by (get_or m 2 false) (get_or n 2 false) z)
    (spread_by (get_or m 0 false) r) (spread_by (get_or m 1 false) s) (spread_by (get_or m 2 false) t)

pub mirror_twice : MirrorTwice
mirror_twice n ss m p h = every (λ q. through m (Mirror n) (through m (Mirror n) q) ≡ q) (carried ss m p) (carried_sized ss m p h) (mirror_image n m)

-- an offset and back, at one axis
back_by : (f : Bool) (o b : Option Length) (x : ℤ) → Opposite o b → cond f (offset_by o (cond f (offset_by b x) x)) (cond f (offset_by b x) x) ≡ x
back_by true None None x h = refl
back_by true None (Some b) x h = absurd h
back_by true (Some o) None x h = absurd h
back_by true (Some o) (Some b) x h = omega (arith, ints)
back_by false o b x h = refl

offset_image : (o b : List (Option Length)) (m : List Bool) → Opposed o b → (x y z : ℤ) (r s t : ℕ) → through m (Offset o) (through m (Offset b) (image x y z r s t)) ≡ image x y z r s t
offset_image o b m h x y z r s t =
    same_all (back_by (get_or m 0 false) (get_or o 0 None) (get_or b 0 None) x (h 0 (lit< tt))) (back_by (get_or m 1 false) (get_or o 1 None) (get_or b 1 None) y (h 1 (lit< tt))) (back_by (get_or m 2 false) (get_or o 2 None) (get_or b 2 None) z (h 2 (lit< tt)))
    (spread_by (get_or m 0 false) r) (spread_by (get_or m 1 false) s) (spread_by (get_or m 2 false) t)

-- four quarter turns; f, g and h say which axes are moved
abbrev four : Step → List Bool → Image → Image
four q m p = through m q (through m q (through m q (through m q p)))

agree : (f g : Bool) → (f ≡ true → g ≡ true) → (g ≡ true → f ≡ true) → f ≡ g
agree true g a b = sym (a refl)
agree false true a b = b refl
agree false false a b = refl

four_by : (plane : Plane) (f g h : Bool) → get_or (f ∷ g ∷ h ∷ []) (first_of plane) false ≡ get_or (f ∷ g ∷ h ∷ []) (second_of plane) false → (x y z : ℤ) (r s t : ℕ) → four (quarter_turn plane) (f ∷ g ∷ h ∷ []) (image x y z r s t) ≡ image x y z r s t
four_by Xy true true true e x y z r s t = same r s t (neg_ℤ-neg_ℤ x) (neg_ℤ-neg_ℤ y) refl
four_by Xy true true false e x y z r s t = same r s t (neg_ℤ-neg_ℤ x) (neg_ℤ-neg_ℤ y) refl
four_by Xy true false true e x y z r s t = cc
four_by Xy true false false e x y z r s t = cc
four_by Xy false true true e x y z r s t = cc
four_by Xy false true false e x y z r s t = cc
four_by Xy false false true e x y z r s t = refl
four_by Xy false false false e x y z r s t = refl
four_by Zx true true true e x y z r s t = same r s t (neg_ℤ-neg_ℤ x) refl (neg_ℤ-neg_ℤ z)
four_by Zx true true false e x y z r s t = cc
four_by Zx true false true e x y z r s t = same r s t (neg_ℤ-neg_ℤ x) refl (neg_ℤ-neg_ℤ z)
four_by Zx true false false e x y z r s t = cc
four_by Zx false true true e x y z r s t = cc
four_by Zx false true false e x y z r s t = refl
four_by Zx false false true e x y z r s t = cc
four_by Zx false false false e x y z r s t = refl
four_by Yz true true true e x y z r s t = same r s t refl (neg_ℤ-neg_ℤ y) (neg_ℤ-neg_ℤ z)
four_by Yz true true false e x y z r s t = cc
four_by Yz true false true e x y z r s t = cc
four_by Yz true false false e x y z r s t = refl
four_by Yz false true true e x y z r s t = same r s t refl (neg_ℤ-neg_ℤ y) (neg_ℤ-neg_ℤ z)
four_by Yz false true false e x y z r s t = cc
four_by Yz false false true e x y z r s t = cc
four_by Yz false false false e x y z r s t = refl

four_image : (plane : Plane) (m : List Bool) → AllJoined m (quarter_turn plane ∷ []) → (x y z : ℤ) (r s t : ℕ) → four (quarter_turn plane) m (image x y z r s t) ≡ image x y z r s t
four_image Xy m j = four_by Xy (get_or m 0 false) (get_or m 1 false) (get_or m 2 false) (agree (get_or m 0 false) (get_or m 1 false) (j 0 1 (inl (inl (refl, refl)))) (j 1 0 (inl (inr (refl, refl)))))
four_image Zx m j = four_by Zx (get_or m 0 false) (get_or m 1 false) (get_or m 2 false) (agree (get_or m 2 false) (get_or m 0 false) (j 2 0 (inl (inl (refl, refl)))) (j 0 2 (inl (inr (refl, refl)))))
four_image Yz m j = four_by Yz (get_or m 0 false) (get_or m 1 false) (get_or m 2 false) (agree (get_or m 1 false) (get_or m 2 false) (j 1 2 (inl (inl (refl, refl)))) (j 2 1 (inl (inr (refl, refl)))))

pub four_quarters : FourQuarters
four_quarters plane by back ss m p h j o =
    ap (through m (Offset by)) (every (λ q. four (quarter_turn plane) m q ≡ q) (through m (Offset back) (carried ss m p)) (refl, refl) (four_image plane m j))
    ∙ every (λ q. through m (Offset by) (through m (Offset back) q) ≡ q) (carried ss m p) (carried_sized ss m p h) (offset_image by back m o)
