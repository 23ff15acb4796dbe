-- Values by axis, in the order X, Y, Z.
use Rattle.std.specs.Prelude.{◌≡◌, ℕ, List, [], ◌∷◌, slice_index_or}

abbrev pub IsAt : {A : Type 0} → List A → ℕ → A → Type 0
IsAt {A} xs a x = (d : A) → slice_index_or xs a d ≡ x

-- z is what R gives of the two values of an axis
abbrev pub OnAxis : {A B C : Type 0} → (A → B → C → Type 0) → List A → List B → ℕ → C → Type 0
OnAxis {A} {B} R xs ys a z = (x : A) × (y : B) × IsAt xs a x × IsAt ys a y × R x y z

abbrev pub EachAxis : {A B C : Type 0} → (A → B → C → Type 0) → List A → List B → List C → Type 0
EachAxis {A} {B} {C} R xs ys zs = (x : C) × (y : C) × (z : C) × (zs ≡ x ∷ y ∷ z ∷ []) × OnAxis R xs ys 0 x × OnAxis R xs ys 1 y × OnAxis R xs ys 2 z
