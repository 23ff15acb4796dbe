-- What is found is the first record that reaches the byte.
use Rattle.std.proofs.Common.{◌≡◌, ℕ, ◌<◌, Bool, true, false, cond, leb, List, [], ◌∷◌, Some, None, Option, sym, refl, ap, subst, leb-false, leb-true}
use Rattle.rolls.specs.Rolls.{first_from, First}

module _ {R : Type 0} (start : R → ℕ) (byte : ℕ) where
  one_before : (r : R) (rs : List R) (o : Option R) → start r < byte → First start rs byte o → First start (r ∷ rs) byte o
  one_before r rs None h f = (h, f)
  one_before r rs (Some x) h f = (r ∷ f.0, f.1, ap (λ (l : List R). r ∷ l) f.2, (h, f.3), f.4)

  decided : (r : R) (rs : List R) (b : Bool) → leb byte (start r) ≡ b → First start rs byte (first_from start rs byte) → First start (r ∷ rs) byte (cond b (Some r) (first_from start rs byte))
  decided r rs true e f = ([], rs, refl, tt, leb-true byte (start r) e)
  decided r rs false e f = one_before r rs (first_from start rs byte) (leb-false byte (start r) e) f

  is_first : (rs : List R) → First start rs byte (first_from start rs byte)
  is_first [] = tt
  is_first (r ∷ rs) = decided r rs (leb byte (start r)) refl (is_first rs)

  pub is_first_as : (rs : List R) (o : Option R) → o ≡ first_from start rs byte → First start rs byte o
  is_first_as rs o e = subst (First start rs byte) (sym e) (is_first rs)
