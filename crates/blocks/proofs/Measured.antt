-- What the range tests give.
use Rattle.std.proofs.Common.{◌≡◌, ℕ, suc, ◌-◌, ◌^◌, ◌≤◌, Bool, cond, leb, ℤ, pos, negsuc, ◌+ℤ◌, ◌<ℤ◌, ◌≤ℤ◌, unsigned_abs, Ok, Err, Some, None, Option, Result, refl, sym, ap, ◌∙◌, ⊎_elim, arith, w64, SFits, MatchOption}
use Rattle.std.specs.Result.{OkIff, result_ok}
use Rattle.std.specs.Option.{SomeIff}
use Rattle.std.specs.Int.{FitsUnsignedBits}
use Rattle.std.proofs.lemmas.Bool.{cases_lt, cases_Bool, leb-true, le-leb, lt-leb}
use borrow.Author.Differences.{ints}
use Rattle.units.specs.declared.quantity.Length.{Length}
use Rattle.units.specs.declared.quantity.Angle.{Angle}
use Rattle.units.specs.Quantities.{length_of, factor_of, angle_of}
use Rattle.units.proofs.Ranged.{length_none, factor_large, angle_none}
use Rattle.reader.specs.declared.types.Number.{Number}
use Rattle.blocks.specs.Measures.{most_in, units_in, length_in, whole_factor, whole_angle}

-- what is made of a number that is not below 0
abbrev pub unsigned : {V : Type 0} → (ℕ → Option V) → ℤ → Option V
unsigned make (pos n) = make n
unsigned make (negsuc n) = None

-- the same by way of 32 bits
module _ {E V : Type 0} (make : ℕ → Option V) (far : (n : ℕ) → 2 ^ 32 ≤ n → make n ≡ None) where
  pub unsigned_is : (z : ℤ) (t : Result ℕ E) (r : Option V) → OkIff t (FitsUnsignedBits 32 z) (unsigned_abs z) → MatchOption (result_ok t) (r ≡ None) (λ n. r ≡ make n) → r ≡ unsigned make z
  unsigned_is (pos n) (Ok k) r h m = m ∙ ap make h.1
  unsigned_is (pos n) (Err e) r h m = m ∙ sym (far n (omega arith))
  unsigned_is (negsuc n) (Ok k) r h m = absurd h.0
  unsigned_is (negsuc n) (Err e) r h m = m

pub factor_far : (n : ℕ) → 2 ^ 32 ≤ n → factor_of n ≡ None
factor_far n l = factor_large n (omega arith) (omega arith)

pub angle_far : (n : ℕ) → 2 ^ 32 ≤ n → angle_of n ≡ None
angle_far n l = angle_none n (omega arith)

pub factor_unsigned : (z : ℤ) → unsigned factor_of z ≡ whole_factor z
factor_unsigned (pos n) = refl
factor_unsigned (negsuc n) = refl

-- an angle that is not below 0, or has a full turn more
module _ (z u v : ℤ) (r : Option Angle) (is : u ≡ v) (made : r ≡ unsigned angle_of u) where
  pub angle_unsigned : pos 0 ≤ℤ z → v ≡ z → r ≡ whole_angle z
  angle_unsigned l e = made ∙ ap (unsigned angle_of) (is ∙ e) ∙ at_least z l
    where
      at_least : (y : ℤ) → pos 0 ≤ℤ y → unsigned angle_of y ≡ whole_angle y
      at_least (pos k) h = refl
      at_least (negsuc k) h = absurd (omega (arith, ints))

  pub angle_turned : z <ℤ pos 0 → negsuc 3599999 <ℤ z → v ≡ z +ℤ pos 3600000 → r ≡ whole_angle z
  angle_turned l h e = made ∙ below u z (is ∙ e) l h
    where
      below : (t y : ℤ) → t ≡ y +ℤ pos 3600000 → y <ℤ pos 0 → negsuc 3599999 <ℤ y → unsigned angle_of t ≡ whole_angle y
      below t (pos k) f g i = absurd (omega (arith, ints))
      below (negsuc n) (negsuc k) f g i = absurd (omega (arith, ints))
      below (pos n) (negsuc k) f g i =
          let same : n ≡ 3600000 - suc k = omega (arith, ints) in
          ap angle_of same ∙ sym (ap (λ b. cond b None (angle_of (3600000 - suc k))) (lt-leb 3600000 (suc k) (omega (arith, ints))))

-- no length is beyond 64 bits
length_far : (z : ℤ) → (SFits w64 z → ⊥) → length_of z ≡ None
length_far z h = ⊎_elim (λ l. length_none z l) (λ l. absurd (h (omega (arith, ints)))) (cases_lt 999999999 (unsigned_abs z))

-- the length of so many units
module _ (n : Number) (most : ℕ) (units : ℤ) where
  abbrev length_by : Bool → Option Length
  length_by b = cond b (length_of units) None

  of_units : (o : Option ℤ) (r : Option Length) → SomeIff o ((n.decimals ≤ most) × SFits w64 units) units → MatchOption o (r ≡ None) (λ z. r ≡ length_of z) → r ≡ length_by (leb n.decimals most)
  of_units None r h m = m ∙ sym (⊎_elim (λ y. ap length_by y ∙ length_far units (λ f. h (leb-true n.decimals most y, f))) (λ f. ap length_by f) (cases_Bool (leb n.decimals most)))
  of_units (Some z) r h m = m ∙ ap length_of h.1 ∙ sym (ap length_by (le-leb n.decimals most h.0.0))

pub length_of_units : (inch : Bool) (n : Number) (o : Option ℤ) (r : Option Length) → SomeIff o ((n.decimals ≤ most_in inch) × SFits w64 (units_in inch n)) (units_in inch n) → MatchOption o (r ≡ None) (λ z. r ≡ length_of z) → r ≡ length_in inch n
length_of_units inch n = of_units n (most_in inch) (units_in inch n)
