-- The reading of a word means what its rules say.
use Rattle.std.proofs.Common.{◌≡◌, ℕ, zero, suc, ◌+◌, ◌<◌, ◌≤◌, Bool, true, false, cond, eqb, leb, List, [], ◌∷◌, map, length, take, is_some, Some, None, Err, Option, Result, sym, refl, ap, ◌∙◌, subst, inl, inr, ⊎_elim, arith, MatchResult}
use Rattle.std.specs.Str.Parse.{digits_value}
use Rattle.std.specs.Char.{to_ascii_uppercase}
use Rattle.std.specs.List.{prefix_len}
use Rattle.std.proofs.lemmas.Bool.{cases_lt, false≢true}
use Rattle.units.specs.declared.fault.Fault.{Fault}
use Rattle.units.specs.declared.fault.Fault.TheVariants.{Byte, Shape}
use Rattle.reader.specs.declared.functions.GFunction.{GFunction}
use Rattle.reader.specs.declared.types.Passed.{Passed}
use Rattle.reader.specs.declared.types.Passed.TheVariants.{F, S, T, D}
use Rattle.reader.specs.declared.types.Address.{Address}
use Rattle.reader.specs.declared.types.Address.TheVariants.{N as at_n, G as at_g, M as at_m, Passed as at_passed, Axis as at_axis, Rpl as at_rpl, Name as at_name}
use Rattle.reader.specs.declared.types.Said.{Said}
use Rattle.reader.specs.declared.types.Item.{Item}
use Rattle.reader.specs.Shapes.{FirstWrong}
use Rattle.reader.specs.Words.{in_word, Clean, spelled, letters_of, tail_of, Addressed, Follows, said, Says, g_number, Unlisted, ItemIs, Declined, by_byte, by_address, by_shape}
use Rattle.reader.specs.Reading.{longest, ok_passed, ok, fits, alike, look, addresses, functions, spelled_by, address_of, function_of, as_g, said_by, listed, addressed}
use Rattle.reader.specs.Meaning.{ReadingStands}
use Rattle.reader.proofs.Fronts.{Tells, split, le_is, le_yes, eq_is, tells_all}
use Rattle.reader.proofs.Listed.{leading_all, leading_stop}
use Rattle.reader.proofs.Says.{alike_is, address_some, function_some, reads_right, reads_wrong}

some≢none : {X : Type 0} (x : X) → Some x ≡ None → ⊥
some≢none x e = false≢true (sym (ap is_some e))

unwrap : {X : Type 0} → X → Option X → X
unwrap d None = d
unwrap d (Some v) = v

some_same : {X : Type 0} (x y : X) → Some x ≡ Some y → x ≡ y
unfolding unwrap
some_same x y e = ap (unwrap x) e

-- what is found passes
look_is : {X : Type 0} (test : X → Bool) (xs : List X) (x : X) → look test xs ≡ Some x → test x ≡ true
look_is test [] x e = absurd (some≢none x (sym e))
look_is test (y ∷ xs) x e =
    ⊎_elim
    (λ yes. subst (λ z. test z ≡ true) (some_same y x (sym (ap (λ b. cond b (Some y) (look test xs)) yes) ∙ e)) yes)
    (λ no'. look_is test xs x (sym (ap (λ b. cond b (Some y) (look test xs)) no') ∙ e))
    (split (test y))

-- the longest front that passes
module _ (front : List ℕ → Bool) (s : List ℕ) (nil : front [] ≡ true) where
  abbrev pick : ℕ → Bool → ℕ
  pick n b = cond b (suc n) (longest front s n)

  reach : (n : ℕ) → longest front s n ≤ n
  reach zero = omega arith
  reach (suc n) = ⊎_elim (λ y. let e = ap (pick n) y in omega arith) (λ m. let e = ap (pick n) m in omega (arith, reach n)) (split (front (take (suc n) s)))

  passes : (n : ℕ) → front (take (longest front s n) s) ≡ true
  passes zero = nil
  passes (suc n) =
      ⊎_elim
      (λ y. ap (λ k. front (take k s)) (ap (pick n) y) ∙ y)
      (λ m. ap (λ k. front (take k s)) (ap (pick n) m) ∙ passes n)
      (split (front (take (suc n) s)))

  fails : (n j : ℕ) → longest front s n < j → j ≤ n → front (take j s) ≡ false
  fails zero j l h = absurd (omega arith)
  fails (suc n) j l h =
      ⊎_elim
      (λ y. let e = ap (pick n) y in absurd (omega arith))
      (λ m.
      let e = ap (pick n) m in
      ⊎_elim
      (λ low. fails n j (omega arith) (omega arith))
      (λ high. let same : suc n ≡ j = omega arith in subst (λ k. front (take k s) ≡ false) same m)
      (cases_lt j (suc n)))
      (split (front (take (suc n) s)))

wrong_at : {Shape : List ℕ → Type 0} {front whole : List ℕ → Bool} → Tells Shape front whole → (s : List ℕ) → front [] ≡ true → whole s ≡ false → FirstWrong Shape s (longest front s (length s))
wrong_at {front = front} h s nil e =
    record {
      within = reach front s nil (length s);
      begun = h.front_is (take (longest front s (length s)) s) (passes front s nil (length s));
      wrong = λ l b. false≢true (sym (fails front s nil (length s) (longest front s (length s) + 1) (omega arith) (omega arith)) ∙ h.front_yes (take (longest front s (length s) + 1) s) b);
      short = λ _ x. false≢true (sym e ∙ h.whole_yes s x);
    }

passed_nil : (a : Passed) → ok_passed a [] ≡ true
passed_nil F = refl
passed_nil S = refl
passed_nil T = refl
passed_nil D = refl

ok_nil : (a : Address) → ok a [] ≡ true
ok_nil at_n = refl
ok_nil at_g = refl
ok_nil at_m = refl
ok_nil (at_passed a) = passed_nil a
ok_nil (at_axis a) = refl
ok_nil at_rpl = refl
ok_nil (at_name f) = refl

-- what an address and what follows it say
abbrev SaidMeans : Address → List ℕ → Option Said → Type 0
SaidMeans a t None = (a ≡ at_g) × Unlisted (digits_value 10 t)
SaidMeans a t (Some x) = (said x ≡ a) × Says t x

g_means : (t : List ℕ) (o : Option GFunction) → function_of (digits_value 10 t) ≡ o → SaidMeans at_g t (as_g o)
g_means t None e = (refl, λ g h. some≢none g (sym (ap function_of h ∙ function_some g) ∙ e))
g_means t (Some g) e = (refl, eq_is (digits_value 10 t) (g_number g) (look_is (λ f. eqb (digits_value 10 t) (g_number f)) functions g e))

said_means : (a : Address) (t : List ℕ) → SaidMeans a t (said_by a t)
said_means at_n t = (refl, tt)
said_means at_g t = g_means t (function_of (digits_value 10 t)) refl
said_means at_m t = (refl, refl)
said_means (at_passed a) t = (refl, tt)
said_means (at_axis a) t = (refl, (refl, refl))
said_means at_rpl t = (refl, (refl, refl))
said_means (at_name f) t = (refl, tt)

module _ (w : List ℕ) (p : ℕ) where
  abbrev Told : Result Item Fault → Type 0
  Told r = MatchResult r (ItemIs w p) (Declined w p)

  module _ (clean : Clean w) where
    told_said : (a : Address) (o : Option Said) → Addressed w a → Follows a (tail_of w) → SaidMeans a (tail_of w) o → Told (listed p o)
    told_said a None e f (g, u) = by_address clean (inr (subst (Addressed w) g e, subst (λ b. Follows b (tail_of w)) g f, u)) refl
    told_said a (Some x) e f (g, v) = record { place = refl; address = subst (Addressed w) (sym g) e; follows = subst (λ b. Follows b (tail_of w)) (sym g) f; values = v }

    told_shape : (a : Address) (b : Bool) → fits a (tail_of w) ≡ b → Addressed w a → Told (cond b (listed p (said_by a (tail_of w))) (Err (Shape (p + letters_of w + longest (ok a) (tail_of w) (length (tail_of w))))))
    told_shape a true e h = told_said a (said_by a (tail_of w)) h ((tells_all a).whole_is (tail_of w) e) (said_means a (tail_of w))
    told_shape a false e h = by_shape (longest (ok a) (tail_of w) (length (tail_of w))) clean (record { under = a; address = h; wrong = wrong_at (tells_all a) (tail_of w) (ok_nil a) e }) refl

    told_address : (o : Option Address) → address_of w ≡ o → Told (addressed w p o)
    told_address None e = by_address clean (inl (λ a h. some≢none a (sym (ap spelled_by h ∙ address_some a) ∙ e))) refl
    told_address (Some a) e =
        let l = map to_ascii_uppercase (take (letters_of w) w) in
        told_shape a (fits a (tail_of w)) refl (alike_is l (spelled a) (look_is (λ b. alike l (spelled b)) addresses a e))

  told_clean : (b : Bool) → leb (length w) (prefix_len in_word w) ≡ b → Told (cond b (addressed w p (address_of w)) (Err (Byte (p + prefix_len in_word w))))
  told_clean true e = let l = le_is (length w) (prefix_len in_word w) e in told_address (λ k h. leading_all in_word w k (omega arith)) (address_of w) refl
  told_clean false e =
      let less : prefix_len in_word w < length w = ⊎_elim (λ h. h) (λ h. absurd (false≢true (sym e ∙ le_yes (length w) (prefix_len in_word w) h))) (cases_lt (prefix_len in_word w) (length w)) in
      by_byte (prefix_len in_word w) (record { inside = less; bad = leading_stop in_word w less; good = λ k h. leading_all in_word w k h }) refl

pub stand : ReadingStands
stand w p = record { means = told_clean w p (leb (length w) (prefix_len in_word w)) refl; only_item = reads_right w p; only_fault = reads_wrong w p }
