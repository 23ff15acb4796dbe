-- What becomes of a word that is not well shaped.
use Rattle.std.proofs.Common.{◌≡◌, ℕ, ◌+◌, ◌⊎◌, List, length, take, Ok, Err, Result, sym, refl, ap, subst, inr, ⊎_elim, MatchResult}
use Rattle.std.specs.Result.{IsErrAnd}
use Rattle.units.specs.declared.fault.Fault.{Fault}
use Rattle.units.specs.declared.fault.Fault.TheVariants.{Byte, Shape, Unknown}
use Rattle.reader.specs.declared.types.Address.{Address}
use Rattle.reader.specs.declared.types.Ailment.{Ailment}
use Rattle.reader.specs.declared.types.Ailment.TheVariants.{Unlisted, At}
use Rattle.reader.specs.declared.types.Said.{Said}
use Rattle.reader.specs.declared.types.Word.{Word}
use Rattle.reader.specs.Shapes.{FirstWrong}
use Rattle.reader.specs.Words.{Clean, FirstBad, Names, letters_of, tail_of, Follows, WordIs, Declined, by_byte, by_address, by_shape}
use Rattle.reader.specs.Following.{Ill}

-- the fault of a word at p whose address has n letters
abbrev pub faulted : ℕ → ℕ → Ailment → Fault
faulted p n Unlisted = Unknown p
faulted p n (At i) = Shape (p + n + i)

module _ (w : List ℕ) (p : ℕ) where
  declined : (l t : List ℕ) (a : Address) (e : Ailment) → l ≡ take (letters_of w) w → length l ≡ letters_of w → t ≡ tail_of w → Names l a → Ill a t e → Clean w → Declined w p (faulted p (length l) e)
  declined l t a Unlisted front size tail names h clean =
      let u = subst (λ t. Ill a t Unlisted) tail h in
      by_address clean (inr (subst (Names (take (letters_of w) w)) u.0 (subst (λ l. Names l a) front names), u.1, u.2)) refl
  declined l t a (At i) front size tail names h clean =
      by_shape i clean (record { under = a; address = subst (λ l. Names l a) front names; wrong = subst (λ t. FirstWrong (Follows a) t i) tail h }) (ap (λ n. Shape (p + n + i)) size)

  -- a reading x of what follows the address, and y with its fault
  pub follow_err : (P : Said → Type 0) (l t : List ℕ) (a : Address) (x : Result Said Ailment) (y : Result Said Fault) (f : Fault) → l ≡ take (letters_of w) w → length l ≡ letters_of w → t ≡ tail_of w → Names l a → MatchResult x P (Ill a t) → MatchResult x (λ v. y ≡ Ok v) (λ e. y ≡ Err (faulted p (length l) e)) → y ≡ Err f → Clean w → Declined w p f
  follow_err P l t a (Ok v) y f front size tail names h r e clean = absurd (cc)
  follow_err P l t a (Err d) y f front size tail names h r e clean = let same : faulted p (length l) d ≡ f = cc in subst (Declined w p) same (declined l t a d front size tail names h clean)

  -- a reading x of a word, and y with its first byte that is not allowed
  pub word_err : (x y : Result Word Fault) → MatchResult x (WordIs w p) (λ f. Clean w → Declined w p f) → MatchResult x (λ v. y ≡ Ok v) (λ f. IsErrAnd y (λ d. (Clean w × (d ≡ f)) ⊎ ((i : ℕ) × FirstBad w i × (d ≡ Byte (p + i))))) → MatchResult y (WordIs w p) (Declined w p)
  word_err (Ok v) y h r = subst (λ z. MatchResult z (WordIs w p) (Declined w p)) (sym r) h
  word_err (Err f) (Ok v) h r = absurd r
  word_err (Err f) (Err d) h r = ⊎_elim (λ same. subst (Declined w p) (sym same.1) (h same.0)) (λ bad. by_byte bad.0 bad.1 bad.2) r
