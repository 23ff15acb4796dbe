-- A roll with more records.
use Rattle.std.proofs.Common.{◌≡◌, ℕ, ◌+◌, ◌<◌, ◌≤◌, List, [], ◌∷◌, ◌++◌, length, take, drop, set, sym, refl, ap, ◌∙◌, append_assoc, add-zero, add-one, arith, length-append, length-drop}
use borrow.Author.Tests.{lt-leb}
use Rattle.std.proofs.lemmas.List.{take-append-drop, take_at, drop_at, set_split, length-take-le, drop-drop}
use Rattle.rolls.specs.Rolls.{RollState, records_of, extended, appended}

module _ {R : Type 0} where
  roll_as : (p q : List R) (m n : ℕ) → p ≡ q → m ≡ n → ◌≡◌ {A = RollState R} (record { places = p; count = m }) (record { places = q; count = n })
  roll_as p q m n e f = λ i. record { places = e i; count = f i }

  -- nothing more
  pub no_more : (s : RollState R) → extended s [] ≡ s
  no_more s = roll_as _ s.places _ s.count (ap (λ (n : ℕ). take s.count s.places ++ drop n s.places) (add-zero s.count) ∙ take-append-drop s.count s.places) (add-zero s.count)

  module _ (s : RollState R) (more : List R) (room : s.count + length more ≤ length s.places) where
    front_long : length (take s.count s.places) ≡ s.count
    front_long = length-take-le s.count s.places (omega arith)

    whole : (extended s more).places ≡ (take s.count s.places ++ more) ++ drop (s.count + length more) s.places
    whole = sym (append_assoc (take s.count s.places) more (drop (s.count + length more) s.places))

    long : length (take s.count s.places ++ more) ≡ s.count + length more
    long = length-append (take s.count s.places) more ∙ ap (λ (n : ℕ). n + length more) front_long

    -- what stood there still stands, and the new ones follow
    pub records_more : records_of (extended s more) ≡ records_of s ++ more
    records_more = ap (take (s.count + length more)) whole ∙ take_at (take s.count s.places ++ more) (drop (s.count + length more) s.places) (s.count + length more) long

    pub behind_more : drop (s.count + length more) (extended s more).places ≡ drop (s.count + length more) s.places
    behind_more = ap (drop (s.count + length more)) whole ∙ drop_at (take s.count s.places ++ more) (drop (s.count + length more) s.places) (s.count + length more) long

    pub places_more : length (extended s more).places ≡ length s.places
    places_more = omega (arith, ap length whole, length-append (take s.count s.places ++ more) (drop (s.count + length more) s.places), long, length-drop (s.count + length more) s.places)

    -- more, and then more
    pub more_more : (again : List R) → extended (extended s more) again ≡ extended s (more ++ again)
    more_more again = roll_as _ _ _ _ same counts
      where
        n : ℕ
        n = s.count + length more

        counts : n + length again ≡ s.count + length (more ++ again)
        counts = omega (arith, length-append more again)

        behind : drop (n + length again) (extended s more).places ≡ drop (s.count + length (more ++ again)) s.places
        behind =
            sym (drop-drop (length again) n (extended s more).places) ∙
            ap (drop (length again)) behind_more ∙
            drop-drop (length again) n s.places ∙
            ap (λ (k : ℕ). drop k s.places) counts

        same : take n (extended s more).places ++ (again ++ drop (n + length again) (extended s more).places) ≡ take s.count s.places ++ ((more ++ again) ++ drop (s.count + length (more ++ again)) s.places)
        same =
            ap (λ (l : List R). l ++ (again ++ drop (n + length again) (extended s more).places)) records_more ∙
            ap (λ (l : List R). (take s.count s.places ++ more) ++ (again ++ l)) behind ∙
            simp append_assoc

  -- one more: its place is written
  pub written : (s : RollState R) (r : R) → s.count < length s.places → ◌≡◌ {A = RollState R} (record { places = set s.places s.count r; count = s.count + 1 }) (extended s (r ∷ []))
  written s r room = roll_as _ _ _ _ (set_split s.places s.count r room ∙ ap (λ (n : ℕ). take s.count s.places ++ r ∷ drop n s.places) (sym (add-one s.count))) refl

  pub append_room : (s : RollState R) (r : R) → s.count < length s.places → extended s (r ∷ []) ≡ appended s r
  append_room s r room = rw (lt-leb (length s.places) s.count room)
