-- The tests of the shapes say what the shapes say.
use Rattle.std.proofs.Common.{◌≡◌, ℕ, zero, suc, ◌+◌, ◌<◌, ◌≤◌, Bool, true, false, cond, ◌&&◌, ◌||◌, T, eqb, leb, ◌⊎◌, List, [], ◌∷◌, ◌++◌, length, take, count_by, sym, refl, ap, ◌∙◌, subst, inl, inr, ⊎_elim, append_assoc, append-nil, arith, le→leb, eqb→eq, leb→le}
use Rattle.std.specs.Char.{is_ascii_digit}
use Rattle.std.specs.List.{AllByRecursion}
use Rattle.std.proofs.lemmas.List.{length-append, take_all}
use Rattle.std.proofs.lemmas.List.Elements.{filter-append}
use Rattle.std.proofs.ByRecursion.{All-push}
use Rattle.std.proofs.lemmas.List.Sums.{sum_by-append}
use Rattle.std.proofs.lemmas.Bool.{cases_lt, cases_eq, false≢true}
use Rattle.reader.specs.declared.types.Address.{Address}
use Rattle.reader.specs.declared.types.Address.TheVariants.{N as at_n, G as at_g, M as at_m, Passed as at_passed, Axis as at_axis, Rpl as at_rpl, Name as at_name}
use Rattle.reader.specs.declared.types.Passed.{Passed}
use Rattle.reader.specs.declared.types.Passed.TheVariants.{F, S, T as at_t, D}
use Rattle.reader.specs.Shapes.{is_point, is_sign, digits, IsMagnitude, IsNumber, IsCode, IsTurn, Begins, FirstWrong, unsigned}
use Rattle.reader.specs.Words.{FollowsPassed, Follows}
use Rattle.reader.specs.Reading.{longest, every, ok_code, is_code, ok_magnitude, is_magnitude, ok_number, is_number, ok_turn, is_turn, is_none, ok_passed, fits_passed, ok, fits}
use Rattle.reader.proofs.Shapes.{code_begins}

pub split : (b : Bool) → (b ≡ true) ⊎ (b ≡ false)
split true = inl refl
split false = inr refl

pub both : (a b : Bool) → (a && b) ≡ true → (a ≡ true) × (b ≡ true)
both true b e = (refl, e)
both false b e = absurd (false≢true e)

and : (a b : Bool) → a ≡ true → b ≡ true → (a && b) ≡ true
and a b e f = ap (λ x. x && b) e ∙ f

told : (b : Bool) → T b → b ≡ true
told true t = refl
told false t = absurd t

pub le_yes : (m n : ℕ) → m ≤ n → leb m n ≡ true
le_yes m n h = told (leb m n) (le→leb m n h)

pub le_is : (m n : ℕ) → leb m n ≡ true → m ≤ n
le_is m n e = leb→le m n (subst T (sym e) tt)

pub eq_is : (a b : ℕ) → eqb a b ≡ true → a ≡ b
eq_is a b e = eqb→eq a b (subst T (sym e) tt)

every_yes : (p : ℕ → Bool) (t : List ℕ) → AllByRecursion (λ b. p b ≡ true) t → every p t ≡ true
every_yes p [] h = refl
every_yes p (b ∷ t) h = and (p b) (every p t) h.0 (every_yes p t h.1)

every_is : (p : ℕ → Bool) (t : List ℕ) → every p t ≡ true → AllByRecursion (λ b. p b ≡ true) t
every_is p [] e = tt
every_is p (b ∷ t) e = let h = both (p b) (every p t) e in (h.0, every_is p t h.1)

all_left : {X : Type 0} (P : X → Type 0) (xs ys : List X) → AllByRecursion P (xs ++ ys) → AllByRecursion P xs
all_left P [] ys h = tt
all_left P (x ∷ xs) ys h = (h.0, all_left P xs ys h.1)

-- ok tells the fronts of a shape, and whole its texts
pub record Tells (Shape : List ℕ → Type 0) (front whole : List ℕ → Bool) : Type 0 where
  pub front_yes : (t : List ℕ) → Begins Shape t → front t ≡ true
  pub front_is : (t : List ℕ) → front t ≡ true → Begins Shape t
  pub whole_yes : (t : List ℕ) → Shape t → whole t ≡ true
  pub whole_is : (t : List ℕ) → whole t ≡ true → Shape t

pub code_tells : Tells IsCode ok_code is_code
code_tells = record {
  front_yes = λ t g. and (every is_ascii_digit t) (leb (length t) 8) (every_yes is_ascii_digit t (all_left _ t g.0 g.1.only)) (le_yes (length t) 8 (omega (arith, g.1.most, length-append t g.0)));
  front_is = λ t e. let h = both (every is_ascii_digit t) (leb (length t) 8) e in code_begins t (record { only = every_is is_ascii_digit t h.0; most = le_is (length t) 8 h.1 });
  whole_yes = λ t g. and (ok_code t) (leb 1 (length t)) (and (every is_ascii_digit t) (leb (length t) 8) (every_yes is_ascii_digit t g.only) (le_yes (length t) 8 g.most)) (le_yes 1 (length t) g.some);
  whole_is = λ t e. let h = both (ok_code t) (leb 1 (length t)) e in let k = both (every is_ascii_digit t) (leb (length t) 8) h.0 in record { only = every_is is_ascii_digit t k.0; some = le_is 1 (length t) h.1; most = le_is (length t) 8 k.1 };
}

abbrev good : ℕ → Bool
good b = is_ascii_digit b || is_point b

pub record Front (t : List ℕ) : Type 0 where
  pub only : AllByRecursion (λ b. (is_ascii_digit b || is_point b) ≡ true) t
  pub most : length (digits t) ≤ 10
  pub point : count_by is_point t ≤ 1

front_ok : (t : List ℕ) → Front t → ok_magnitude t ≡ true
front_ok t h = and (every good t) (leb (length (digits t)) 10 && leb (count_by is_point t) 1) (every_yes good t h.only) (and (leb (length (digits t)) 10) (leb (count_by is_point t) 1) (le_yes (length (digits t)) 10 h.most) (le_yes (count_by is_point t) 1 h.point))

ok_front : (t : List ℕ) → ok_magnitude t ≡ true → Front t
ok_front t e =
    let h = both (every good t) (leb (length (digits t)) 10 && leb (count_by is_point t) 1) e in
    let k = both (leb (length (digits t)) 10) (leb (count_by is_point t) 1) h.1 in
    record { only = every_is good t h.0; most = le_is (length (digits t)) 10 k.0; point = le_is (count_by is_point t) 1 k.1 }

magnitude_front : (t : List ℕ) → Begins IsMagnitude t → Front t
magnitude_front t (u, g) = record {
  only = all_left _ t u g.only;
  most = omega (arith, g.most, ap length (filter-append is_ascii_digit t u), length-append (digits t) (digits u));
  point = omega (arith, g.point, sum_by-append (λ x. cond (is_point x) 1 0) t u);
}

front_begins : (t : List ℕ) → Front t → Begins IsMagnitude t
front_begins t h =
    ⊎_elim
    (λ z. (
      48 ∷ [],
      record {
        only = All-push _ t 48 h.only refl;
        some = omega (arith, ap length (filter-append is_ascii_digit t (48 ∷ [])), length-append (digits t) (48 ∷ []));
        most = omega (arith, ap length (filter-append is_ascii_digit t (48 ∷ [])), length-append (digits t) (48 ∷ []));
        point = omega (arith, h.point, sum_by-append (λ x. cond (is_point x) 1 0) t (48 ∷ []));
      },
    ))
    (λ more. ([], subst IsMagnitude (sym (append-nil t)) (record { only = h.only; some = ⊎_elim (λ l. l) (λ g. absurd (more (omega arith))) (cases_lt 0 (length (digits t))); most = h.most; point = h.point })))
    (cases_eq (length (digits t)) 0)

magnitude_yes : (t : List ℕ) → IsMagnitude t → is_magnitude t ≡ true
magnitude_yes t g = and (ok_magnitude t) (leb 1 (length (digits t))) (front_ok t (record { only = g.only; most = g.most; point = g.point })) (le_yes 1 (length (digits t)) g.some)

magnitude_is : (t : List ℕ) → is_magnitude t ≡ true → IsMagnitude t
magnitude_is t e = let h = both (ok_magnitude t) (leb 1 (length (digits t))) e in let k = ok_front t h.0 in record { only = k.only; some = le_is 1 (length (digits t)) h.1; most = k.most; point = k.point }

-- a sign is passed over in a front as in the whole
unsigned_more : (b : ℕ) (t u : List ℕ) → unsigned ((b ∷ t) ++ u) ≡ unsigned (b ∷ t) ++ u
unsigned_more b t u = ⊎_elim (λ y. ap (λ z. cond z (t ++ u) (b ∷ (t ++ u))) y ∙ sym (ap (λ z. cond z t (b ∷ t) ++ u) y)) (λ n. ap (λ z. cond z (t ++ u) (b ∷ (t ++ u))) n ∙ sym (ap (λ z. cond z t (b ∷ t) ++ u) n)) (split (is_sign b))

number_front : (t : List ℕ) → Begins IsNumber t → ok_number t ≡ true
number_front [] g = refl
number_front (b ∷ t) (u, g) = front_ok (unsigned (b ∷ t)) (magnitude_front (unsigned (b ∷ t)) (u, subst IsMagnitude (unsigned_more b t u) g))

zero_number : IsNumber (48 ∷ [])
zero_number = magnitude_is (48 ∷ []) refl

number_begins : (t : List ℕ) → ok_number t ≡ true → Begins IsNumber t
number_begins [] e = (48 ∷ [], zero_number)
number_begins (b ∷ t) e = let g = front_begins (unsigned (b ∷ t)) (ok_front (unsigned (b ∷ t)) e) in (g.0, subst IsMagnitude (sym (unsigned_more b t g.0)) g.1)

pub number_tells : Tells IsNumber ok_number is_number
number_tells = record { front_yes = number_front; front_is = number_begins; whole_yes = λ t g. magnitude_yes (unsigned t) g; whole_is = λ t e. magnitude_is (unsigned t) e }

turn_front : (t : List ℕ) → Begins IsTurn t → ok_turn t ≡ true
turn_front [] g = refl
turn_front (b ∷ t) (u, g) = and (eqb b 61) (ok_number t) (subst (λ x. eqb x 61 ≡ true) (sym g.0) refl) (number_front t (u, g.1))

turn_begins : (t : List ℕ) → ok_turn t ≡ true → Begins IsTurn t
turn_begins [] e = (61 ∷ 48 ∷ [], (refl, zero_number))
turn_begins (b ∷ t) e = let h = both (eqb b 61) (ok_number t) e in let g = number_begins t h.1 in (g.0, (eq_is b 61 h.0, g.1))

turn_yes : (t : List ℕ) → IsTurn t → is_turn t ≡ true
turn_yes [] g = absurd g
turn_yes (b ∷ t) g = and (eqb b 61) (is_number t) (subst (λ x. eqb x 61 ≡ true) (sym g.0) refl) (magnitude_yes (unsigned t) g.1)

turn_is : (t : List ℕ) → is_turn t ≡ true → IsTurn t
turn_is [] e = absurd (false≢true e)
turn_is (b ∷ t) e = let h = both (eqb b 61) (is_number t) e in (eq_is b 61 h.0, magnitude_is (unsigned t) h.1)

pub turn_tells : Tells IsTurn ok_turn is_turn
turn_tells = record { front_yes = turn_front; front_is = turn_begins; whole_yes = turn_yes; whole_is = turn_is }

none_yes : (t : List ℕ) → t ≡ [] → is_none t ≡ true
none_yes t e = ap is_none e

none_is : (t : List ℕ) → is_none t ≡ true → t ≡ []
none_is [] e = refl
none_is (b ∷ t) e = absurd (false≢true e)

none_front : (t : List ℕ) → Begins (λ s. s ≡ []) t → is_none t ≡ true
none_front [] g = refl
none_front (b ∷ t) (u, g) = absurd (false≢true (ap is_none g))

pub none_tells : Tells (λ t. t ≡ []) is_none is_none
none_tells = record { front_yes = none_front; front_is = λ t e. ([], append-nil t ∙ none_is t e); whole_yes = none_yes; whole_is = none_is }

passed_tells : (a : Passed) → Tells (FollowsPassed a) (ok_passed a) (fits_passed a)
passed_tells F = number_tells
passed_tells S = number_tells
passed_tells at_t = code_tells
passed_tells D = code_tells

pub tells_all : (a : Address) → Tells (Follows a) (ok a) (fits a)
tells_all at_n = code_tells
tells_all at_g = code_tells
tells_all at_m = code_tells
tells_all (at_passed a) = passed_tells a
tells_all (at_axis a) = number_tells
tells_all at_rpl = turn_tells
tells_all (at_name f) = none_tells

-- a longer front has every shorter one
longer : (s : List ℕ) (k j : ℕ) → k ≤ j → (v : List ℕ) × (take j s ≡ take k s ++ v)
longer s zero j l = (take j s, refl)
longer [] (suc k) zero l = absurd (omega arith)
longer [] (suc k) (suc j) l = ([], refl)
longer (x ∷ s) (suc k) zero l = absurd (omega arith)
longer (x ∷ s) (suc k) (suc j) l = let g = longer s k j (omega arith) in (g.0, ap (λ t. x ∷ t) g.1)

module _ {Shape : List ℕ → Type 0} {front whole : List ℕ → Bool} (h : Tells Shape front whole) (s : List ℕ) where
  shorter : (k j : ℕ) → k ≤ j → Begins Shape (take j s) → Begins Shape (take k s)
  shorter k j l (u, g) = let p = longer s k j l in (p.0 ++ u, subst Shape (ap (λ t. t ++ u) p.1 ∙ append_assoc (take k s) p.0 u) g)

  module _ (i : ℕ) (w : FirstWrong Shape s i) where
    beyond : (j : ℕ) → i < j → j ≤ length s → front (take j s) ≡ false
    beyond j l in' = ⊎_elim (λ y. absurd (w.wrong (omega arith) (shorter (i + 1) j (omega arith) (h.front_is (take j s) y)))) (λ n. n) (split (front (take j s)))

    up_to : (n : ℕ) → i ≤ n → n ≤ length s → longest front s n ≡ i
    up_to zero l in' = omega arith
    up_to (suc n) l in' =
        ⊎_elim
        (λ low. ap (λ b. cond b (suc n) (longest front s n)) (beyond (suc n) low in') ∙ up_to n (omega arith) (omega arith))
        (λ high. let same : i ≡ suc n = omega arith in ap (λ b. cond b (suc n) (longest front s n)) (subst (λ k. front (take k s) ≡ true) same (h.front_yes (take i s) w.begun)) ∙ sym same)
        (cases_lt i (suc n))

    pub longest_is : longest front s (length s) ≡ i
    longest_is = up_to (length s) w.within (omega arith)

    pub whole_not : whole s ≡ false
    whole_not =
        ⊎_elim
        (λ y.
        let g = h.whole_is s y in
        let b : Begins Shape (take (length s) s) = ([], subst Shape (sym (append-nil (take (length s) s) ∙ take_all (length s) s (omega arith))) g) in
        ⊎_elim (λ l. absurd (w.wrong l (shorter (i + 1) (length s) (omega arith) b))) (λ l. let e : i ≡ length s = omega (arith, w.within) in absurd (w.short e g)) (cases_lt i (length s)))
        (λ n. n)
        (split (whole s))
