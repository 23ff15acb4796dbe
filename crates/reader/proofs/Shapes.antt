-- What a number's reading keeps, and what makes a byte the first wrong one.
use Rattle.std.proofs.Common.{◌≡◌, ℕ, zero, suc, ◌+◌, ◌-◌, ◌*◌, ◌^◌, ◌<◌, ◌≤◌, Bool, true, false, cond, ◌||◌, ◌⊎◌, List, [], ◌∷◌, ◌++◌, length, get_or, take, drop, Ok, Err, Result, MatchResult, count_by, sym, refl, ap, ◌∙◌, subst, ⊎_elim, append-nil, pow-suc, add-one, arith}
use native.Mathlib.Nat.{pow-le-pow_right}
use Rattle.std.proofs.lemmas.Slice.{first_rest}
use Rattle.std.specs.Str.Parse.{digits_value}
use Rattle.std.specs.Char.{is_ascii_digit, digit_value}
use Rattle.std.specs.List.{AllByRecursion}
use Rattle.std.proofs.lemmas.List.{take_more, length_push, take_all}
use Rattle.std.proofs.lemmas.List.Elements.{filter-append}
use Rattle.std.proofs.ByRecursion.{All-push}
use Rattle.std.proofs.lemmas.List.Sums.{sum_by-cons, sum_by-append, sum_by_push}
use Rattle.std.proofs.lemmas.Int.Digits.{digits_value_push}
use Rattle.std.proofs.lemmas.Bool.{cases_Bool, cases_lt, cases_eq, both_ways, or_from, or_left, or_right}
use Rattle.std.proofs.lemmas.Bool.Decides.{nat_tests}
use Rattle.reader.specs.declared.types.Number.{Number}
use Rattle.reader.specs.Shapes.{is_point, is_sign, digits, after_point, decimals, IsMagnitude, IsNumber, IsCode, IsTurn, Begins, FirstWrong, unsigned, valued}

all_left : {X : Type 0} (P : X → Type 0) (xs ys : List X) → AllByRecursion P (xs ++ ys) → AllByRecursion P xs
all_left P [] ys h = tt
all_left P (x ∷ xs) ys h = (h.0, all_left P xs ys h.1)

all_last : {X : Type 0} (P : X → Type 0) (xs : List X) (x : X) (u : List X) → AllByRecursion P ((xs ++ x ∷ []) ++ u) → P x
all_last P [] x u h = h.0
all_last P (y ∷ xs) x u h = all_last P xs x u h.1

abbrev pub OnlyDigits : List ℕ → Type 0
OnlyDigits t = AllByRecursion (λ b. is_ascii_digit b ≡ true) t

-- Codes: the text so far

pub record Code (t : List ℕ) : Type 0 where
  pub only : OnlyDigits t
  pub most : length t ≤ 8

pub code_begins : (t : List ℕ) → Code t → Begins IsCode t
code_begins [] h = (48 ∷ [], record { only = (refl, tt); some = omega arith; most = omega arith })
code_begins (b ∷ t) h = ([], subst IsCode (sym (append-nil (b ∷ t))) (record { only = h.only; some = omega arith; most = h.most }))

pub code_not_digit : (t : List ℕ) (b : ℕ) → is_ascii_digit b ≡ false → Begins IsCode (t ++ b ∷ []) → ⊥
code_not_digit t b no' (u, h) = both_ways (is_ascii_digit b) no' (all_last _ t b u h.only)

pub code_more : (t : List ℕ) (b : ℕ) → Code t → is_ascii_digit b ≡ true → length t < 8 → Code (t ++ b ∷ [])
code_more t b h d l = record { only = All-push _ t b h.only d; most = omega (arith, length_push t b) }

-- Magnitudes: the text so far, with its value, how many digits and decimals it has, and whether it has a point

abbrev Only : List ℕ → Type 0
Only t = AllByRecursion (λ b. (is_ascii_digit b || is_point b) ≡ true) t

pub record Sofar (t : List ℕ) (n ds fs : ℕ) (point : Bool) : Type 0 where
  pub only : Only t
  pub value_is : n ≡ digits_value 10 (digits t)
  pub digits_is : ds ≡ length (digits t)
  pub decimals_is : fs ≡ decimals t
  pub points : count_by is_point t ≡ cond point 1 0
  pub most : ds ≤ 10
  pub fewer : fs ≤ ds
  pub small : n < 10 ^ ds

digit_yes : (b : ℕ) → 48 ≤ b → b ≤ 57 → is_ascii_digit b ≡ true
digit_yes b l h = grind (arith, nat_tests)

digit_low : (b : ℕ) → b < 48 → is_ascii_digit b ≡ false
digit_low b l = grind (arith, nat_tests)

digit_high : (b : ℕ) → 57 < b → is_ascii_digit b ≡ false
digit_high b l = grind (arith, nat_tests)

digit_worth : (b : ℕ) → 48 ≤ b → b ≤ 57 → digit_value b ≡ b - 48
digit_worth b l h = grind (arith, nat_tests)

digits_yes : (t : List ℕ) (b : ℕ) → is_ascii_digit b ≡ true → digits (t ++ b ∷ []) ≡ digits t ++ b ∷ []
digits_yes t b d = filter-append is_ascii_digit t (b ∷ []) ∙ ap (λ z. digits t ++ cond z (b ∷ []) []) d

digits_no : (t : List ℕ) (b : ℕ) → is_ascii_digit b ≡ false → digits (t ++ b ∷ []) ≡ digits t
digits_no t b d = filter-append is_ascii_digit t (b ∷ []) ∙ ap (λ z. digits t ++ cond z (b ∷ []) []) d ∙ append-nil (digits t)

points_push : (t : List ℕ) (b : ℕ) → count_by is_point (t ++ b ∷ []) ≡ count_by is_point t + cond (is_point b) 1 0
points_push t b = sum_by_push (λ x. cond (is_point x) 1 0) t b

points_cons : (x : ℕ) (t : List ℕ) → count_by is_point (x ∷ t) ≡ cond (is_point x) 1 0 + count_by is_point t
points_cons x t = sum_by-cons (λ x. cond (is_point x) 1 0) x t

point_one : (b : ℕ) → is_point b ≡ true → cond {A = ℕ} (is_point b) 1 0 ≡ 1
point_one b y = ap (λ z. cond z 1 0) y

point_zero : (b : ℕ) → is_point b ≡ false → cond {A = ℕ} (is_point b) 1 0 ≡ 0
point_zero b n = ap (λ z. cond z 1 0) n

after_none : (t : List ℕ) → count_by is_point t ≡ 0 → after_point t ≡ []
after_none [] e = refl
after_none (x ∷ t) e =
    ⊎_elim
    (λ y. absurd (omega (arith, points_cons x t, point_one x y)))
    (λ n. let one = point_zero x n in ap (λ z. cond z t (after_point t)) n ∙ after_none t (omega (arith, points_cons x t)))
    (cases_Bool (is_point x))

either_nil : (z : Bool) → cond {A = List ℕ} z [] [] ≡ []
either_nil true = refl
either_nil false = refl

after_push_none : (t : List ℕ) (b : ℕ) → count_by is_point t ≡ 0 → after_point (t ++ b ∷ []) ≡ []
after_push_none [] b e = either_nil (is_point b)
after_push_none (x ∷ t) b e =
    ⊎_elim
    (λ y. absurd (omega (arith, points_cons x t, point_one x y)))
    (λ n. let one = point_zero x n in ap (λ z. cond z (t ++ b ∷ []) (after_point (t ++ b ∷ []))) n ∙ after_push_none t b (omega (arith, points_cons x t)))
    (cases_Bool (is_point x))

after_push_some : (t : List ℕ) (b : ℕ) → 1 ≤ count_by is_point t → after_point (t ++ b ∷ []) ≡ after_point t ++ b ∷ []
after_push_some [] b e = absurd (omega arith)
after_push_some (x ∷ t) b e =
    ⊎_elim
    (λ y. ap (λ z. cond z (t ++ b ∷ []) (after_point (t ++ b ∷ []))) y ∙ ap (λ z. cond z t (after_point t) ++ b ∷ []) (sym y))
    (λ n.
    let one = point_zero x n in
    ap (λ z. cond z (t ++ b ∷ []) (after_point (t ++ b ∷ []))) n ∙ after_push_some t b (omega (arith, points_cons x t)) ∙ ap (λ z. cond z t (after_point t) ++ b ∷ []) (sym n))
    (cases_Bool (is_point x))

pow_ten : (d : ℕ) → d ≤ 9 → 10 ^ d ≤ 10 ^ 9
pow_ten d h = pow-le-pow_right (omega arith) h

pow_ten_more : (d : ℕ) → 10 ^ (d + 1) ≡ 10 ^ d * 10
pow_ten_more d = ap (λ k. 10 ^ k) (add-one d) ∙ pow-suc 10 d

-- a tenth digit still fits
pub room : {t : List ℕ} {n ds fs : ℕ} {p : Bool} → Sofar t n ds fs p → ds < 10 → n < 10 ^ 9
room {ds = ds} h l = omega (arith, h.small, pow_ten ds (omega arith))

pub begun : {t : List ℕ} {n ds fs : ℕ} {p : Bool} → Sofar t n ds fs p → count_by is_point t ≤ 1
begun {p = true} h = omega (arith, h.points)
begun {p = false} h = omega (arith, h.points)

pub start : Sofar [] 0 0 0 false
start = record { only = tt; value_is = refl; digits_is = refl; decimals_is = refl; points = refl; most = omega arith; fewer = omega arith; small = omega arith }

not_point : (b : ℕ) → (b ≡ 46 → ⊥) → is_point b ≡ false
not_point b n = grind (arith, nat_tests)

-- a digit without a point before it
pub digit_plain : {t : List ℕ} {n ds fs : ℕ} (b : ℕ) → Sofar t n ds fs false → 48 ≤ b → b ≤ 57 → ds < 10 → Sofar (t ++ b ∷ []) (n * 10 + (b - 48)) (ds + 1) fs false
digit_plain {t} {n} {ds} {fs} b h l g room' =
    let d = digit_yes b l g in
    let worth = digit_worth b l g in
    let none : count_by is_point t ≡ 0 = h.points in
    let no-point = not_point b (λ e. omega arith) in
    let one = point_zero b no-point in
    record {
      only = All-push _ t b h.only (or_left _ _ d);
      value_is = ap (λ v. v * 10 + (b - 48)) h.value_is ∙ ap (λ w. digits_value 10 (digits t) * 10 + w) (sym worth) ∙ sym (digits_value_push 10 (digits t) b) ∙ sym (ap (digits_value 10) (digits_yes t b d));
      digits_is = omega (arith, h.digits_is, ap length (digits_yes t b d), length_push (digits t) b);
      decimals_is = h.decimals_is ∙ ap (λ l. length (digits l)) (after_none t none) ∙ sym (ap (λ l. length (digits l)) (after_push_none t b none));
      points = points_push t b ∙ omega arith;
      most = omega arith;
      fewer = omega (arith, h.fewer);
      small = omega (arith, h.small, pow_ten_more ds);
    }

pub digit_after : {t : List ℕ} {n ds fs : ℕ} (b : ℕ) → Sofar t n ds fs true → 48 ≤ b → b ≤ 57 → ds < 10 → Sofar (t ++ b ∷ []) (n * 10 + (b - 48)) (ds + 1) (fs + 1) true
digit_after {t} {n} {ds} {fs} b h l g room' =
    let d = digit_yes b l g in
    let worth = digit_worth b l g in
    let one' : count_by is_point t ≡ 1 = h.points in
    let no-point = not_point b (λ e. omega arith) in
    let one = point_zero b no-point in
    record {
      only = All-push _ t b h.only (or_left _ _ d);
      value_is = ap (λ v. v * 10 + (b - 48)) h.value_is ∙ ap (λ w. digits_value 10 (digits t) * 10 + w) (sym worth) ∙ sym (digits_value_push 10 (digits t) b) ∙ sym (ap (digits_value 10) (digits_yes t b d));
      digits_is = omega (arith, h.digits_is, ap length (digits_yes t b d), length_push (digits t) b);
      decimals_is = omega (arith, h.decimals_is, ap (λ l. length (digits l)) (after_push_some t b (omega arith)), ap length (digits_yes (after_point t) b d), length_push (digits (after_point t)) b);
      points = points_push t b ∙ omega arith;
      most = omega arith;
      fewer = omega (arith, h.fewer);
      small = omega (arith, h.small, pow_ten_more ds);
    }

pub point_first : {t : List ℕ} {n ds fs : ℕ} (b : ℕ) → Sofar t n ds fs false → b ≡ 46 → Sofar (t ++ b ∷ []) n ds fs true
point_first {t} {n} {ds} {fs} b h e =
    let d = digit_low b (omega arith) in
    let y : is_point b ≡ true = ap is_point e in
    let none : count_by is_point t ≡ 0 = h.points in
    let one = point_one b y in
    record {
      only = All-push _ t b h.only (or_right _ _ y);
      value_is = h.value_is ∙ sym (ap (digits_value 10) (digits_no t b d));
      digits_is = h.digits_is ∙ sym (ap length (digits_no t b d));
      decimals_is = h.decimals_is ∙ ap (λ l. length (digits l)) (after_none t none) ∙ sym (ap (λ l. length (digits l)) (after_push_none t b none));
      points = points_push t b ∙ omega arith;
      most = h.most;
      fewer = h.fewer;
      small = h.small;
    }

-- Where the text so far may end, and where it may not go on

pub done : {t : List ℕ} {n ds fs : ℕ} {p : Bool} → Sofar t n ds fs p → (ds ≡ 0 → ⊥) → IsMagnitude t
done {t} h more = record { only = h.only; some = ⊎_elim (λ l. l) (λ z. absurd (more (omega (arith, h.digits_is)))) (cases_lt 0 (length (digits t))); most = omega (arith, h.digits_is, h.most); point = begun h }

pub begins : {t : List ℕ} {n ds fs : ℕ} {p : Bool} → Sofar t n ds fs p → Begins IsMagnitude t
begins {t} {ds = ds} h =
    ⊎_elim
    (λ z. (
      48 ∷ [],
      let e = ap length (digits_yes t 48 refl) in
          record {
            only = All-push _ t 48 h.only refl;
            some = omega (arith, e, length_push (digits t) 48);
            most = omega (arith, e, length_push (digits t) 48, h.digits_is);
            point = omega (arith, points_push t 48, begun h);
          },
    ))
    (λ more. ([], subst IsMagnitude (sym (append-nil t)) (done h more)))
    (cases_eq ds 0)

pub not_allowed : (t : List ℕ) (b : ℕ) → (b < 48) ⊎ (57 < b) → (b ≡ 46 → ⊥) → Begins IsMagnitude (t ++ b ∷ []) → ⊥
not_allowed t b out no' (u, h) =
    both_ways (is_ascii_digit b || is_point b) (or_from _ _ (⊎_elim (digit_low b) (digit_high b) out) (not_point b no')) (all_last _ t b u h.only)

pub second_point : {t : List ℕ} {n ds fs : ℕ} (b : ℕ) → Sofar t n ds fs true → b ≡ 46 → Begins IsMagnitude (t ++ b ∷ []) → ⊥
second_point {t} b s e (u, h) =
    let one = point_one b (ap is_point e) in
    omega (arith, s.points, h.point, sum_by-append (λ x. cond (is_point x) 1 0) (t ++ b ∷ []) u, points_push t b)

module _ (Shape : List ℕ → Type 0) (s : List ℕ) where
  pub first_wrong : (i : ℕ) → i < length s → Begins Shape (take i s) → (Begins Shape (take i s ++ get_or s i 0 ∷ []) → ⊥) → FirstWrong Shape s i
  first_wrong i l h no' = record { within = omega arith; begun = h; wrong = λ _ b. no' (subst (Begins Shape) (take_more s i 0 l) b); short = λ e _. omega arith }

  pub first_short : Begins Shape s → (Shape s → ⊥) → FirstWrong Shape s (length s)
  first_short h no' = record { within = omega arith; begun = subst (Begins Shape) (sym (take_all (length s) s (omega arith))) h; wrong = λ l _. omega arith; short = λ _ x. no' x }

pub carry : {t t' : List ℕ} {n n' ds ds' fs fs' : ℕ} {p p' : Bool} → t ≡ t' → n' ≡ n → ds' ≡ ds → fs' ≡ fs → p' ≡ p → Sofar t n ds fs p → Sofar t' n' ds' fs' p'
carry {t} {t'} {n} {n'} {ds} {ds'} {fs} {fs'} {p} {p'} a b c d e h =
    subst (λ x. Sofar x n' ds' fs' p') a (subst (λ x. Sofar t x ds' fs' p') (sym b) (subst (λ x. Sofar t n x fs' p') (sym c) (subst (λ x. Sofar t n ds x p') (sym d) (subst (λ x. Sofar t n ds fs x) (sym e) h))))

pub ten_digits : {t : List ℕ} {n ds fs : ℕ} {p : Bool} → Sofar t n ds fs p → n < 10 ^ 10
ten_digits {ds = ds} h = let k : 10 ^ ds ≤ 10 ^ 10 = pow-le-pow_right (omega arith) h.most in omega (arith, h.small)

-- Codes, at a place of the text

pub code_room : (n i : ℕ) → n < 10 ^ i → i < 8 → n < 10 ^ 7
code_room n i h l = let j : i ≤ 7 = omega arith in let k : 10 ^ i ≤ 10 ^ 7 = pow-le-pow_right (omega arith) j in omega arith

pub code_worth : (n b : ℕ) (t : List ℕ) → n ≡ digits_value 10 t → 48 ≤ b → b ≤ 57 → n * 10 + (b - 48) ≡ digits_value 10 (t ++ b ∷ [])
code_worth n b t e l g = ap (λ v. v * 10 + (b - 48)) e ∙ ap (λ w. digits_value 10 t * 10 + w) (sym (digit_worth b l g)) ∙ sym (digits_value_push 10 t b)

pub code_bound : (n b i : ℕ) → n < 10 ^ i → b ≤ 57 → n * 10 + (b - 48) < 10 ^ (i + 1)
code_bound n b i h l = omega (arith, pow_ten_more i)

pub code_other : (t : List ℕ) (b : ℕ) → (b < 48) ⊎ (57 < b) → Begins IsCode (t ++ b ∷ []) → ⊥
code_other t b out = code_not_digit t b (⊎_elim (digit_low b) (digit_high b) out)

pub code_digit : (t : List ℕ) (b : ℕ) → Code t → 48 ≤ b → b ≤ 57 → length t < 8 → Code (t ++ b ∷ [])
code_digit t b h l g = code_more t b h (digit_yes b l g)

-- The sign

zero_begins_at : IsNumber (48 ∷ [])
zero_begins_at = done (digit_plain 48 start (omega arith) (omega arith) (omega arith)) (λ e. omega arith)

lift : (b : ℕ) (t : List ℕ) → is_sign b ≡ true → Begins IsMagnitude t → Begins IsNumber (b ∷ t)
lift b t y (u, h) = (u, subst (λ z. IsMagnitude (cond z (t ++ u) (b ∷ (t ++ u)))) (sym y) h)

lower : (b : ℕ) (t : List ℕ) → is_sign b ≡ true → Begins IsNumber (b ∷ t) → Begins IsMagnitude t
lower b t y (u, h) = (u, subst (λ z. IsMagnitude (cond z (t ++ u) (b ∷ (t ++ u)))) y h)

signed_wrong : (r : List ℕ) (b i : ℕ) → is_sign b ≡ true → FirstWrong IsMagnitude r i → FirstWrong IsNumber (b ∷ r) (i + 1)
signed_wrong r b i y h =
    record {
      within = omega (arith, h.within);
      begun = subst (λ k. Begins IsNumber (take k (b ∷ r))) (sym (add-one i)) (lift b (take i r) y h.begun);
      wrong = λ l g. h.wrong (omega arith) (lower b (take (i + 1) r) y (subst (λ k. Begins IsNumber (take k (b ∷ r))) (add-one (i + 1)) g));
      short = λ l x. h.short (omega arith) (subst (λ z. IsMagnitude (cond z r (b ∷ r))) y x);
    }

plain_lift : (b : ℕ) (t : List ℕ) → is_sign b ≡ false → Begins IsMagnitude (b ∷ t) → Begins IsNumber (b ∷ t)
plain_lift b t n (u, h) = (u, subst (λ z. IsMagnitude (cond z (t ++ u) (b ∷ (t ++ u)))) (sym n) h)

plain_lower : (b : ℕ) (t : List ℕ) → is_sign b ≡ false → Begins IsNumber (b ∷ t) → Begins IsMagnitude (b ∷ t)
plain_lower b t n (u, h) = (u, subst (λ z. IsMagnitude (cond z (t ++ u) (b ∷ (t ++ u)))) n h)

plain_wrong : (b : ℕ) (s : List ℕ) (i : ℕ) → is_sign b ≡ false → FirstWrong IsMagnitude (b ∷ s) i → FirstWrong IsNumber (b ∷ s) i
plain_wrong b s zero n h = record { within = h.within; begun = (48 ∷ [], zero_begins_at); wrong = λ l g. h.wrong l (plain_lower b [] n g); short = λ e x. omega arith }
plain_wrong b s (suc i) n h = record {
  within = h.within;
  begun = plain_lift b (take i s) n h.begun;
  wrong = λ l g. h.wrong l (subst (λ k. Begins IsMagnitude (take k (b ∷ s))) (sym (add-one (suc i))) (plain_lower b (take (suc i) s) n (subst (λ k. Begins IsNumber (take k (b ∷ s))) (add-one (suc i)) g)));
  short = λ e x. h.short e (subst (λ z. IsMagnitude (cond z s (b ∷ s))) n x);
}

-- a wrong byte of what follows the sign, as a place of the whole text
number_wrong : (s : List ℕ) (i j : ℕ) → j ≡ i + (length s - length (unsigned s)) → FirstWrong IsMagnitude (unsigned s) i → FirstWrong IsNumber s j
number_wrong [] i j e h = record { within = omega (arith, h.within); begun = subst (Begins IsNumber) (sym (take_all j [] (omega arith))) (48 ∷ [], zero_begins_at); wrong = λ l _. omega arith; short = λ _ x. h.short (omega (arith, h.within)) x }
number_wrong (b ∷ s) i j e h =
    ⊎_elim
    (λ y. let one : length (unsigned (b ∷ s)) ≡ length s = ap (λ z. length (cond z s (b ∷ s))) y in let at : i + 1 ≡ j = omega arith in subst (FirstWrong IsNumber (b ∷ s)) at (signed_wrong s b i y (subst (λ z. FirstWrong IsMagnitude (cond z s (b ∷ s)) i) y h)))
    (λ n. let none : length (unsigned (b ∷ s)) ≡ suc (length s) = ap (λ z. length (cond z s (b ∷ s))) n in let at : i ≡ j = omega arith in subst (FirstWrong IsNumber (b ∷ s)) at (plain_wrong b s i n (subst (λ z. FirstWrong IsMagnitude (cond z s (b ∷ s)) i) n h)))
    (cases_Bool (is_sign b))

-- the same of a reading x of what follows the sign, and y with its place moved
pub number_err : {T : Type 0} (P : T → Type 0) (s t : List ℕ) (x y : Result T ℕ) (j : ℕ) → t ≡ unsigned s → MatchResult x P (FirstWrong IsMagnitude t) → MatchResult x (λ v. y ≡ Ok v) (λ i. y ≡ Err (i + (length s - length t))) → y ≡ Err j → FirstWrong IsNumber s j
number_err P s t (Ok v) y j w h r e = absurd (cc)
number_err P s t (Err i) y j w h r e = number_wrong s i j (cc) (subst (λ t. FirstWrong IsMagnitude t i) w h)

pub head_rest : (s : List ℕ) (b : ℕ) → 1 ≤ length s → get_or s 0 0 ≡ b → s ≡ b ∷ take (length s - 1) (drop 1 s)
head_rest s b l e = first_rest s 0 l ∙ ap (λ x. x ∷ take (length s - 1) (drop 1 s)) e

-- `=` and a number

turn_wrong : (t : List ℕ) (i : ℕ) → FirstWrong IsNumber t i → FirstWrong IsTurn (61 ∷ t) (i + 1)
turn_wrong t i h =
    record {
      within = omega (arith, h.within);
      begun = subst (λ k. Begins IsTurn (take k (61 ∷ t))) (sym (add-one i)) (h.begun.0, (refl, h.begun.1));
      wrong = λ l g. let g2 = subst (λ k. Begins IsTurn (take k (61 ∷ t))) (add-one (i + 1)) g in h.wrong (omega arith) (g2.0, g2.1.1);
      short = λ l x. h.short (omega arith) x.1;
    }

-- a reading x of what follows the `=`, and y with its place moved
pub turned : (s t : List ℕ) (x y : Result Number ℕ) → s ≡ 61 ∷ t → MatchResult x (λ n. IsNumber t × (n.value ≡ valued t) × (n.decimals ≡ decimals (unsigned t))) (FirstWrong IsNumber t) → MatchResult x (λ n. y ≡ Ok n) (λ i. y ≡ Err (i + 1)) → MatchResult y (λ n. IsTurn s × (n.value ≡ valued (drop 1 s)) × (n.decimals ≡ decimals (unsigned (drop 1 s)))) (FirstWrong IsTurn s)
turned s t (Ok n) y e h r =
    subst (λ z. MatchResult z (λ n. IsTurn s × (n.value ≡ valued (drop 1 s)) × (n.decimals ≡ decimals (unsigned (drop 1 s)))) (FirstWrong IsTurn s)) (sym r)
    (subst (λ s. IsTurn s × (n.value ≡ valued (drop 1 s)) × (n.decimals ≡ decimals (unsigned (drop 1 s)))) (sym e) ((refl, h.0), h.1, h.2))
turned s t (Err i) y e h r =
    subst (λ z. MatchResult z (λ n. IsTurn s × (n.value ≡ valued (drop 1 s)) × (n.decimals ≡ decimals (unsigned (drop 1 s)))) (FirstWrong IsTurn s)) (sym r)
    (subst (λ s. FirstWrong IsTurn s (i + 1)) (sym e) (turn_wrong t i h))

pub turn_none : (s : List ℕ) → (get_or s 0 0 ≡ 61 → ⊥) → FirstWrong IsTurn s 0
turn_none [] n = record { within = omega arith; begun = (61 ∷ 48 ∷ [], (refl, zero_begins_at)); wrong = λ l _. omega arith; short = λ _ x. x }
turn_none (b ∷ s) n = record { within = omega arith; begun = (61 ∷ 48 ∷ [], (refl, zero_begins_at)); wrong = λ l g. n g.1.0; short = λ e _. omega arith }
