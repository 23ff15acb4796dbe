-- A well-shaped word has no byte that is not allowed; an N word is well shaped.
use Rattle.std.proofs.Common.{◌≡◌, ℕ, zero, suc, ◌+◌, ◌-◌, ◌<◌, Bool, true, false, cond, ◌||◌, ◌⊎◌, List, [], ◌∷◌, map, length, get_or, take, drop, sym, refl, ap, ◌∙◌, subst, ⊎_elim, arith, length-drop}
use Rattle.std.specs.Char.{is_ascii_digit, is_ascii_alphabetic, to_ascii_uppercase}
use Rattle.std.specs.List.{prefix_len, AllByRecursion}
use Rattle.std.proofs.ByRecursion.{All-weaker}
use Rattle.std.proofs.lemmas.List.{get_or-drop}
use Rattle.std.proofs.lemmas.Bool.{cases_lt}
use Rattle.std.proofs.lemmas.Bool.Decides.{nat_tests}
use Rattle.reader.specs.declared.types.Address.{Address}
use Rattle.reader.specs.declared.types.Address.TheVariants.{N as at_n, G as at_g, M as at_m, Passed as at_passed, Axis as at_axis, Rpl as at_rpl, Name as at_name}
use Rattle.reader.specs.declared.types.Passed.{Passed}
use Rattle.reader.specs.declared.types.Passed.TheVariants.{F, S, T, D}
use Rattle.reader.specs.Shapes.{is_point, is_sign, IsMagnitude, IsNumber, IsCode, IsTurn}
use Rattle.reader.specs.Words.{in_word, Clean, letters_of, tail_of, FollowsPassed, Follows}
use Rattle.reader.specs.Following.{NWord}
use Rattle.reader.proofs.Fronts.{split}
use Rattle.reader.proofs.Listed.{leading_is, leading_all}

abbrev In : List ℕ → Type 0
In t = AllByRecursion (λ b. in_word b ≡ true) t

digit_in : (b : ℕ) → is_ascii_digit b ≡ true → in_word b ≡ true
digit_in b d = grind (arith, nat_tests)

letter_in : (b : ℕ) → is_ascii_alphabetic b ≡ true → in_word b ≡ true
letter_in b d = grind (arith, nat_tests)

eq_in : (b c : ℕ) → in_word c ≡ true → b ≡ c → in_word b ≡ true
eq_in b c h e = ap in_word e ∙ h

point_in : (b : ℕ) → (is_ascii_digit b || is_point b) ≡ true → in_word b ≡ true
point_in b e = ⊎_elim (λ d. digit_in b d) (λ n. grind (arith, nat_tests)) (split (is_ascii_digit b))

sign_in : (b : ℕ) → is_sign b ≡ true → in_word b ≡ true
sign_in b e = grind (arith, nat_tests)

code_in : (t : List ℕ) → IsCode t → In t
code_in t h = All-weaker (λ b. is_ascii_digit b ≡ true) (λ b. in_word b ≡ true) digit_in t h.only

magnitude_in : (t : List ℕ) → IsMagnitude t → In t
magnitude_in t h = All-weaker (λ b. (is_ascii_digit b || is_point b) ≡ true) (λ b. in_word b ≡ true) point_in t h.only

number_in : (t : List ℕ) → IsNumber t → In t
number_in [] h = tt
number_in (b ∷ t) h =
    ⊎_elim
    (λ y. (sign_in b y, magnitude_in t (subst (λ z. IsMagnitude (cond z t (b ∷ t))) y h)))
    (λ n. magnitude_in (b ∷ t) (subst (λ z. IsMagnitude (cond z t (b ∷ t))) n h))
    (split (is_sign b))

turn_in : (t : List ℕ) → IsTurn t → In t
turn_in [] h = tt
turn_in (b ∷ t) h = (eq_in b 61 refl h.0, number_in t h.1)

passed_in : (a : Passed) (t : List ℕ) → FollowsPassed a t → In t
passed_in F = number_in
passed_in S = number_in
passed_in T = code_in
passed_in D = code_in

follows_in : (a : Address) (t : List ℕ) → Follows a t → In t
follows_in at_n t h = code_in t h
follows_in at_g t h = code_in t h
follows_in at_m t h = code_in t h
follows_in (at_passed a) t h = passed_in a t h
follows_in (at_axis a) t h = number_in t h
follows_in at_rpl t h = turn_in t h
follows_in (at_name f) t h = subst In (sym h) tt

all_get : (p : ℕ → Bool) (t : List ℕ) → AllByRecursion (λ b. p b ≡ true) t → (k : ℕ) → k < length t → p (get_or t k 0) ≡ true
all_get p [] h k l = absurd (omega arith)
all_get p (b ∷ t) h zero l = h.0
all_get p (b ∷ t) h (suc k) l = all_get p t h.1 k (omega arith)

pub shaped_clean : (w : List ℕ) (a : Address) → Follows a (tail_of w) → Clean w
shaped_clean w a h k l =
    ⊎_elim
    (λ low. letter_in (get_or w k 0) (leading_all is_ascii_alphabetic w k low))
    (λ high.
    let n = letters_of w in
    let back : letters_of w + (k - letters_of w) ≡ k = omega arith in
    ap (λ i. in_word (get_or w i 0)) (sym back) ∙ ap in_word (sym (get_or-drop n w (k - n) 0)) ∙ all_get in_word (tail_of w) (follows_in a (tail_of w) h) (k - n) (omega (arith, length-drop n w)))
    (cases_lt k (letters_of w))

-- an N and a code

digit_no_letter : (b : ℕ) → is_ascii_digit b ≡ true → is_ascii_alphabetic b ≡ false
digit_no_letter b d = grind (arith, nat_tests)

first_digit : (r : List ℕ) → IsCode r → is_ascii_alphabetic (get_or r 0 0) ≡ false
first_digit r h = digit_no_letter (get_or r 0 0) (all_get is_ascii_digit r h.only 0 h.some)

no_letters : (r : List ℕ) → IsCode r → prefix_len is_ascii_alphabetic r ≡ 0
no_letters r h = leading_is is_ascii_alphabetic r 0 (omega arith) (λ k l. absurd (omega arith)) (λ l. first_digit r h)

one_letter : (b : ℕ) (r : List ℕ) → is_ascii_alphabetic b ≡ true → IsCode r → letters_of (b ∷ r) ≡ 1
one_letter b r y h = ap (λ z. cond z (1 + prefix_len is_ascii_alphabetic r) 0) y ∙ ap (λ n. 1 + n) (no_letters r h)

-- N or n
n_letter : (b : ℕ) → (b ≡ 78) ⊎ (b ≡ 110) → (is_ascii_alphabetic b ≡ true) × (to_ascii_uppercase b ≡ 78)
n_letter b n = ⊎_elim (λ e. (ap is_ascii_alphabetic e, ap to_ascii_uppercase e)) (λ e. (ap is_ascii_alphabetic e, ap to_ascii_uppercase e)) n

pub n_word : (w r : List ℕ) (b : ℕ) → w ≡ b ∷ r → (b ≡ 78) ⊎ (b ≡ 110) → IsCode r → NWord w
n_word w r b e n h =
    let y = n_letter b n in
    let one = one_letter b r y.0 h in
    subst NWord (sym e) (subst (λ n. (map to_ascii_uppercase (take n (b ∷ r)) ≡ 78 ∷ []) × IsCode (drop n (b ∷ r))) (sym one) (ap (λ v. v ∷ []) y.1, h))
