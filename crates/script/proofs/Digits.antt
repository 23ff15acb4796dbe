-- Reading digits one by one.
use Rattle.std.proofs.Common.{◌≡◌, ℕ, suc, ◌+◌, ◌-◌, ◌*◌, ◌<◌, ◌≤◌, Bool, true, false, cond, ◌&&◌, leb, List, [], ◌∷◌, length, get_or, drop, Some, None, refl, ap, ◌∙◌, arith, drop-cons, leb-false}
use borrow.Author.Tests.{lt-leb}
use Rattle.script.specs.Numbers.{is_digit, all_digits, value_from, magnitude_from, magnitude_of, extended_by}

grows : (n : ℕ) (bs : List ℕ) → n ≤ value_from n bs
grows n [] = omega arith
grows n (b ∷ bs) = let h = grows (10 * n + (b - 48)) bs in omega arith

and_false : (b : Bool) → (b && false) ≡ false
and_false true = refl
and_false false = refl

none_above : (most n : ℕ) (bs : List ℕ) → most < n → magnitude_from most n bs ≡ None
none_above most n bs h =
    let g = grows n bs in
    let e : leb (value_from n bs) most ≡ false = lt-leb _ _ (omega arith) in
    ap (λ (t : Bool). cond (all_digits bs && t) (Some (value_from n bs)) None) e ∙ ap (λ (t : Bool). cond t (Some (value_from n bs)) None) (and_false (all_digits bs))

no_more : (most n b : ℕ) (bs : List ℕ) (d l : Bool) → is_digit b ≡ d → leb (10 * n + (b - 48)) most ≡ l → cond ((d && true) && l) (Some (10 * n + (b - 48))) None ≡ None → magnitude_from most n (b ∷ bs) ≡ None
no_more most n b bs true true d l e = let z : ◌≡◌ {A = ℕ} 0 1 = cc in absurd (omega arith)
no_more most n b bs true false d l e =
    ap (λ (t : Bool). cond ((t && all_digits bs) && leb (value_from (10 * n + (b - 48)) bs) most) (Some (value_from (10 * n + (b - 48)) bs)) None) d ∙ none_above most (10 * n + (b - 48)) bs (leb-false _ _ l)
no_more most n b bs false l d k e = ap (λ (t : Bool). cond ((t && all_digits bs) && leb (value_from (10 * n + (b - 48)) bs) most) (Some (value_from (10 * n + (b - 48)) bs)) None) d

pub stopped : (most n i : ℕ) (ds : List ℕ) → i < length ds → extended_by most n (get_or ds i 0) ≡ None → magnitude_from most n (drop i ds) ≡ None
stopped most n i ds h e =
    ap (magnitude_from most n) (drop-cons ds i 0 h) ∙
    no_more most n (get_or ds i 0) (drop (suc i) ds) (is_digit (get_or ds i 0)) (leb (10 * n + (get_or ds i 0 - 48)) most) refl refl e

pub begins : (most : ℕ) (ds : List ℕ) → 0 < length ds → magnitude_of most ds ≡ magnitude_from most 0 ds
begins most [] h = absurd (omega arith)
begins most (b ∷ bs) h = refl
