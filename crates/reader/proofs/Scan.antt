-- What one reading keeps and finds, over the block's bytes.
use Rattle.std.proofs.Common.{◌≡◌, ℕ, ◌+◌, ◌-◌, ◌<◌, ◌≤◌, ◌⊎◌, List, length, get_or, take, drop, refl, ap, ◌∙◌, subst, inl, inr, ⊎_elim, arith}
use Rattle.std.proofs.lemmas.List.{take_rest, get_or-drop, length-take-le, length-drop}
use Rattle.std.proofs.lemmas.Bool.{cases_lt, cases_eq}
use Rattle.reader.specs.Runs.{Stop, Plain, IsRun, Fresh, Apart}
use Rattle.reader.specs.Pieces.{Ended, RunRead, CommentRead}

-- `&bytes[p..]` as the checker reads it
abbrev pub rest : List ℕ → ℕ → List ℕ
rest bs p = take (length bs - p) (drop p bs)

pub rest_at : (bs : List ℕ) (p j : ℕ) → get_or (rest bs p) j 0 ≡ get_or bs (p + j) 0
rest_at bs p j = ap (λ l. get_or l j 0) (take_rest bs p) ∙ get_or-drop p bs j 0

pub rest_length : (bs : List ℕ) (p : ℕ) → length (rest bs p) ≡ length bs - p
rest_length bs p = ap length (take_rest bs p) ∙ length-drop p bs

-- what holds of every place of a part holds of the block's places
pub moved : (P : ℕ → Type 0) (bs : List ℕ) (p n : ℕ) → ((j : ℕ) → j < n → P (get_or (rest bs p) j 0)) → (k : ℕ) → p ≤ k → k < p + n → P (get_or bs k 0)
moved P bs p n h k low high =
    let back : p + (k - p) ≡ k = omega arith in
    subst P (rest_at bs p (k - p) ∙ ap (λ i. get_or bs i 0) back) (h (k - p) (omega arith))

-- the bytes from p to q are spaces, and none stands at q
pub record Skipped (bs : List ℕ) (p q : ℕ) : Type 0 where
  pub from : p ≤ q
  pub within : q ≤ length bs
  pub spaces : (k : ℕ) → p ≤ k → k < q → get_or bs k 0 ≡ 32
  pub stops : q < length bs → get_or bs q 0 ≡ 32 → ⊥

pub skipped : (bs : List ℕ) (p n : ℕ) → p ≤ length bs → n ≤ length (rest bs p) → ((j : ℕ) → j < n → get_or (rest bs p) j 0 ≡ 32) → (n < length (rest bs p) → get_or (rest bs p) n 0 ≡ 32 → ⊥) → Skipped bs p (p + n)
skipped bs p n in' fits all stops =
    let long = rest_length bs p in
    record {
      from = omega arith;
      within = omega arith;
      spaces = moved (λ b. b ≡ 32) bs p n all;
      stops = λ lt e. stops (omega arith) (rest_at bs p n ∙ e);
    }

stop_or_not : (b : ℕ) → Stop b ⊎ (Stop b → ⊥)
stop_or_not b =
    ⊎_elim (λ e. inl (inl e)) (λ n. ⊎_elim (λ e. inl (inr e)) (λ m. inr (⊎_elim n m)) (cases_eq b 59)) (cases_eq b 32)

module _ {bs : List ℕ} {p q : ℕ} (skip : Skipped bs p q) where
  pub fresh_on : Fresh bs p → q < length bs → Plain bs q
  fresh_on f lt k h e =
      ⊎_elim (λ low. f (omega (arith, skip.from)) k low e) (λ high. let s = skip.spaces k high h in omega arith) (cases_lt k p)

  pub later : (s e : ℕ) → IsRun bs s e → p ≤ s → q ≤ s
  later s e r h =
      ⊎_elim (λ low. absurd (r.free s (omega arith) r.some (inl (skip.spaces s h low)))) (λ high. high) (cases_lt s q)

  pub ended : q ≡ length bs → Ended bs p q
  ended e = record {
    end = e;
    no_run = λ s t r h. omega (arith, later s t r h, r.some, r.within);
    no_comment = λ s r h. ⊎_elim (λ low. omega (arith, skip.spaces s h low, r.marks)) (λ high. omega (arith, r.within)) (cases_lt s q);
  }

  pub commented : Fresh bs p → q < length bs → get_or bs q 0 ≡ 59 → CommentRead bs p (length bs) (rest bs q) q
  commented f lt e = record {
    from = skip.from;
    is_comment = record { within = lt; marks = e; before = fresh_on f lt };
    is_part = take_rest bs q;
    end = refl;
    no_run = λ s t r h. ⊎_elim (λ low. r.before q low e) (λ high. let same : q ≡ s = omega (arith, later s t r h) in r.free q (omega arith) (omega (arith, r.some)) (inr e)) (cases_lt q s);
  }

  module _ (m : ℕ) (lt : q < length bs) (not : get_or bs q 0 ≡ 59 → ⊥) (fits : m ≤ length (rest bs q)) (all : (j : ℕ) → j < m → Stop (get_or (rest bs q) j 0) → ⊥) (stops : m < length (rest bs q) → Stop (get_or (rest bs q) m 0)) (f : Fresh bs p) (a : Apart bs p) where
    here : Stop (get_or bs q 0) → ⊥
    here = ⊎_elim (skip.stops lt) not

    pub closed : q + m < length bs → Stop (get_or bs (q + m) 0)
    closed h = subst Stop (rest_at bs q m) (stops (omega (arith, rest_length bs q)))

    pub not_empty : 0 < m
    not_empty =
        ⊎_elim (λ h. h) (λ h. let none : q + m ≡ q = omega arith in absurd (here (subst (λ i. Stop (get_or bs i 0)) none (closed (omega arith))))) (cases_lt 0 m)

    pub inside : q + m ≤ length bs
    inside = omega (arith, rest_length bs q)

    opened : (k : ℕ) → k + 1 ≡ q → Stop (get_or bs k 0)
    opened k e =
        ⊎_elim
        (λ low. inl (skip.spaces k (omega arith) (omega arith)))
        (λ high.
        let same : q ≡ p = omega (arith, skip.from) in
        ⊎_elim (λ s. s) (λ no'. absurd (a (omega arith) k (omega arith) no' (subst (λ i. Stop (get_or bs i 0) → ⊥) same here))) (stop_or_not (get_or bs k 0)))
        (cases_lt p q)

    free : (k : ℕ) → q ≤ k → k < q + m → Stop (get_or bs k 0) → ⊥
    free = moved (λ b. Stop b → ⊥) bs q m all

    pub run_read : RunRead bs p (q + m) (take (q + m - q) (drop q bs)) q
    run_read = record {
      from = skip.from;
      is_run = record { some = omega (arith, not_empty); within = inside; free = free; opens = opened; closes = closed; before = fresh_on f lt };
      is_part = refl;
      size = let w = inside in let z : q + m - q ≤ length (drop q bs) = omega (arith, length-drop q bs) in omega (arith, length-take-le (q + m - q) (drop q bs) z);
      first = later;
    }

    pub fresh_after : Fresh bs (q + m)
    fresh_after h k low e = ⊎_elim (λ l. fresh_on f lt k l e) (λ g. free k g low (inr e)) (cases_lt k q)

    pub apart_after : Apart bs (q + m)
    apart_after h k e no1 no2 = no2 (closed h)
