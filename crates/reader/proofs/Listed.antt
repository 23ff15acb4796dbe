-- The list of words has the maximal runs.
use Rattle.std.proofs.Common.{◌≡◌, ℕ, zero, suc, ◌+◌, ◌-◌, ◌<◌, ◌≤◌, Bool, true, false, cond, not, ◌&&◌, ◌||◌, T, eqb, ◌⊎◌, List, [], ◌∷◌, length, get_or, take, drop, sym, refl, ap, ◌∙◌, subst, inl, inr, ⊎_elim, add-one, one-add, arith, eqb→eq, length-drop}
use Rattle.std.specs.List.{prefix_len}
use Rattle.std.proofs.lemmas.List.{get_or-drop}
use Rattle.std.proofs.lemmas.List.Sums.{prefix_len-le-length}
use Rattle.std.proofs.lemmas.Bool.{cases_lt, false≢true}
use Rattle.reader.specs.Runs.{Stop, Plain, IsRun}
use Rattle.reader.specs.Pieces.{RunRead}
use Rattle.reader.specs.WordList.{is_stop, plain, opens, starts, word_at, words}

-- no word begins inside another
none_inside : (bs : List ℕ) (s e p q : ℕ) → IsRun bs p q → IsRun bs s e → p < s → s < q → ⊥
none_inside bs s e p q a b l g = let back : s - 1 + 1 ≡ s = omega arith in a.free (s - 1) (omega arith) (omega arith) (b.opens (s - 1) back)

split : (b : Bool) → (b ≡ true) ⊎ (b ≡ false)
split true = inl refl
split false = inr refl

both : (a b : Bool) → (a && b) ≡ true → (a ≡ true) × (b ≡ true)
both true b e = (refl, e)
both false b e = absurd (false≢true e)

negated : (a : Bool) → not a ≡ true → a ≡ false
negated true e = absurd (false≢true e)
negated false e = refl

eq_is : (a b : ℕ) → eqb a b ≡ true → a ≡ b
eq_is a b e = eqb→eq a b (subst T (sym e) tt)

stop_yes : (b : ℕ) → Stop b → is_stop b ≡ true
stop_yes b (inl e) = subst (λ x. is_stop x ≡ true) (sym e) refl
stop_yes b (inr e) = subst (λ x. is_stop x ≡ true) (sym e) refl

stop_is : (b : ℕ) → is_stop b ≡ true → Stop b
stop_is b e =
    ⊎_elim
    (λ y. inl (eq_is b 32 y))
    (λ n. inr (eq_is b 59 (sym (ap (λ x. x || eqb b 59) n) ∙ e)))
    (split (eqb b 32))

stop_no : (b : ℕ) → (Stop b → ⊥) → is_stop b ≡ false
stop_no b n = ⊎_elim (λ e. absurd (n (stop_is b e))) (λ e. e) (split (is_stop b))

semi_is : (b : ℕ) → not (eqb b 59) ≡ true → b ≡ 59 → ⊥
semi_is b e f = false≢true (sym (subst (λ x. not (eqb x 59) ≡ false) (sym f) refl) ∙ e)

semi_no : (b : ℕ) → (b ≡ 59 → ⊥) → not (eqb b 59) ≡ true
semi_no b n = ⊎_elim (λ y. absurd (n (eq_is b 59 y))) (λ m. ap not m) (split (eqb b 59))

module _ (bs : List ℕ) where
  plain_yes : (s : ℕ) → Plain bs s → plain bs s ≡ true
  plain_yes zero h = refl
  plain_yes (suc k) h = ap (λ b. b && plain bs k) (semi_no (get_or bs k 0) (h k (omega arith))) ∙ plain_yes k (λ j l. h j (omega arith))

  plain_is : (s : ℕ) → plain bs s ≡ true → Plain bs s
  plain_is zero e k l = absurd (omega arith)
  plain_is (suc n) e k l =
      let p = both (not (eqb (get_or bs n 0) 59)) (plain bs n) e in
      ⊎_elim (λ low. plain_is n p.1 k low) (λ high. let same : n ≡ k = omega arith in subst (λ i. get_or bs i 0 ≡ 59 → ⊥) same (semi_is (get_or bs n 0) p.0)) (cases_lt k n)

  opens_yes : (s : ℕ) → ((k : ℕ) → k + 1 ≡ s → Stop (get_or bs k 0)) → opens bs s ≡ true
  opens_yes zero h = refl
  opens_yes (suc k) h = stop_yes (get_or bs k 0) (h k (add-one k))

  opens_is : (s : ℕ) → opens bs s ≡ true → (k : ℕ) → k + 1 ≡ s → Stop (get_or bs k 0)
  opens_is zero e k h = absurd (omega arith)
  opens_is (suc n) e k h = let same : n ≡ k = omega arith in subst (λ i. Stop (get_or bs i 0)) same (stop_is (get_or bs n 0) e)

  pub run_starts : (s e : ℕ) → IsRun bs s e → starts bs s ≡ true
  run_starts s e r =
      ap (λ b. not b && (opens bs s && plain bs s)) (stop_no (get_or bs s 0) (r.free s (omega arith) r.some))
      ∙ ap (λ b. b && plain bs s) (opens_yes s r.opens)
      ∙ plain_yes s r.before

pub leading_is : (p : ℕ → Bool) (xs : List ℕ) (n : ℕ) → n ≤ length xs → ((k : ℕ) → k < n → p (get_or xs k 0) ≡ true) → (n < length xs → p (get_or xs n 0) ≡ false) → prefix_len p xs ≡ n
leading_is p [] n l all ends = omega arith
leading_is p (x ∷ xs) zero l all ends = ap (λ b. cond b (1 + prefix_len p xs) 0) (ends (omega arith))
leading_is p (x ∷ xs) (suc n) l all ends =
    let rest = leading_is p xs n (omega arith) (λ k h. all (suc k) (omega arith)) (λ h. ends (omega arith)) in
    ap (λ b. cond b (1 + prefix_len p xs) 0) (all 0 (omega arith)) ∙ omega arith

cons_yes : (p : ℕ → Bool) (x : ℕ) (xs : List ℕ) → p x ≡ true → prefix_len p (x ∷ xs) ≡ suc (prefix_len p xs)
cons_yes p x xs y = ap (λ b. cond b (1 + prefix_len p xs) 0) y ∙ one-add (prefix_len p xs)

cons_no : (p : ℕ → Bool) (x : ℕ) (xs : List ℕ) → p x ≡ false → prefix_len p (x ∷ xs) ≡ 0
cons_no p x xs n = ap (λ b. cond b (1 + prefix_len p xs) 0) n

cons_all : (p : ℕ → Bool) (x : ℕ) (xs : List ℕ) → ((k : ℕ) → k < prefix_len p xs → p (get_or xs k 0) ≡ true) → p x ≡ true → (j : ℕ) → j < suc (prefix_len p xs) → p (get_or (x ∷ xs) j 0) ≡ true
cons_all p x xs h y zero l = y
cons_all p x xs h y (suc j) l = h j (omega arith)

pub leading_all : (p : ℕ → Bool) (xs : List ℕ) (k : ℕ) → k < prefix_len p xs → p (get_or xs k 0) ≡ true
leading_all p [] k l = absurd (omega arith)
leading_all p (x ∷ xs) k l =
    ⊎_elim
    (λ y. cons_all p x xs (λ j h. leading_all p xs j h) y k (subst (λ n. k < n) (cons_yes p x xs y) l))
    (λ n. absurd (omega (arith, cons_no p x xs n)))
    (split (p x))

pub leading_stop : (p : ℕ → Bool) (xs : List ℕ) → prefix_len p xs < length xs → p (get_or xs (prefix_len p xs) 0) ≡ false
leading_stop p [] l = absurd (omega arith)
leading_stop p (x ∷ xs) l =
    ⊎_elim
    (λ y. subst (λ n. p (get_or (x ∷ xs) n 0) ≡ false) (sym (cons_yes p x xs y)) (leading_stop p xs (omega (arith, cons_yes p x xs y))))
    (λ n. subst (λ m. p (get_or (x ∷ xs) m 0) ≡ false) (sym (cons_no p x xs n)) n)
    (split (p x))

at_zero : (s : ℕ) → s + 0 ≡ s
at_zero s = omega arith

unfree : (b : ℕ) → not (is_stop b) ≡ false → is_stop b ≡ true
unfree b e = ⊎_elim (λ y. y) (λ n. absurd (false≢true (sym e ∙ ap not n))) (split (is_stop b))

abbrev pub free : ℕ → Bool
free b = not (is_stop b)

module _ (bs : List ℕ) where
  pub run_reach : (s e : ℕ) → IsRun bs s e → prefix_len free (drop s bs) ≡ e - s
  run_reach s e r =
      let in' = r.within in
      let some = r.some in
      leading_is free (drop s bs) (e - s) (omega (arith, length-drop s bs))
      (λ k h. ap (λ b. free b) (get_or-drop s bs k 0) ∙ ap not (stop_no (get_or bs (s + k) 0) (r.free (s + k) (omega arith) (omega arith))))
      (λ h. ap (λ b. free b) (get_or-drop s bs (e - s) 0) ∙ ap not (stop_yes (get_or bs (s + (e - s)) 0) (let same : e ≡ s + (e - s) = omega arith in subst (λ i. Stop (get_or bs i 0)) same (r.closes (omega (arith, length-drop s bs))))))

  pub run_text : (s e : ℕ) → IsRun bs s e → word_at bs s ≡ take (e - s) (drop s bs)
  run_text s e r = ap (λ n. take n (drop s bs)) (run_reach s e r)

  pub starts_run : (s : ℕ) → s < length bs → starts bs s ≡ true → IsRun bs s (s + prefix_len free (drop s bs))
  starts_run s l e =
      let n = prefix_len free (drop s bs) in
      let a = both (not (is_stop (get_or bs s 0))) (opens bs s && plain bs s) e in
      let b = both (opens bs s) (plain bs s) a.1 in
      let long = prefix_len-le-length free (drop s bs) in
      let size = length-drop s bs in
      let some : 0 < prefix_len free (drop s bs) = ⊎_elim (λ h. h) (λ h. let z : prefix_len free (drop s bs) ≡ 0 = omega arith in absurd (false≢true (sym (subst (λ i. free (get_or (drop s bs) i 0) ≡ false) z (leading_stop free (drop s bs) (omega arith))) ∙ (ap free (get_or-drop s bs 0 0) ∙ ap (λ i. free (get_or bs i 0)) (at_zero s) ∙ a.0)))) (cases_lt 0 (prefix_len free (drop s bs))) in
      record {
        some = omega arith;
        within = omega arith;
        free = λ k low high st. let back : s + (k - s) ≡ k = omega arith in false≢true (sym (ap not (stop_yes (get_or bs k 0) st)) ∙ (ap (λ i. free (get_or bs i 0)) (sym back) ∙ ap free (sym (get_or-drop s bs (k - s) 0)) ∙ leading_all free (drop s bs) (k - s) (omega arith)));
        opens = opens_is bs s b.0;
        closes = λ h. stop_is (get_or bs (s + prefix_len free (drop s bs)) 0) (unfree (get_or bs (s + prefix_len free (drop s bs)) 0) (ap free (sym (get_or-drop s bs (prefix_len free (drop s bs)) 0)) ∙ leading_stop free (drop s bs) (omega arith)));
        before = plain_is bs s b.1;
      }

  pub none_starts : (s : ℕ) → s < length bs → ((e : ℕ) → IsRun bs s e → ⊥) → starts bs s ≡ false
  none_starts s l h = ⊎_elim (λ y. absurd (h (s + prefix_len free (drop s bs)) (starts_run s l y))) (λ n. n) (split (starts bs s))

  -- where no word begins from p up to q, none is added
  pub words_on : (q p : ℕ) → p ≤ q → q ≤ length bs → ((s e : ℕ) → IsRun bs s e → p ≤ s → s < q → ⊥) → words bs q ≡ words bs p
  words_on zero p l in' h = let z : zero ≡ p = omega arith in ap (words bs) z
  words_on (suc q) p l in' h =
      ⊎_elim
      (λ low. let lq : p ≤ q = omega arith in ap (λ b. cond b (record { at = q; text = word_at bs q } ∷ words bs q) (words bs q)) (none_starts q (omega arith) (λ e r. h q e r lq (omega arith))) ∙ words_on q p lq (omega arith) (λ s e r a b. h s e r a (omega arith)))
      (λ high. let z : suc q ≡ p = omega arith in ap (words bs) z)
      (cases_lt p (suc q))

  words_at : (s e : ℕ) → IsRun bs s e → words bs (suc s) ≡ record { at = s; text = take (e - s) (drop s bs) } ∷ words bs s
  words_at s e r =
      ap (λ b. cond b (record { at = s; text = word_at bs s } ∷ words bs s) (words bs s)) (run_starts bs s e r)
      ∙ ap (λ t. record { at = s; text = t } ∷ words bs s) (run_text s e r)

  -- one reading adds the word that it gives
  pub words_read : (p q at : ℕ) (t : List ℕ) → RunRead bs p q t at → words bs q ≡ record { at = at; text = t } ∷ words bs p
  words_read p q at t r =
      let run = r.is_run in
      let in' = run.within in
      let some = run.some in
      let from = r.from in
      words_on q (suc at) (omega arith) in' (λ s e a low high. none_inside bs s e at q run a (omega arith) high)
      ∙ words_at at q run
      ∙ ap (λ u. record { at = at; text = u } ∷ words bs at) (sym r.is_part)
      ∙ ap (λ w. record { at = at; text = t } ∷ w) (words_on at p from (omega arith) (λ s e a low high. absurd (omega (arith, r.first s e a low))))
