-- The list of words has the maximal runs, and no other.
use Rattle.std.proofs.Common.{◌≡◌, ℕ, zero, suc, ◌+◌, ◌<◌, ◌≤◌, true, false, cond, List, ◌∷◌, length, drop, sym, ap, subst, inl, inr, ⊎_elim, arith}
use Rattle.std.specs.List.{prefix_len, AllByRecursion}
use Rattle.std.proofs.ByRecursion.{All-weaker}
use Rattle.std.proofs.lemmas.Bool.{cases_lt}
use Rattle.reader.specs.Runs.{IsRun, part}
use Rattle.reader.specs.WordList.{Run, starts, word_at, words}
use Rattle.reader.specs.Standing.{In, Later, Maximal, WordsStand}
use Rattle.reader.proofs.Fronts.{split}
use Rattle.reader.proofs.Listed.{free, run_starts, run_text, starts_run}

module _ (bs : List ℕ) where
  -- the two forms of the list at a place
  yes_at : (p : ℕ) → starts bs p ≡ true → words bs (suc p) ≡ record { at = p; text = word_at bs p } ∷ words bs p
  yes_at p y = ap (λ b. cond b (record { at = p; text = word_at bs p } ∷ words bs p) (words bs p)) y

  no_at : (p : ℕ) → starts bs p ≡ false → words bs (suc p) ≡ words bs p
  no_at p n = ap (λ b. cond b (record { at = p; text = word_at bs p } ∷ words bs p) (words bs p)) n

  maximal_here : (p : ℕ) → p < length bs → starts bs p ≡ true → Maximal bs (record { at = p; text = word_at bs p })
  maximal_here p l y = let run = starts_run bs p l y in record { end = p + prefix_len free (drop p bs); is_run = run; bytes = run_text bs p (p + prefix_len free (drop p bs)) run }

  only_to : (p : ℕ) → p ≤ length bs → (r : Run) → In (words bs p) r → Maximal bs r
  only_to zero l r i = absurd i
  only_to (suc p) l r i =
      ⊎_elim
      (λ y. ⊎_elim (λ e. subst (Maximal bs) e (maximal_here p (omega arith) y)) (λ j. only_to p (omega arith) r j) (subst (λ w. In w r) (yes_at p y) i))
      (λ n. only_to p (omega arith) r (subst (λ w. In w r) (no_at p n) i))
      (split (starts bs p))

  below : (p : ℕ) → AllByRecursion (λ r. r.at < p) (words bs p)
  below zero = tt
  below (suc p) =
      let rest = All-weaker (λ r. r.at < p) (λ r. r.at < suc p) (λ r l. omega arith) (words bs p) (below p) in
      ⊎_elim
      (λ y. subst (AllByRecursion (λ r. r.at < suc p)) (sym (yes_at p y)) (omega arith, rest))
      (λ n. subst (AllByRecursion (λ r. r.at < suc p)) (sym (no_at p n)) rest)
      (split (starts bs p))

  later_to : (p : ℕ) → Later (words bs p)
  later_to zero = tt
  later_to (suc p) =
      ⊎_elim
      (λ y. subst Later (sym (yes_at p y)) (below p, later_to p))
      (λ n. subst Later (sym (no_at p n)) (later_to p))
      (split (starts bs p))

  every_to : (p s e : ℕ) → IsRun bs s e → s < p → In (words bs p) (record { at = s; text = part bs s e })
  every_to zero s e r l = absurd (omega arith)
  every_to (suc p) s e r l =
      ⊎_elim
      (λ low.
      let h = every_to p s e r low in
      ⊎_elim (λ y. subst (λ w. In w (record { at = s; text = part bs s e })) (sym (yes_at p y)) (inr h)) (λ n. subst (λ w. In w (record { at = s; text = part bs s e })) (sym (no_at p n)) h) (split (starts bs p)))
      (λ high.
      let same : s ≡ p = omega arith in
      subst (λ k. In (words bs (suc k)) (record { at = s; text = part bs s e })) same (subst (λ w. In w (record { at = s; text = part bs s e })) (sym (yes_at s (run_starts bs s e r))) (inl (ap (λ t. record { at = s; text = t }) (run_text bs s e r)))))
      (cases_lt s p)

pub stand : WordsStand
stand bs = record {
  only = λ r i. only_to bs (length bs) (omega arith) r i;
  every = λ r m. subst (λ t. In (words bs (length bs)) (record { at = r.at; text = t })) (sym m.bytes) (every_to bs (length bs) r.at m.end m.is_run (omega (arith, m.is_run.some, m.is_run.within)));
  later = later_to bs (length bs);
}
