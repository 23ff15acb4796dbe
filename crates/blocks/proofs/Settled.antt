-- What the words up to a place say, turn by turn.
use Rattle.std.proofs.Common.{◌≡◌, ℕ, zero, suc, ◌<◌, ◌≤◌, true, false, cond, List, ◌∷◌, length, Ok, Err, ap, ◌∙◌, ⊎_elim, arith}
use Rattle.std.proofs.lemmas.Bool.{cases_lt, cases_Bool}
use Rattle.units.specs.declared.fault.Fault.{Fault}
use Rattle.units.specs.declared.fault.Fault.TheVariants.{Repeated}
use Rattle.reader.specs.declared.types.Item.{Item}
use Rattle.reader.specs.Runs.{IsRun}
use Rattle.reader.specs.Pieces.{RunRead}
use Rattle.reader.specs.Words.{ItemIs, Declined}
use Rattle.reader.specs.WordList.{starts, word_at, words}
use Rattle.reader.specs.Reading.{reading}
use Rattle.reader.proofs.Listed.{words_on, words_read}
use Rattle.reader.proofs.Says.{reads_right, reads_wrong}
use Rattle.blocks.specs.Found.{repeated}
use Rattle.blocks.specs.Block.{go_on, settle}

module _ (bs : List ℕ) where
  -- a fault stays
  stays : (f : Fault) (n p : ℕ) → p ≤ n → settle (words bs p) ≡ Err f → settle (words bs n) ≡ Err f
  stays f zero p l e = let z : zero ≡ p = omega arith in ap (λ k. settle (words bs k)) z ∙ e
  stays f (suc n) p l e =
      ⊎_elim
      (λ low.
      let lq : p ≤ n = omega arith in
      let h = stays f n p lq e in
      ⊎_elim
      (λ y. ap (λ b. settle (cond b (record { at = n; text = word_at bs n } ∷ words bs n) (words bs n))) y ∙ ap (λ r. go_on r (reading (word_at bs n) n)) h)
      (λ m. ap (λ b. settle (cond b (record { at = n; text = word_at bs n } ∷ words bs n) (words bs n))) m ∙ h)
      (cases_Bool (starts bs n)))
      (λ high. let z : suc n ≡ p = omega arith in ap (λ k. settle (words bs k)) z ∙ e)
      (cases_lt p (suc n))

  pub settle_on : (q p : ℕ) (ws : List Item) → p ≤ q → q ≤ length bs → ((s e : ℕ) → IsRun bs s e → p ≤ s → s < q → ⊥) → settle (words bs p) ≡ Ok ws → settle (words bs q) ≡ Ok ws
  settle_on q p ws l in' h e = ap settle (words_on bs q p l in' h) ∙ e

  module _ (p q at : ℕ) (t : List ℕ) (ws : List Item) (r : RunRead bs p q t at) (e : settle (words bs p) ≡ Ok ws) where
    one : settle (words bs q) ≡ go_on (Ok ws) (reading t at)
    one = ap settle (words_read bs p q at t r) ∙ ap (λ s. go_on s (reading t at)) e

    pub settle_word : (x : Item) → ItemIs t at x → repeated ws x.says ≡ false → settle (words bs q) ≡ Ok (x ∷ ws)
    settle_word x i n = one ∙ ap (go_on (Ok ws)) (reads_right t at x i) ∙ ap (λ b. cond b (Err (Repeated x.place)) (Ok (x ∷ ws))) n

    pub settle_wrong : (f : Fault) → Declined t at f → settle (words bs (length bs)) ≡ Err f
    settle_wrong f d = stays f (length bs) q r.is_run.within (one ∙ ap (go_on (Ok ws)) (reads_wrong t at f d))

    pub settle_again : (x : Item) → ItemIs t at x → repeated ws x.says ≡ true → settle (words bs (length bs)) ≡ Err (Repeated x.place)
    settle_again x i y = stays (Repeated x.place) (length bs) q r.is_run.within (one ∙ ap (go_on (Ok ws)) (reads_right t at x i) ∙ ap (λ b. cond b (Err (Repeated x.place)) (Ok (x ∷ ws))) y)
