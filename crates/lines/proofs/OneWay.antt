-- The lines of a text are the one way to part it.
use Rattle.std.proofs.Common.{◌≡◌, ℕ, ◌+◌, ◌<◌, Bool, true, false, cond, eqb, List, [], ◌∷◌, ◌++◌, length, sym, refl, ap, ◌∙◌, subst, inl, inr, arith, lit<, eqb-true}
use borrow.Author.Tests.{eqb-false}
use Rattle.std.proofs.lemmas.Bool.{cond-false, ne_eqb}
use Rattle.std.specs.Prelude.{◌≢◌}
use Rattle.lines.specs.Lines.{Line, NoEnd, in_front, lines_from, Lines}

other_byte : (k b : ℕ) (bs : List ℕ) → b ≢ 10 → lines_from k (b ∷ bs) ≡ in_front k b (lines_from (k + 1) bs)
other_byte k b bs h = cond-false (eqb b 10) _ _ (ne_eqb b 10 h)

-- a line that a byte 10 ends
pub ended_line : (bs rest : List ℕ) (k : ℕ) → NoEnd bs → lines_from k (bs ++ 10 ∷ rest) ≡ record { start = k; bytes = bs } ∷ lines_from (k + length bs + 1) rest
ended_line [] rest k h = ap (λ (n : ℕ). record { start = k; bytes = [] } ∷ lines_from n rest) (omega arith)
ended_line (b ∷ bs) rest k h =
    other_byte k b (bs ++ 10 ∷ rest) h.0 ∙
    ap (in_front k b) (ended_line bs rest (k + 1) h.1) ∙
    ap (λ (n : ℕ). record { start = k; bytes = b ∷ bs } ∷ lines_from n rest) (omega arith)

-- the last line without one
pub last_line : (bs : List ℕ) (k : ℕ) → NoEnd bs → 0 < length bs → lines_from k bs ≡ record { start = k; bytes = bs } ∷ []
last_line [] k h l = absurd (omega arith)
last_line (b ∷ []) k h l = other_byte k b [] h.0
last_line (b ∷ c ∷ bs) k h l = other_byte k b (c ∷ bs) h.0 ∙ ap (in_front k b) (last_line (c ∷ bs) (k + 1) h.1 (omega arith))

-- every text has them
one_more : (k b : ℕ) (bs : List ℕ) (ls : List Line) → b ≢ 10 → Lines (k + 1) bs ls → Lines k (b ∷ bs) (in_front k b ls)
one_more k b bs [] h e = (refl, (h, tt), inr (ap (λ (x : List ℕ). b ∷ x) e, lit< tt, refl))
one_more k b bs (l ∷ ls) h (s, f, inl (rest, e, more)) =
    (refl, (h, f), inl (rest, ap (λ (x : List ℕ). b ∷ x) e, subst (λ (n : ℕ). Lines n rest ls) (omega arith) more))
one_more k b bs (l ∷ ls) h (s, f, inr (e, some, none)) = (refl, (h, f), inr (ap (λ (x : List ℕ). b ∷ x) e, omega arith, none))

by_byte : (k b : ℕ) (bs : List ℕ) (t : Bool) → eqb b 10 ≡ t → Lines (k + 1) bs (lines_from (k + 1) bs) → Lines k (b ∷ bs) (cond t (record { start = k; bytes = [] } ∷ lines_from (k + 1) bs) (in_front k b (lines_from (k + 1) bs)))
by_byte k b bs true e h = (refl, tt, inl (bs, ap (λ (x : ℕ). x ∷ bs) (eqb-true b 10 e), subst (λ (n : ℕ). Lines n bs (lines_from (k + 1) bs)) (omega arith) h))
by_byte k b bs false e h = one_more k b bs (lines_from (k + 1) bs) (eqb-false b 10 e) h

pub lines_are : (k : ℕ) (text : List ℕ) → Lines k text (lines_from k text)
lines_are k [] = refl
lines_are k (b ∷ bs) = by_byte k b bs (eqb b 10) refl (lines_are (k + 1) bs)

-- and no others
line_as : (l : Line) (k : ℕ) → l.start ≡ k → l ≡ record { start = k; bytes = l.bytes }
line_as l k e = λ i. record { start = e i; bytes = l.bytes }

pub lines_only : (ls : List Line) (k : ℕ) (text : List ℕ) → Lines k text ls → ls ≡ lines_from k text
lines_only [] k text e = ap (lines_from k) (sym e)
lines_only (l ∷ ls) k text (s, f, inl (rest, e, more)) =
    (λ i. line_as l k s i ∷ lines_only ls (k + length l.bytes + 1) rest more i) ∙ sym (ended_line l.bytes rest k f) ∙ ap (lines_from k) (sym e)
lines_only (l ∷ ls) k text (s, f, inr (e, some, none)) =
    (λ i. line_as l k s i ∷ none i) ∙ sym (last_line l.bytes k f some) ∙ ap (lines_from k) (sym e)
