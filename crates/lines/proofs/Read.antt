-- The line at the front of what is left of a text.
use Rattle.std.proofs.Common.{◌≡◌, ℕ, suc, ◌+◌, ◌<◌, ◌≤◌, Bool, true, false, cond, not, eqb, List, [], ◌∷◌, ◌++◌, length, get_or, take, drop, Some, None, Option, sym, refl, ap, ◌∙◌, subst, inl, inr, ⊎_elim, arith, min, length-drop, eqb-true}
use borrow.Author.Tests.{eqb-false, ltb-false}
use lib.Dec.{ltb}
use Rattle.std.specs.List.{position, position_or_len, before_first, after_first}
use Rattle.std.specs.Option.{unwrap_or}
use Rattle.std.proofs.lemmas.List.{drop-drop, drop_all, take_all, length-take-le}
use Rattle.std.proofs.lemmas.List.Sums.{prefix_len_stops, prefix_len-le-length, split_at_first}
use Rattle.std.proofs.lemmas.Bool.{cases_lt, not-false}
use Rattle.lines.specs.Lines.{NoEnd, lines_from, LineRead}
use Rattle.lines.proofs.OneWay.{ended_line, last_line}

abbrev pub ends : ℕ → Bool
ends b = eqb b 10

found_by : (n m : ℕ) (t : Bool) → ltb n m ≡ t → n ≤ m → unwrap_or (cond t (Some n) None) m ≡ n
found_by n m true e h = refl
found_by n m false e h = let g = ltb-false n m e in omega arith

-- the first byte 10, or the end
pub found_at : (bs : List ℕ) (n : ℕ) (o : Option ℕ) → n ≡ unwrap_or o (length bs) → o ≡ position ends bs → n ≡ position_or_len ends bs
found_at bs n o e f = e ∙ ap (λ (o : Option ℕ). unwrap_or o (length bs)) f ∙ found_by (position_or_len ends bs) (length bs) _ refl (prefix_len-le-length _ bs)

free_by : (b : ℕ) (bs : List ℕ) (t : Bool) → eqb b 10 ≡ t → NoEnd (before_first ends bs) → NoEnd (take (cond (not t) (1 + position_or_len ends bs) 0) (b ∷ bs))
free_by b bs true e h = tt
free_by b bs false e h = subst (λ (n : ℕ). NoEnd (take n (b ∷ bs))) {x = suc (position_or_len ends bs)} (omega arith) (eqb-false b 10 e, h)

free : (bs : List ℕ) → NoEnd (before_first ends bs)
free [] = tt
free (b ∷ bs) = free_by b bs (eqb b 10) refl (free bs)

with_end : (bs : List ℕ) → position_or_len ends bs < length bs → bs ≡ before_first ends bs ++ 10 ∷ after_first ends bs
with_end bs h =
    split_at_first ends bs 0 h ∙ ap (λ (b : ℕ). before_first ends bs ++ b ∷ after_first ends bs) (eqb-true (get_or bs (position_or_len ends bs) 0) 10 (not-false _ (prefix_len_stops (λ b. not (ends b)) bs 0 h)))

-- the line at p, whose length is n, where the next begins at q
module _ (text : List ℕ) (p n q : ℕ) (in' : p < length text) (first : n ≡ position_or_len ends (drop p text)) (next : q ≡ min (p + n + 1) (length text)) where
  abbrev left : List ℕ
  left = drop p text

  abbrev line : List ℕ
  line = before_first ends left

  ended : position_or_len ends left < length left → LineRead text p q line
  ended h =
      let size = length-drop p text in
      let long : length line ≡ n = length-take-le (position_or_len ends left) left (omega arith) ∙ sym first in
      let behind : after_first ends left ≡ drop q text = drop-drop (position_or_len ends left + 1) p text ∙ ap (λ (k : ℕ). drop k text) (omega arith) in
      let whole : left ≡ line ++ 10 ∷ drop q text = with_end left h ∙ ap (λ (l : List ℕ). line ++ 10 ∷ l) behind in
      record {
        on = omega arith;
        within = omega arith;
        free = free left;
        cut = inl whole;
        lines =
            ap (lines_from p) whole ∙
            ended_line line (drop q text) p (free left) ∙
            ap (λ (k : ℕ). record { start = p; bytes = line } ∷ lines_from k (drop q text)) (omega arith);
      }

  last : length left ≤ position_or_len ends left → LineRead text p q line
  last h =
      let size = length-drop p text in
      let most = prefix_len-le-length (λ b. not (ends b)) left in
      let all : line ≡ left = take_all (position_or_len ends left) left h in
      let none : drop q text ≡ [] = drop_all q text (omega arith) in
      record {
        on = omega arith;
        within = omega arith;
        free = free left;
        cut = inr (sym all, none);
        lines =
            ap (lines_from p) (sym all) ∙
            last_line line p (free left) (omega (arith, ap length all)) ∙
            ap (λ (l : List ℕ). record { start = p; bytes = line } ∷ lines_from q l) (sym none);
      }

  pub read : (part : List ℕ) → part ≡ take n left → LineRead text p q part
  read part e = subst (LineRead text p q) (sym (e ∙ ap (λ (k : ℕ). take k left) first)) (⊎_elim ended last (cases_lt (position_or_len ends left) (length left)))
