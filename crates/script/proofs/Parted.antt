-- A word cut off a line at its first space.
use Rattle.std.proofs.Common.{◌≡◌, ℕ, suc, ◌+◌, ◌-◌, ◌<◌, ◌==◌, List, ◌∷◌, ◌++◌, length, get_or, take, drop, Some, Option, sym, ap, ◌∙◌, subst, arith, take-append-drop, length-take, length-drop, drop-cons, get_or-take, add-one}
use Rattle.std.specs.List.{position}
use Rattle.std.proofs.lemmas.Bool.{eqb-true, eqb-false}
use Rattle.std.proofs.lemmas.List.Quantifiers.{position-Some}
use Rattle.std.proofs.lemmas.List.{take_all}
use Rattle.script.specs.Words.{NoSpace, Took}

behind : (line : List ℕ) (n : ℕ) → n < length line → get_or line n 0 ≡ 32 → drop n line ≡ 32 ∷ take (length line - (n + 1)) (drop (n + 1) line)
behind line n h s =
    let d = length-drop (n + 1) line in
    let t = take_all (length line - (n + 1)) (drop (n + 1) line) (omega arith) in
    drop-cons line n 0 h ∙ ap (λ (x : ℕ). x ∷ drop (suc n) line) s ∙ ap (λ (l : List ℕ). 32 ∷ l) (ap (λ (k : ℕ). drop k line) (sym (add-one n)) ∙ sym t)

-- of the first space, at n
pub parted : (line : List ℕ) (n : ℕ) (before : Option (List ℕ)) → before ≡ Some line → position (λ b. b == 32) line ≡ Some n → Took before (Some (take n line)) (Some (take (length line - (n + 1)) (drop (n + 1) line)))
parted line n before b e =
    let p = position-Some (λ b. b == 32) line n 0 e in
    let whole : line ≡ take n line ++ 32 ∷ take (length line - (n + 1)) (drop (n + 1) line) = sym (take-append-drop n line) ∙ ap (λ (l : List ℕ). take n line ++ l) (behind line n p.0 (eqb-true _ _ p.1)) in
    let none : NoSpace (take n line) = λ k l i. let t = length-take n line in let below : k < n = omega arith in eqb-false _ _ (p.2 k below) (sym (get_or-take n line k 0 below) ∙ i) in
    subst (λ (o : Option (List ℕ)). Took o (Some (take n line)) (Some (take (length line - (n + 1)) (drop (n + 1) line)))) (sym b) (whole, none)
