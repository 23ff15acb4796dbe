-- One call more of a shift.
use Rattle.std.proofs.Common.{◌≡◌, ℕ, ◌+◌, ◌<◌, List, [], ◌∷◌, ◌++◌, length, get_or, take, sym, refl, ap, ◌∙◌, subst}
use Rattle.std.proofs.lemmas.List.{take_more}
use Rattle.translator.specs.State.{State}
use Rattle.shifts.specs.declared.call.Call.{Call}
use Rattle.shifts.specs.declared.call.Seen.{Seen}
use Rattle.shifts.specs.Calls.{left_after, Shown, ShownAll, left_all, Replied}

shown_more : (s : State) (cs : List Call) (rs : List Seen) (c : Call) (r : Seen) → ShownAll s cs rs → Shown (left_all s cs) c r → ShownAll s (cs ++ c ∷ []) (rs ++ r ∷ [])
shown_more s [] [] c r h w = (w, tt)
shown_more s [] (y ∷ rs) c r h w = absurd h
shown_more s (x ∷ cs) [] c r h w = absurd h
shown_more s (x ∷ cs) (y ∷ rs) c r h w = (h.0, shown_more (left_after s x) cs rs c r h.1 w)

left_more : (s : State) (cs : List Call) (c : Call) → left_all s (cs ++ c ∷ []) ≡ left_after (left_all s cs) c
left_more s [] c = refl
left_more s (x ∷ cs) c = left_more (left_after s x) cs c

snoc : (s t u : State) (cs : List Call) (rs : List Seen) (c : Call) (r : Seen) → Replied s cs rs t → Shown t c r → u ≡ left_after t c → Replied s (cs ++ c ∷ []) (rs ++ r ∷ []) u
snoc s t u cs rs c r h w l = record {
  shown = shown_more s cs rs c r h.shown (subst (λ (z : State). Shown z c r) h.left w);
  left = l ∙ ap (λ (z : State). left_after z c) h.left ∙ sym (left_more s cs c);
}

pub one_more : (s t u : State) (calls : List Call) (i : ℕ) (c d : Call) (rs next : List Seen) (r : Seen) → i < length calls → c ≡ get_or calls i d → Replied s (take i calls) rs t → Shown t c r → u ≡ left_after t c → next ≡ rs ++ r ∷ [] → Replied s (take (i + 1) calls) next u
one_more s t u calls i c d rs next r lt e h w l n =
    let whole : take i calls ++ c ∷ [] ≡ take (i + 1) calls = ap (λ (z : Call). take i calls ++ z ∷ []) e ∙ sym (take_more calls i d lt) in
    subst (λ (z : List Call). Replied s z next u) whole (subst (λ (z : List Seen). Replied s (take i calls ++ c ∷ []) z u) (sym n) (snoc s t u (take i calls) rs c r h w l))
