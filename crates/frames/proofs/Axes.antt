-- Loops over the three axes.
use Rattle.std.proofs.Common.{◌≡◌, ℕ, ◌+◌, ◌<◌, ◌≤◌, Bool, true, false, cond, ◌⊎◌, List, [], ◌∷◌, length, get_or, set, ℤ, pos, sym, ap, ◌∙◌, ap₂, inl, inr, arith, length-set}
use Rattle.std.proofs.lemmas.List.{get_or-set_same, get_or-set_other}
use Rattle.std.proofs.lemmas.Bool.{false≢true}
use borrow.Author.Count.{below_more}
use Rattle.chains.specs.declared.step.Step.{Step}
use Rattle.frames.specs.declared.image.Image.{Image}
use Rattle.frames.specs.Pushing.{coordinate, spread_of, new_at, new_spread, moved_at, moved_spread, through}
use Rattle.frames.specs.Axes.{GivesAt, new_axis}

abbrev pub SameAt : Image → Image → ℕ → Type 0
SameAt p q k = (coordinate q k ≡ coordinate p k) × (spread_of q k ≡ spread_of p k)

abbrev pub MovedAt : List Bool → Step → Image → Image → ℕ → Type 0
MovedAt m s p q k = (coordinate q k ≡ moved_at m s p k) × (spread_of q k ≡ moved_spread m s p k)

-- the moved axes of q below a are what calls gave, and the others are as in p
pub record Filled (post : ℕ → ℤ × ℕ → Type 0) (m : List Bool) (p q : Image) (a : ℕ) : Type 0 where
  pub done : (s : Step) → GivesAt post (new_axis s p) → (k : ℕ) → k < a → MovedAt m s p q k
  pub same : (k : ℕ) → (a ≤ k) ⊎ (get_or m k false ≡ false) → SameAt p q k
  pub long : length q.at ≡ 3
  pub wide : length q.spread ≡ 3

abbrev put : Image → ℕ → ℤ → ℕ → Image
put q a x r = record { at = set q.at a x; spread = set q.spread a r }

put_other : (q : Image) (a : ℕ) (x : ℤ) (r k : ℕ) → (k ≡ a → ⊥) → SameAt q (put q a x r) k
put_other q a x r k n = (get_or-set_other q.at a k x (pos 0) n, get_or-set_other q.spread a k r 0 n)

module _ (post : ℕ → ℤ × ℕ → Type 0) (m : List Bool) (p q : Image) (a : ℕ) (l : a < 3) (f : Filled post m p q a) where
  module _ (x : ℤ) (r : ℕ) (t : get_or m a false ≡ true) (h : post a (x, r)) where
    put_done : (s : Step) → GivesAt post (new_axis s p) → (k : ℕ) → k < a + 1 → MovedAt m s p (put q a x r) k
    put_done s g =
        let here = g a (x, r) l h in
        below_more (MovedAt m s p (put q a x r)) a
        (λ k b. let o = put_other q a x r k (λ z. absurd (omega arith)) in let w = f.done s g k b in (o.0 ∙ w.0, o.1 ∙ w.1)) (
          get_or-set_same q.at a x (pos 0) (omega arith) ∙ ap (λ (w : ℤ × ℕ). w.0) here ∙ sym (ap (λ (b : Bool). cond b (new_at s a p) (coordinate p a)) t),
          get_or-set_same q.spread a r 0 (omega arith) ∙ ap (λ (w : ℤ × ℕ). w.1) here ∙ sym (ap (λ (b : Bool). cond b (new_spread s a p) (spread_of p a)) t),
        )

    put_same : (k : ℕ) → (a + 1 ≤ k) ⊎ (get_or m k false ≡ false) → SameAt p (put q a x r) k
    put_same k (inl b) = let o = put_other q a x r k (λ z. absurd (omega arith)) in let w = f.same k (inl (omega arith)) in (o.0 ∙ w.0, o.1 ∙ w.1)
    put_same k (inr b) = let o = put_other q a x r k (λ z. false≢true (sym b ∙ ap (λ (j : ℕ). get_or m j false) z ∙ t)) in let w = f.same k (inr b) in (o.0 ∙ w.0, o.1 ∙ w.1)

    pub filled_put : Filled post m p (put q a x r) (a + 1)
    filled_put = record { done = put_done; same = put_same; long = length-set q.at a x ∙ f.long; wide = length-set q.spread a r ∙ f.wide }

  kept_done : get_or m a false ≡ false → (s : Step) → GivesAt post (new_axis s p) → (k : ℕ) → k < a + 1 → MovedAt m s p q k
  kept_done t s g =
      let w = f.same a (inr t) in
      below_more (MovedAt m s p q) a (f.done s g) (
        w.0 ∙ sym (ap (λ (b : Bool). cond b (new_at s a p) (coordinate p a)) t),
        w.1 ∙ sym (ap (λ (b : Bool). cond b (new_spread s a p) (spread_of p a)) t),
      )

  kept_same : (k : ℕ) → (a + 1 ≤ k) ⊎ (get_or m k false ≡ false) → SameAt p q k
  kept_same k (inl b) = f.same k (inl (omega arith))
  kept_same k (inr b) = f.same k (inr b)

  pub filled_kept : get_or m a false ≡ false → Filled post m p q (a + 1)
  filled_kept t = record { done = kept_done t; same = kept_same; long = f.long; wide = f.wide }

-- three elements are the list
from_three : {A : Type 0} (d : A) (l : List A) (x y z : A) → length l ≡ 3 → get_or l 0 d ≡ x → get_or l 1 d ≡ y → get_or l 2 d ≡ z → l ≡ x ∷ y ∷ z ∷ []
from_three d [] x y z n e f g = absurd (omega arith)
from_three d (u ∷ []) x y z n e f g = absurd (omega arith)
from_three d (u ∷ v ∷ []) x y z n e f g = absurd (omega arith)
from_three d (u ∷ v ∷ w ∷ []) x y z n e f g = λ i. e i ∷ f i ∷ g i ∷ []
from_three d (u ∷ v ∷ w ∷ t ∷ l) x y z n e f g = absurd (omega arith)

pub all_filled : (post : ℕ → ℤ × ℕ → Type 0) (m : List Bool) (p q : Image) (a : ℕ) → 3 ≤ a → Filled post m p q a → (s : Step) → GivesAt post (new_axis s p) → q ≡ through m s p
all_filled post m p q a l f s g =
    let x = f.done s g 0 (omega arith) in
    let y = f.done s g 1 (omega arith) in
    let z = f.done s g 2 (omega arith) in
    ap₂ (λ (u : List ℤ) (v : List ℕ). record { at = u; spread = v }) (from_three (pos 0) q.at _ _ _ f.long x.0 y.0 z.0) (from_three 0 q.spread _ _ _ f.wide x.1 y.1 z.1)
