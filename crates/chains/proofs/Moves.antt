-- The computed set of axes is the relation.
use Rattle.std.proofs.Common.{◌≡◌, ℕ, zero, suc, ◌<◌, Bool, true, false, ◌||◌, eqb, ◌⊎◌, List, [], ◌∷◌, get_or, sym, refl, ap, ◌∙◌, subst, inl, inr, arith, lit<, eq-eqb, eqb-true}
use Rattle.units.specs.declared.axis.Plane.{Plane}
use Rattle.units.specs.declared.axis.Plane.TheVariants.{Xy, Zx, Yz}
use Rattle.chains.specs.declared.step.Step.{Step}
use Rattle.chains.specs.declared.step.Step.TheVariants.{Offset, Scale, Mirror, Turn}
use Rattle.chains.specs.Steps.{first_of, second_of, JoinsAxes}
use Rattle.std.proofs.Math.Bool.{or-false}
use Rattle.std.proofs.Math.Logic.{⊎_map}
use Rattle.std.proofs.lemmas.Bool.{or_left, or_right, and_parts}
use Rattle.std.proofs.lemmas.Grind.{common_steps}
use Rattle.chains.specs.Joined.{Joins, Moved, by_name, by_turn, AllJoined, next_axis, joins_next, linked, reached, moved_by, moved_axes, MovedAxes}

-- of two joined axes both are reached or none
ring : (a b c across down : Bool) → reached a b c true across down ≡ reached b c a across down true
ring a b c across down = grind (arith, common_steps)

link_by : (l : ℕ → Bool) (n : List Bool) (a : ℕ) → a < 3 → l a ≡ true → moved_by l n a ≡ moved_by l n (next_axis a)
link_by l n zero h e = rw e (ring (get_or n 0 false) (get_or n 1 false) (get_or n 2 false) (l 1) (l 2))
link_by l n (suc zero) h e = rw e (ring (get_or n 1 false) (get_or n 2 false) (get_or n 0 false) (l 2) (l 0))
link_by l n (suc (suc zero)) h e = rw e (ring (get_or n 2 false) (get_or n 0 false) (get_or n 1 false) (l 0) (l 1))
link_by l n (suc (suc (suc a))) h e = absurd (omega arith)

three_at : (f : ℕ → Bool) (a : ℕ) → a < 3 → get_or (f 0 ∷ f 1 ∷ f 2 ∷ []) a false ≡ f a
three_at f zero h = refl
three_at f (suc zero) h = refl
three_at f (suc (suc zero)) h = refl
three_at f (suc (suc (suc a))) h = absurd (omega arith)

next_below : (a : ℕ) → next_axis a < 3
next_below zero = lit< tt
next_below (suc zero) = lit< tt
next_below (suc (suc a)) = lit< tt

second_is : (plane : Plane) → second_of plane ≡ next_axis (first_of plane)
second_is Xy = refl
second_is Zx = refl
second_is Yz = refl

first_below : (plane : Plane) → first_of plane < 3
first_below Xy = lit< tt
first_below Zx = lit< tt
first_below Yz = lit< tt

-- two axes are joined exactly where one is the next of the other and some turn goes from it
pub record Link (ss : List Step) (a b : ℕ) : Type 0 where
  pub below : a < 3
  pub next : b ≡ next_axis a
  pub turn : linked a ss ≡ true

step_link : (s : Step) (a b : ℕ) → JoinsAxes s a b → (Link (s ∷ []) a b) ⊎ (Link (s ∷ []) b a)
step_link (Offset by) a b j = absurd j
step_link (Scale by) a b j = absurd j
step_link (Mirror named) a b j = absurd j
step_link (Turn plane angle) a b (inl (e, f)) = inl (record {
  below = subst (λ (z : ℕ). z < 3) (sym e) (first_below plane);
  next = f ∙ second_is plane ∙ ap next_axis (sym e);
  turn = or_left (eqb (first_of plane) a) false (eq-eqb (first_of plane) a (sym e));
})
step_link (Turn plane angle) a b (inr (e, f)) = inr (record {
  below = subst (λ (z : ℕ). z < 3) (sym f) (first_below plane);
  next = e ∙ second_is plane ∙ ap next_axis (sym f);
  turn = or_left (eqb (first_of plane) b) false (eq-eqb (first_of plane) b (sym f));
})

here : (s : Step) (ss : List Step) (a b : ℕ) → Link (s ∷ []) a b → Link (s ∷ ss) a b
here s ss a b l = record { below = l.below; next = l.next; turn = or_left (joins_next a s) (linked a ss) (rw or-false at l.turn) }

there : (s : Step) (ss : List Step) (a b : ℕ) → Link ss a b → Link (s ∷ ss) a b
there s ss a b l = record { below = l.below; next = l.next; turn = or_right (joins_next a s) (linked a ss) l.turn }

links : (ss : List Step) (a b : ℕ) → Joins ss a b → (Link ss a b) ⊎ (Link ss b a)
links [] a b j = absurd j
links (s ∷ ss) a b (inl j) = ⊎_map (here s ss a b) (here s ss b a) (step_link s a b j)
links (s ∷ ss) a b (inr j) = ⊎_map (there s ss a b) (there s ss b a) (links ss a b j)

step_joins : (s : Step) (k : ℕ) → joins_next k s ≡ true → JoinsAxes s k (next_axis k) × JoinsAxes s (next_axis k) k
step_joins (Offset by) k e = absurd (let z : ◌≡◌ {A = ℕ} 0 1 = cc in omega arith)
step_joins (Scale by) k e = absurd (let z : ◌≡◌ {A = ℕ} 0 1 = cc in omega arith)
step_joins (Mirror named) k e = absurd (let z : ◌≡◌ {A = ℕ} 0 1 = cc in omega arith)
step_joins (Turn plane angle) k e =
    let f = eqb-true (first_of plane) k e in
    let n : next_axis k ≡ second_of plane = ap next_axis (sym f) ∙ sym (second_is plane) in
    (inl (sym f, n), inr (n, sym f))

or_by : (P : Type 0) (x y : Bool) → x || y ≡ true → (x ≡ true → P) → (y ≡ true → P) → P
or_by P true y e f g = f refl
or_by P false y e f g = g e

linked_joins : (ss : List Step) (k : ℕ) → linked k ss ≡ true → Joins ss k (next_axis k) × Joins ss (next_axis k) k
linked_joins [] k e = absurd (let z : ◌≡◌ {A = ℕ} 0 1 = cc in omega arith)
linked_joins (s ∷ ss) k e =
    or_by (Joins (s ∷ ss) k (next_axis k) × Joins (s ∷ ss) (next_axis k) k) (joins_next k s) (linked k ss) e
    (λ x. let j = step_joins s k x in (inl j.0, inl j.1))
    (λ x. let j = linked_joins ss k x in (inr j.0, inr j.1))

-- the relation is in the computed set
link_same : (ss : List Step) (n : List Bool) (a b : ℕ) → Link ss a b → moved_by (λ k. linked k ss) n a ≡ moved_by (λ k. linked k ss) n b
link_same ss n a b l = link_by (λ k. linked k ss) n a l.below l.turn ∙ ap (moved_by (λ k. linked k ss) n) (sym l.next)

same_by : (ss : List Step) (n : List Bool) (a b : ℕ) → (Link ss a b) ⊎ (Link ss b a) → moved_by (λ k. linked k ss) n a ≡ moved_by (λ k. linked k ss) n b
same_by ss n a b (inl l) = link_same ss n a b l
same_by ss n a b (inr l) = sym (link_same ss n b a l)

complete : (ss : List Step) (n : List Bool) (a : ℕ) → Moved ss n a → moved_by (λ k. linked k ss) n a ≡ true
complete ss n a (by_name b e) = or_left (get_or n b false) _ e
complete ss n a (by_turn c b j m) = sym (same_by ss n c b (links ss c b j)) ∙ complete ss n c m

-- the computed set is in the relation
round : (a : ℕ) → a < 3 → next_axis (next_axis (next_axis a)) ≡ a
round zero h = refl
round (suc zero) h = refl
round (suc (suc zero)) h = refl
round (suc (suc (suc a))) h = absurd (omega arith)

module _ (ss : List Step) (n : List Bool) where
  up : (a : ℕ) → linked a ss ≡ true → Moved ss n a → Moved ss n (next_axis a)
  up a e m = by_turn a (next_axis a) (linked_joins ss a e).0 m

  down : (a : ℕ) → linked a ss ≡ true → Moved ss n (next_axis a) → Moved ss n a
  down a e m = by_turn (next_axis a) a (linked_joins ss a e).1 m

  sound : (a : ℕ) → a < 3 → moved_by (λ k. linked k ss) n a ≡ true → Moved ss n a
  sound a h e =
      or_by (Moved ss n a) (get_or n a false) _ e (λ x. by_name a x)
      (λ r. or_by (Moved ss n a) _ _ r
      (λ u. let p = and_parts (linked a ss) _ u in down a p.0
      (or_by (Moved ss n (next_axis a)) (get_or n (next_axis a) false) _ p.1 (λ x. by_name (next_axis a) x)
      (λ w. let q = and_parts (linked (next_axis a) ss) _ w in down (next_axis a) q.0 (by_name (next_axis (next_axis a)) q.1))))
      (λ u. let p = and_parts (linked (next_axis (next_axis a)) ss) _ u in
      subst (Moved ss n) (round a h) (up (next_axis (next_axis a)) p.0
      (or_by (Moved ss n (next_axis (next_axis a))) (get_or n (next_axis (next_axis a)) false) _ p.1 (λ x. by_name (next_axis (next_axis a)) x)
      (λ w. let q = and_parts (linked (next_axis a) ss) _ w in up (next_axis a) q.0 (by_name (next_axis a) q.1))))))

  joined_both : (a b : ℕ) → (Link ss a b) ⊎ (Link ss b a) → (a < 3) × (b < 3)
  joined_both a b (inl l) = (l.below, subst (λ (z : ℕ). z < 3) (sym l.next) (next_below a))
  joined_both a b (inr l) = (subst (λ (z : ℕ). z < 3) (sym l.next) (next_below b), l.below)

  all_joined : AllJoined (moved_axes ss n) ss
  all_joined a b j e =
      let k = links ss a b j in
      let w = joined_both a b k in
      three_at (moved_by (λ k. linked k ss) n) b w.1 ∙ sym (same_by ss n a b k) ∙ sym (three_at (moved_by (λ k. linked k ss) n) a w.0) ∙ e

  pub moved_axes_lem : MovedAxes ss n (moved_axes ss n)
  moved_axes_lem = record {
    only = λ a h e. sound a h (sym (three_at (moved_by (λ k. linked k ss) n) a h) ∙ e);
    every = λ a h m. three_at (moved_by (λ k. linked k ss) n) a h ∙ complete ss n a m;
    joined = all_joined;
  }

  pub moved_as : (r : List Bool) → r ≡ moved_axes ss n → MovedAxes ss n r
  moved_as r e = subst (MovedAxes ss n) (sym e) moved_axes_lem
