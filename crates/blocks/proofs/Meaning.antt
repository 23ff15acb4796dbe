-- `block_of` means what the rules say.
use Rattle.std.proofs.Common.{◌≡◌, ℕ, ◌≤◌, Bool, true, false, not, ◌&&◌, ◌||◌, ◌⊎◌, List, [], ◌∷◌, length, get_or, is_some, Some, None, Ok, Err, Option, Result, sym, refl, ap, ◌∙◌, subst, inl, inr, ⊎_elim, MatchResult}
use Rattle.std.specs.List.{AllByRecursion}
use Rattle.std.proofs.lemmas.Bool.{false≢true, cases_lt, cases_Bool, not-false, or_parts}
use Rattle.std.proofs.lemmas.Option.{same_Some, cond_some}
use Rattle.units.specs.declared.axis.Axis.{Axis}
use Rattle.units.specs.declared.axis.Axis.TheVariants.{X, Y, Z}
use Rattle.units.specs.declared.fault.Fault.{Fault}
use Rattle.units.specs.declared.fault.Fault.TheVariants.{Repeated}
use Rattle.units.specs.declared.quantity.Angle.{Angle}
use Rattle.reader.specs.declared.types.Number.{Number}
use Rattle.reader.specs.declared.types.Said.{Said}
use Rattle.reader.specs.declared.types.Said.TheVariants.{Name as s_name, Axis as s_axis, Rpl as s_rpl, G as s_g, M as s_m, N as s_n, Passed as s_passed}
use Rattle.reader.specs.declared.types.Item.{Item}
use Rattle.reader.specs.WordList.{Run, words}
use Rattle.reader.specs.Words.{ItemIs, Declined}
use Rattle.reader.specs.Reading.{reading}
use Rattle.reader.proofs.Meaning.{stand as reading_means}
use Rattle.blocks.specs.declared.gathered.StepKind.{StepKind}
use Rattle.blocks.specs.declared.gathered.StepKind.TheVariants.{Offset as an_offset, Turn as a_turn, Scale as a_scale, Mirror as a_mirror}
use Rattle.blocks.specs.declared.gathered.Instruction.{Instruction}
use Rattle.blocks.specs.declared.gathered.Instruction.TheVariants.{Frame as a_frame, Limit as a_limit}
use Rattle.blocks.specs.declared.gathered.Placed.{Placed}
use Rattle.blocks.specs.declared.gathered.Measured.{Measured}
use Rattle.blocks.specs.declared.gathered.Measure.{Measure}
use Rattle.blocks.specs.declared.gathered.Measure.TheVariants.{Length as a_length, Factor as a_factor, Angle as an_angle}
use Rattle.blocks.specs.Slots.{over, hit, axis_index, same_axis}
use Rattle.blocks.specs.Found.{find, axis_of, rpl_of, repeated, slots_of}
use Rattle.blocks.specs.Order.{keep, instruction, leftmost, misplaced_by, is_axis, order_of}
use Rattle.blocks.specs.Measures.{length_in, factor_in, angle_in}
use Rattle.blocks.specs.Rules.{misplaced, unfit, unfit_with, unfit_frame, unfit_by, unfit_under, measure, measure_frame, measure_by, measure_under, bad_axis, bad, out_of_range_at, inch_in}
use Rattle.blocks.specs.Typed.{length_at, factor_at, angle_at, or_zero, lengths, factors, step_of, change_by, made, made_by, made_under, ruled}
use Rattle.blocks.specs.Block.{go_on, settle, conclude, block_of}
use Rattle.blocks.specs.Meaning.{Among, Right, FirstFault, Leftmost, PassedBy, ValueOf, given, absent, Values, TurnOf, StepIs, Bare, ChangeIs, Tells, Reads, Means, too_long, wrong_word, misplaced_word, unfit_words, out_of_range, right_block, BlockStands}
use Rattle.blocks.proofs.Options.{over_none, over_some, keep_none, keep_some, hit_none, some_is, none_is}
use Rattle.blocks.proofs.Concluded.{short, too_long as is_too_long}

-- a slot is empty exactly when no word of the list is its, and else holds one that is
module _ {X : Type 0} (pick : Item → Option X) where
  pub find_none : (ws : List Item) → find pick ws ≡ None → AllByRecursion (λ x. pick x ≡ None) ws
  find_none [] e = tt
  find_none (x ∷ ws) e = let h = over_none (find pick ws) (pick x) e in (h.1, find_none ws h.0)

  pub find_some : (ws : List Item) (v : X) → find pick ws ≡ Some v → (x : Item) × Among ws x × (pick x ≡ Some v)
  find_some [] v e = absurd cc
  find_some (x ∷ ws) v e = ⊎_elim (λ l. let g = find_some ws v l in (g.0, inr g.1, g.2)) (λ r. (x, inl refl, r)) (over_some (find pick ws) (pick x) v e)

  none_find : (ws : List Item) → AllByRecursion (λ x. pick x ≡ None) ws → find pick ws ≡ None
  none_find [] h = refl
  none_find (x ∷ ws) h = ap (over (find pick ws)) h.0 ∙ none_find ws h.1

module _ (test : List Item → Said → Bool) where
  pub left_some : (ws : List Item) (p : ℕ) → leftmost test ws ≡ Some p → Leftmost test ws p
  left_some [] p e = absurd cc
  left_some (x ∷ ws) p e =
      ⊎_elim
      (λ l. let g = left_some ws p l in record { after = x ∷ g.after; word = g.word; earlier = g.earlier; parts = ap (λ t. x ∷ t) g.parts; passes = g.passes; told = g.told; none = g.none })
      (λ r. let h = cond_some (test ws x.says) x.place p r.1 in record { after = []; word = x; earlier = ws; parts = refl; passes = h.0; told = sym h.1; none = r.0 })
      (keep_some (leftmost test ws) (hit (test ws x.says) x.place) p e)

  pub left_none : (ws : List Item) → leftmost test ws ≡ None → PassedBy test ws
  left_none [] e = tt
  left_none (x ∷ ws) e = let h = keep_none (leftmost test ws) (hit (test ws x.says) x.place) e in (hit_none (test ws x.says) x.place h.1, left_none ws h.0)

-- words from left to right

-- what one word more was made of
on_fault : (a : Result (List Item) Fault) (b : Result Item Fault) (f : Fault) → go_on a b ≡ Err f → (a ≡ Err f) ⊎ ((ws : List Item) × (a ≡ Ok ws) × ((b ≡ Err f) ⊎ ((x : Item) × (b ≡ Ok x) × (repeated ws x.says ≡ true) × (f ≡ Repeated x.place))))
on_fault (Err g) b f e = inl e
on_fault (Ok ws) (Err g) f e = inr (ws, refl, inl cc)
on_fault (Ok ws) (Ok x) f e = ⊎_elim (λ y. let h = rw y at e in inr (ws, refl, inr (x, refl, y, cc))) (λ n. let h = rw n at e in absurd cc) (cases_Bool (repeated ws x.says))

on_right : (a : Result (List Item) Fault) (b : Result Item Fault) (vs : List Item) → go_on a b ≡ Ok vs → (ws : List Item) × (x : Item) × (a ≡ Ok ws) × (b ≡ Ok x) × (repeated ws x.says ≡ false) × (vs ≡ x ∷ ws)
on_right (Err g) b vs e = absurd cc
on_right (Ok ws) (Err g) vs e = absurd cc
on_right (Ok ws) (Ok x) vs e = ⊎_elim (λ y. let h = rw y at e in absurd cc) (λ n. let h = rw n at e in (ws, x, refl, refl, n, cc)) (cases_Bool (repeated ws x.says))

says_item : (r : Run) (x : Item) → reading r.text r.at ≡ Ok x → ItemIs r.text r.at x
says_item r x e = subst (λ o. MatchResult o (ItemIs r.text r.at) (Declined r.text r.at)) e (reading_means r.text r.at).means

says_fault : (r : Run) (f : Fault) → reading r.text r.at ≡ Err f → Declined r.text r.at f
says_fault r f e = subst (λ o. MatchResult o (ItemIs r.text r.at) (Declined r.text r.at)) e (reading_means r.text r.at).means

rights : (rs : List Run) (ws : List Item) → settle rs ≡ Ok ws → Right rs ws
rights [] ws e =
    let h : [] ≡ ws = cc in
    subst (Right []) h (record { says = tt; apart = tt })
rights (r ∷ rs) ws e =
    let h = on_right (settle rs) (reading r.text r.at) ws e in
    let g = rights rs h.0 h.2 in
    subst (Right (r ∷ rs)) (sym h.5) (record { says = (says_item r h.1 h.3, g.says); apart = (h.4, g.apart) })

faults : (rs : List Run) (f : Fault) → settle rs ≡ Err f → FirstFault rs f
faults [] f e = absurd cc
faults (r ∷ rs) f e =
    ⊎_elim
    (λ l. let g = faults rs f l in record { after = r ∷ g.after; word = g.word; earlier = g.earlier; items = g.items; parts = ap (λ t. r ∷ t) g.parts; before = g.before; wrong = g.wrong })
    (λ h. record {
      after = [];
      word = r;
      earlier = rs;
      items = h.0;
      parts = refl;
      before = rights rs h.0 h.1;
      wrong = ⊎_elim (λ d. inl (says_fault r f d)) (λ g. let is = says_item r g.0 g.1 in inr (g.0, is, g.2, g.3 ∙ ap Repeated is.place)) h.2;
    })
    (on_fault (settle rs) (reading r.text r.at) f e)

-- values

axis_same : (a b : Axis) → same_axis a b ≡ true → a ≡ b
axis_same X X e = refl
axis_same X Y e = absurd cc
axis_same X Z e = absurd cc
axis_same Y X e = absurd cc
axis_same Y Y e = refl
axis_same Y Z e = absurd cc
axis_same Z X e = absurd cc
axis_same Z Y e = absurd cc
axis_same Z Z e = refl

axis_said : (a : Axis) (s : Said) (p : ℕ) (m : Measured) → axis_of a (record { says = s; place = p }) ≡ Some m → s ≡ s_axis a m.number
axis_said a (s_name f) p m e = absurd cc
axis_said a (s_axis b n) p m e = let h = cond_some (same_axis a b) (record { number = n; place = p }) m e in let q = axis_same a b h.0 in λ i. s_axis (sym q i) (h.1 i).number
axis_said a (s_rpl n) p m e = absurd cc
axis_said a (s_g g) p m e = absurd cc
axis_said a (s_m f) p m e = absurd cc
axis_said a s_n p m e = absurd cc
axis_said a (s_passed b) p m e = absurd cc

rpl_said : (s : Said) (p : ℕ) (m : Measured) → rpl_of (record { says = s; place = p }) ≡ Some m → s ≡ s_rpl m.number
rpl_said (s_name f) p m e = absurd cc
rpl_said (s_axis b n) p m e = absurd cc
rpl_said (s_rpl n) p m e = ap (λ (k : Measured). s_rpl k.number) (same_Some _ _ e)
rpl_said (s_g g) p m e = absurd cc
rpl_said (s_m f) p m e = absurd cc
rpl_said s_n p m e = absurd cc
rpl_said (s_passed b) p m e = absurd cc

-- a test that every word of a list fails
passed_among : (test : Said → Bool) (ws : List Item) (x : Item) → PassedBy (λ earlier s. test s) ws → Among ws x → test x.says ≡ false
passed_among test [] x h i = absurd i
passed_among test (y ∷ ws) x h (inl e) = subst (λ z. test z.says ≡ false) e h.0
passed_among test (y ∷ ws) x h (inr i) = passed_among test ws x h.1 i

module _ {V : Type 0} (value : Number → Option V) (at : Option Measured → Option V) (at_none : at None ≡ None) (at_some : (m : Measured) → at (Some m) ≡ value m.number) (ws : List Item) (m : Measure) (right : (n : Number) → bad_axis m n ≡ false → is_some (value n) ≡ true) (h : PassedBy (λ earlier x. bad m x) ws) where
  one_value : (a : Axis) (o : Option Measured) → find (axis_of a) ws ≡ o → ValueOf value ws a (at o)
  one_value a None e = absent (find_none (axis_of a) ws e) at_none
  one_value a (Some w) e =
      let g = find_some (axis_of a) ws w e in
      let s = axis_said a g.0.says g.0.place w g.2 in
      let good = passed_among (bad m) ws g.0 h g.1 in
      let v = some_is (value w.number) (right w.number (subst (λ x. bad m x ≡ false) s good)) in
      given w.number g.0.place v.0 (subst (λ x. Among ws (record { says = x; place = g.0.place })) s g.1) v.1 (at_some w ∙ v.1)

  three : Values value ws (at (find (axis_of X) ws) ∷ at (find (axis_of Y) ws) ∷ at (find (axis_of Z) ws) ∷ [])
  three = (refl, each)
    where
      each : (a : Axis) → ValueOf value ws a (get_or (at (find (axis_of X) ws) ∷ at (find (axis_of Y) ws) ∷ at (find (axis_of Z) ws) ∷ []) (axis_index a) None)
      each X = one_value X (find (axis_of X) ws) refl
      each Y = one_value Y (find (axis_of Y) ws) refl
      each Z = one_value Z (find (axis_of Z) ws) refl

module _ (ws : List Item) where
  lengths_are : (inch : Bool) → PassedBy (λ earlier x. bad (a_length inch) x) ws → Values (length_in inch) ws (lengths inch (slots_of ws).axes)
  lengths_are inch h = three (length_in inch) (length_at inch) refl (λ m. refl) ws (a_length inch) (λ n e. not-false (is_some (length_in inch n)) e) h

  factors_are : PassedBy (λ earlier x. bad a_factor x) ws → Values factor_in ws (factors (slots_of ws).axes)
  factors_are h = three factor_in factor_at refl (λ m. refl) ws a_factor (λ n e. not-false (is_some (factor_in n)) e) h

  turn_is : PassedBy (λ earlier x. bad an_angle x) ws → (o : Option Measured) → find rpl_of ws ≡ o → is_some o ≡ true → TurnOf ws (angle_at o)
  turn_is h None e some = absurd cc
  turn_is h (Some w) e some =
      let g = find_some rpl_of ws w e in
      let s = rpl_said g.0.says g.0.place w g.2 in
      let good = passed_among (bad an_angle) ws g.0 h g.1 in
      let v = some_is (angle_in w.number) (not-false (is_some (angle_in w.number)) (subst (λ x. bad an_angle x ≡ false) s good)) in
      record { number = w.number; place = g.0.place; among = subst (λ x. Among ws (record { says = x; place = g.0.place })) s g.1; value = v.1 ∙ ap (λ (o : Option Angle). Some (or_zero o)) (sym v.1) }

  named_are : (a : Axis) → get_or (is_some (find (axis_of X) ws) ∷ is_some (find (axis_of Y) ws) ∷ is_some (find (axis_of Z) ws) ∷ []) (axis_index a) false ≡ is_some (find (axis_of a) ws)
  named_are X = refl
  named_are Y = refl
  named_are Z = refl

  -- a turn has its RPL word
  step_is : (kind : StepKind) (inch : Bool) → PassedBy (λ earlier x. bad (measure_under (Some (record { by = a_frame kind false; place = 0 })) inch) x) ws → (kind ≡ a_turn → is_some (find rpl_of ws) ≡ true) → StepIs kind inch ws (step_of kind inch (slots_of ws))
  step_is an_offset inch h t = (lengths inch (slots_of ws).axes, refl, lengths_are inch h)
  step_is a_turn inch h t = (angle_at (find rpl_of ws), refl, turn_is h (find rpl_of ws) refl (t refl))
  step_is a_scale inch h t = (factors (slots_of ws).axes, refl, factors_are h)
  step_is a_mirror inch h t = (is_some (find (axis_of X) ws) ∷ is_some (find (axis_of Y) ws) ∷ is_some (find (axis_of Z) ws) ∷ [], refl, refl, named_are)

  all_left : AllByRecursion (λ x. is_axis x.says ≡ false) ws → leftmost (λ earlier x. is_axis x) ws ≡ None
  all_left h = down ws h
    where
      down : (vs : List Item) → AllByRecursion (λ x. is_axis x.says ≡ false) vs → leftmost (λ earlier x. is_axis x) vs ≡ None
      down [] g = refl
      down (x ∷ vs) g = ap (λ b. keep (leftmost (λ earlier s. is_axis s) vs) (hit b x.place)) g.0 ∙ down vs g.1

  abbrev axes : Bool
  axes = is_some (leftmost (λ earlier x. is_axis x) ws)

  abbrev rpl : Bool
  rpl = is_some (find rpl_of ws)

passed_all : (test : Said → Bool) (ws : List Item) → PassedBy (λ earlier x. test x) ws → AllByRecursion (λ x. test x.says ≡ false) ws
passed_all test [] h = tt
passed_all test (x ∷ ws) h = (h.0, passed_all test ws h.1)

bare_is : (ws : List Item) → (axes ws || rpl ws) ≡ false → Bare ws
bare_is ws e =
    let h = or_parts (axes ws) (rpl ws) e in
    (passed_all is_axis ws (left_none (λ earlier x. is_axis x) ws (none_is (leftmost (λ earlier x. is_axis x) ws) h.0)), find_none rpl_of ws (none_is (find rpl_of ws) h.1))

not_bare : (ws : List Item) → (axes ws || rpl ws) ≡ true → Bare ws → ⊥
not_bare ws e b = false≢true (sym (ap (λ o. is_some o || rpl ws) (all_left ws b.0) ∙ ap is_some (none_find rpl_of ws b.1)) ∙ e)

-- a turn that is not unfit has its RPL word
turn_needs : (kind : StepKind) (additive axes rpl : Bool) → unfit_frame kind additive axes rpl ≡ false → (additive ≡ true) ⊎ ((axes || rpl) ≡ true) → kind ≡ a_turn → rpl ≡ true
turn_needs kind additive axes rpl e w t = needs (subst (λ k. unfit_frame k additive axes rpl ≡ false) t e) w
  where
    by_additive : (a r : Bool) → (a || (true && not r)) ≡ false → r ≡ true
    by_additive a r f = not-false r (or_parts a (not r) f).1

    by_words : (d a r : Bool) → (a || (d && not r)) ≡ false → (a || r) ≡ true → r ≡ true
    by_words d true r f g = absurd cc
    by_words d false r f g = g

    needs : unfit_with additive rpl axes ≡ false → (additive ≡ true) ⊎ ((axes || rpl) ≡ true) → rpl ≡ true
    needs f (inl y) = by_additive axes rpl (subst (λ d. (axes || (d && not rpl)) ≡ false) y f)
    needs f (inr g) = by_words additive axes rpl f g

module _ (ws : List Item) (inch : Bool) where
  change_is : (kind : StepKind) (additive worded : Bool) → (axes ws || rpl ws) ≡ worded → unfit_frame kind additive (axes ws) (rpl ws) ≡ false → PassedBy (λ earlier x. bad (measure_frame kind inch) x) ws → ChangeIs kind additive inch ws (change_by additive worded (step_of kind inch (slots_of ws)))
  change_is kind true worded e u h = (refl, step_is ws kind inch h (turn_needs kind true (axes ws) (rpl ws) u (inl refl)))
  change_is kind false true e u h = (refl, not_bare ws e, step_is ws kind inch h (turn_needs kind false (axes ws) (rpl ws) u (inr e)))
  change_is kind false false e u h = (refl, bare_is ws e)

  tells_by : (b : Instruction) (p : ℕ) → instruction ws ≡ Some (record { by = b; place = p }) → unfit_by b (axes ws) (rpl ws) ≡ false → PassedBy (λ earlier x. bad (measure_by b inch) x) ws → Tells inch ws (made_by b p inch (slots_of ws) (order_of ws))
  tells_by (a_frame kind additive) p e u h = (kind, additive, e, change_is kind additive (axes ws || rpl ws) refl u h)
  tells_by (a_limit side) p e u h = (e, lengths_are ws inch h)

  tells : (o : Option Placed) → instruction ws ≡ o → unfit_under o (axes ws) (find rpl_of ws) ≡ None → PassedBy (λ earlier x. bad (measure_under o inch) x) ws → Tells inch ws (made_under o inch (slots_of ws) (order_of ws))
  tells None e u h = record { none = e; motion = refl; plane = refl; settable = refl; unit = refl; distance = refl; machine = refl; values = lengths_are ws inch h; first = refl; ends = refl }
  tells (Some i) e u h = tells_by i.by i.place e (hit_none (unfit_by i.by (axes ws) (rpl ws)) i.place u) h

module _ (bs : List ℕ) (inch : Bool) where
  by_rules : (ws : List Item) → Reads bs ws → (six seven eight : Option ℕ) → misplaced ws ≡ six → unfit ws ≡ seven → out_of_range_at (measure inch ws) ws ≡ eight → block_of bs inch ≡ ruled six seven eight (made (inch_in inch ws) (slots_of ws) (order_of ws)) → Means bs inch (block_of bs inch)
  by_rules ws r (Some p) seven eight a b c e = misplaced_word ws p r (left_some (misplaced_by (is_some (instruction ws))) ws p a) e
  by_rules ws r None (Some p) eight a b c e = unfit_words ws p r (left_none (misplaced_by (is_some (instruction ws))) ws a) b e
  by_rules ws r None None (Some p) a b c e = out_of_range ws p r (left_none (misplaced_by (is_some (instruction ws))) ws a) b (left_some (λ earlier x. bad (measure inch ws) x) ws p c) e
  by_rules ws r None None None a b c e =
      let good = left_none (λ earlier x. bad (measure inch ws) x) ws c in
      right_block ws (made (inch_in inch ws) (slots_of ws) (order_of ws)) r (left_none (misplaced_by (is_some (instruction ws))) ws a) b good (tells ws (inch_in inch ws) (instruction ws) refl b good) e

  by_words : length bs ≤ 512 → (o : Result (List Item) Fault) → settle (words bs (length bs)) ≡ o → block_of bs inch ≡ conclude inch o → Means bs inch (block_of bs inch)
  by_words l (Err f) s e = wrong_word f l (faults (words bs (length bs)) f s) e
  by_words l (Ok ws) s e = by_rules ws (record { short = l; right = rights (words bs (length bs)) ws s }) (misplaced ws) (unfit ws) (out_of_range_at (measure inch ws) ws) refl refl refl e

  means : Means bs inch (block_of bs inch)
  means = ⊎_elim (λ l. too_long l (sym (is_too_long bs inch l))) (λ l. by_words l (settle (words bs (length bs))) refl (short bs inch l)) (cases_lt 512 (length bs))

pub stand : BlockStands
stand = means
