-- An offset entry keeps a translator tied to the plain shift.
use Rattle.std.proofs.Common.{◌≡◌, ℕ, zero, suc, ◌<◌, ◌≤◌, Bool, true, false, cond, eqb, ◌≢◌, List, [], ◌∷◌, length, get_or, ℤ, pos, negsuc, Some, None, Ok, Option, sym, refl, ap, ◌∙◌, subst, arith, lit≤, length-set, get_or-set_other, get_or-set_same, ne_eqb, eqb-true}
use borrow.Author.Tests.{eqb-false}
use Rattle.units.specs.Quantities.{zero_length, length_of}
use Rattle.units.specs.declared.axis.Axis.{Axis}
use Rattle.units.specs.declared.axis.Point.{Point}
use Rattle.units.specs.declared.fault.Fault.TheVariants.{Argument}
use Rattle.units.specs.declared.quantity.Length.{Length}
use Rattle.reader.specs.declared.functions.Settable.{Settable}
use Rattle.reader.specs.declared.functions.Settable.TheVariants.{G500, G54, G55, G56, G57, G58, G59}
use Rattle.workpiece.specs.declared.settable.SettableFrame.{SettableFrame}
use Rattle.workpiece.specs.Entries.{three_of, lengths_of, opened_if, entered_at, entered_with, entered_by}
use Rattle.workpiece.specs.Places.{all_open, units_of}
use Rattle.workpiece.specs.Settable.{frame_number, numbered_frame, no_offset, frame_of, offset_of, entered}
use Rattle.workpiece.specs.Setup.{SetupState}
use Rattle.translator.specs.State.{State}
use Rattle.translator.specs.Work.{with_setup}
use Rattle.shifts.specs.Plain.{Plain, on_axis, unplaced, entered_by as entered_plain}
use Rattle.shifts.proofs.Small.{three, ok_only, not_ok, some_only, not_some, length_units}
use Rattle.shifts.proofs.Follows.{Follows}

-- the number of the frame that is entered
found : (n k : ℕ) (x f : Settable) (rest : Option Settable) → k ≡ frame_number x → (rest ≡ Some f → n ≡ frame_number f) → cond (eqb n k) (Some x) rest ≡ Some f → n ≡ frame_number f
found n k x f rest e h c = go (eqb n k) refl c
  where
    go : (b : Bool) → eqb n k ≡ b → cond b (Some x) rest ≡ Some f → n ≡ frame_number f
    go true t d = eqb-true n k t ∙ e ∙ ap frame_number (some_only x f d)
    go false t d = h d

numbered : (n : ℕ) (f : Settable) → numbered_frame (pos n) ≡ Some f → n ≡ frame_number f
numbered n f e = found n 1 G54 f _ refl (found n 2 G55 f _ refl (found n 3 G56 f _ refl (found n 4 G57 f _ refl (found n 5 G58 f _ refl (found n 6 G59 f None refl (λ c. not_some f c)))))) e

some_frame : (n : ℕ) (f : Settable) → numbered_frame (pos n) ≡ Some f → 1 ≤ n
some_frame zero f e = not_some f e
some_frame (suc n) f e = omega arith

frame_most : (f : Settable) → frame_number f ≤ 6
frame_most G500 = lit≤ tt
frame_most G54 = lit≤ tt
frame_most G55 = lit≤ tt
frame_most G56 = lit≤ tt
frame_most G57 = lit≤ tt
frame_most G58 = lit≤ tt
frame_most G59 = lit≤ tt

-- which frame and which offset an accepted entry has
pub record EntrySo (s : SetupState) (frame : ℤ) (offset : Point) (t : SetupState) : Type 0 where
  pub settable : Settable
  pub lengths : List Length
  pub number : frame ≡ pos (frame_number settable)
  pub some : 1 ≤ frame_number settable
  pub are : (a : ℕ) → a < 3 → on_axis offset a ≡ (get_or lengths a zero_length).units
  pub made_so : entered_at s settable lengths ≡ t

three_units : (p : Point) (x y z : Option Length) (ls : List Length) → length_of p.x ≡ x → length_of p.y ≡ y → length_of p.z ≡ z → three_of x y z ≡ Some ls → (a : ℕ) → a < 3 → on_axis p a ≡ (get_or ls a zero_length).units
three_units p None y z ls ex ey ez e a h = not_some ls e
three_units p (Some x) None z ls ex ey ez e a h = not_some ls e
three_units p (Some x) (Some y) None ls ex ey ez e a h = not_some ls e
three_units p (Some x) (Some y) (Some z) ls ex ey ez e a h =
    three (λ b. on_axis p b ≡ (get_or (x ∷ y ∷ z ∷ []) b zero_length).units) (sym (length_units p.x x ex)) (sym (length_units p.y y ey)) (sym (length_units p.z z ez)) a h ∙
    ap (λ (l : List Length). (get_or l a zero_length).units) (some_only (x ∷ y ∷ z ∷ []) ls e)

entry_parts : (s : SetupState) (n : ℕ) (offset : Point) (t : SetupState) (o : Option Settable) (l : Option (List Length)) → numbered_frame (pos n) ≡ o → lengths_of offset ≡ l → entered_with s o l ≡ Ok t → EntrySo s (pos n) offset t
entry_parts s n offset t None l eo el e = not_ok Argument t e
entry_parts s n offset t (Some f) None eo el e = not_ok Argument t e
entry_parts s n offset t (Some f) (Some ls) eo el e = record {
  settable = f;
  lengths = ls;
  number = ap pos (numbered n f eo);
  some = subst (λ (k : ℕ). 1 ≤ k) (numbered n f eo) (some_frame n f eo);
  are = three_units offset (length_of offset.x) (length_of offset.y) (length_of offset.z) ls refl refl refl el;
  made_so = ok_only (entered_at s f ls) t e;
}

pub entry_so : (s : SetupState) (frame : ℤ) (offset : Point) (t : SetupState) → entered_by s frame offset ≡ Ok t → EntrySo s frame offset t
entry_so s (pos n) offset t e = entry_parts s n offset t (numbered_frame (pos n)) (lengths_of offset) refl refl e
entry_so s (negsuc n) offset t e = not_ok Argument t e

-- the table after the entry
module _ (fs : List SettableFrame) (ls : List Length) (o : Point) (e : ℕ → ℕ → ℤ) (six : length fs ≡ 6) (are : (a : ℕ) → a < 3 → on_axis o a ≡ (get_or ls a zero_length).units) (h : (n a : ℕ) → a < 3 → e n a ≡ (get_or (offset_of fs n) a zero_length).units) where
  other : (j i : ℕ) → j ≢ i → (a : ℕ) → a < 3 → e (suc i) a ≡ (get_or (offset_of (entered fs (suc j) ls) (suc i)) a zero_length).units
  other j i ne a l = h (suc i) a l ∙ ap (λ (r : SettableFrame). (get_or r.offset a zero_length).units) (sym (get_or-set_other fs j i (frame_of ls) (frame_of no_offset) (λ w. ne (sym w))))

  same : (j i : ℕ) → j < 6 → j ≡ i → (a : ℕ) → a < 3 → on_axis o a ≡ (get_or (offset_of (entered fs (suc j) ls) (suc i)) a zero_length).units
  same j i m q a l =
      are a l ∙ ap (λ (r : SettableFrame). (get_or r.offset a zero_length).units) (sym (get_or-set_same fs j (frame_of ls) (frame_of no_offset) (omega arith))) ∙
      ap (λ (k : ℕ). (get_or (offset_of (entered fs (suc j) ls) (suc k)) a zero_length).units) q

  by_number : (j i : ℕ) (b : Bool) → eqb (suc j) (suc i) ≡ b → j < 6 → (a : ℕ) → a < 3 → cond b (on_axis o a) (e (suc i) a) ≡ (get_or (offset_of (entered fs (suc j) ls) (suc i)) a zero_length).units
  by_number j i true q m a l = let k = eqb-true (suc j) (suc i) q in same j i m (omega arith) a l
  by_number j i false q m a l = let k = eqb-false (suc j) (suc i) q in other j i (λ w. k (ap suc w)) a l

  pub entry_after : (k n a : ℕ) → 1 ≤ k → k ≤ 6 → a < 3 → cond (eqb k n) (on_axis o a) (e n a) ≡ (get_or (offset_of (entered fs k ls) n) a zero_length).units
  entry_after zero n a s m l = absurd (omega arith)
  entry_after (suc j) zero a s m l = ap (λ (b : Bool). cond b (on_axis o a) (e zero a)) (ne_eqb (suc j) zero (λ w. omega (arith, w))) ∙ h zero a l
  entry_after (suc j) (suc i) a s m l = by_number j i (eqb (suc j) (suc i)) refl (omega arith) a l

-- entering the selected frame opens all axes
values_entered : (b : Bool) (v : ℕ → Option ℤ) (vs : List (Option Length)) → ((a : ℕ) → a < 3 → v a ≡ units_of (get_or vs a None)) → (a : ℕ) → a < 3 → cond b unplaced v a ≡ units_of (get_or (opened_if b vs) a None)
values_entered true v vs h a l = three (λ c. None ≡ units_of (get_or all_open c None)) refl refl refl a l
values_entered false v vs h a l = h a l

length_entered : (fs : List SettableFrame) (k : ℕ) (ls : List Length) → length (entered fs k ls) ≡ length fs
length_entered fs zero ls = refl
length_entered fs (suc k) ls = length-set fs k (frame_of ls)

module _ {inc : Axis → ℕ} {p : Plain} {s : State} (f : Follows inc p s) where
  entered_follows : (g : Settable) (ls : List Length) (offset : Point) → 1 ≤ frame_number g → ((a : ℕ) → a < 3 → on_axis offset a ≡ (get_or ls a zero_length).units) → Follows inc (entered_plain p (pos (frame_number g)) offset) (with_setup s (entered_at s.setup g ls))
  entered_follows g ls offset some are = record {
    steps = f.steps;
    entry = λ n a h. entry_after s.setup.records ls offset p.entry f.six are f.entry (frame_number g) n a some (frame_most g) h;
    six = length_entered s.setup.records (frame_number g) ls ∙ f.six;
    plane = f.plane;
    settable = f.settable;
    inch = f.inch;
    incremental = f.incremental;
    chained = f.chained;
    value = λ a h.
        ap (λ (n : ℕ). cond (eqb (frame_number g) n) unplaced p.value a) f.settable ∙
        values_entered (eqb (frame_number g) (frame_number s.setup.force.settable)) p.value s.setup.values f.value a h;
    exact = f.exact;
    positive = f.positive;
    held = f.held;
    honest = f.honest;
  }

  pub entry_follows : (frame : ℤ) (offset : Point) (t : SetupState) → entered_by s.setup frame offset ≡ Ok t → Follows inc (entered_plain p frame offset) (with_setup s t)
  entry_follows frame offset t e =
      let w = entry_so s.setup frame offset t e in
      subst (λ (z : SetupState). Follows inc (entered_plain p frame offset) (with_setup s z)) w.made_so
      (subst (λ (z : ℤ). Follows inc (entered_plain p z offset) (with_setup s (entered_at s.setup w.settable w.lengths))) (sym w.number)
      (entered_follows w.settable w.lengths offset w.some w.are))
