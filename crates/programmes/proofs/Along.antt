-- One line more of a text.
use Rattle.std.proofs.Common.{◌≡◌, ℕ, suc, ◌+◌, ◌<◌, ◌≤◌, Bool, true, false, cond, ◌||◌, ◌⊎◌, List, [], ◌∷◌, ◌++◌, length, take, drop, Ok, Err, Result, sym, refl, ap, ◌∙◌, subst, inl, inr, append_assoc, arith, lit≤, length-append, leb-false}
use Rattle.std.proofs.lemmas.List.{append-nil, take-append-le, take_at, drop_all}
use Rattle.units.specs.declared.fault.Fault.{Fault}
use Rattle.units.specs.declared.fault.Fault.TheVariants.{RollFull}
use Rattle.units.specs.declared.quantity.Tolerance.{Tolerance}
use Rattle.machine.specs.Meaning.{Meaning, Sound}
use Rattle.translator.specs.declared.reply.Reading.{Reading}
use Rattle.translator.specs.declared.reply.Reply.{Reply}
use Rattle.translator.specs.State.{State, opened, Tells}
use Rattle.translator.specs.Work.{worked, replied, left_by}
use Rattle.shifts.specs.declared.call.Answer.{Answer}
use Rattle.shifts.specs.declared.call.Answer.TheVariants.{Replied as Replies, Told}
use Rattle.shifts.specs.declared.call.Call.{Call}
use Rattle.shifts.specs.declared.call.Seen.{Seen}
use Rattle.shifts.specs.Calls.{answer_of, left_after, ShownAll, left_all, Replied}
use Rattle.shifts.proofs.Law.{law_holds}
use Rattle.rolls.specs.Rolls.{RollState, records_of, is_full, extended}
use Rattle.rolls.proofs.Longer.{no_more, records_more, places_more, more_more}
use Rattle.frames.specs.declared.image.Image.{Image}
use Rattle.lines.specs.Lines.{Line, lines_from, lines_of, LineRead}
use Rattle.lines.proofs.OneWay.{lines_are}
use Rattle.programmes.specs.declared.records.BlockRecord.{BlockRecord}
use Rattle.programmes.specs.Text.{block_of, blocks_of, any_moved, move_of, decline_of, made_by, Rolled, InAnyShift, Stopped, LinesWorked, TextWorked, ShiftWorked}

-- calls after calls
shown_append : (xs : List Call) (rxs : List Seen) (ys : List Call) (rys : List Seen) (s : State) → ShownAll s xs rxs → ShownAll (left_all s xs) ys rys → ShownAll s (xs ++ ys) (rxs ++ rys)
shown_append [] [] ys rys s h k = k
shown_append [] (r ∷ rxs) ys rys s h k = absurd h
shown_append (c ∷ xs) [] ys rys s h k = absurd h
shown_append (c ∷ xs) (r ∷ rxs) ys rys s h k = (h.0, shown_append xs rxs ys rys (left_after s c) h.1 k)

left_append : (xs ys : List Call) (s : State) → left_all s (xs ++ ys) ≡ left_all (left_all s xs) ys
left_append [] ys s = refl
left_append (c ∷ xs) ys s = left_append xs ys (left_after s c)

replied_append : (s t u : State) (xs : List Call) (rxs : List Seen) (ys : List Call) (rys : List Seen) → Replied s xs rxs t → Replied t ys rys u → Replied s (xs ++ ys) (rxs ++ rys) u
replied_append s t u xs rxs ys rys h k = record {
  shown = shown_append xs rxs ys rys s h.shown (subst (λ (z : State). ShownAll z ys rys) h.left k.shown);
  left = k.left ∙ ap (λ (z : State). left_all z ys) h.left ∙ sym (left_append xs ys s);
}

pub in_any_shift : (s t : State) (blocks : List Call) (seen : List Seen) → Replied s blocks seen t → InAnyShift s blocks seen t
in_any_shift s t blocks seen h end tolerance before opening earlier sound o r =
    let all = replied_append (opened end tolerance) s t before earlier blocks seen r h in
    (law_holds end tolerance (before ++ blocks) opening (earlier ++ seen) sound o all.shown, all)

blocks_more : (done : List Line) (l : Line) → blocks_of (done ++ l ∷ []) ≡ blocks_of done ++ block_of l ∷ []
blocks_more [] l = refl
blocks_more (x ∷ done) l = ap (λ (cs : List Call). block_of x ∷ cs) (blocks_more done l)

-- as many are seen as there are calls
as_many : (cs : List Line) (rs : List Seen) (s : State) → ShownAll s (blocks_of cs) rs → length rs ≡ length cs
as_many [] [] s h = refl
as_many [] (r ∷ rs) s h = absurd h
as_many (c ∷ cs) [] s h = absurd h
as_many (c ∷ cs) (r ∷ rs) s h = ap suc (as_many cs rs (left_after s (block_of c)) h.1)

not_full : {R : Type 0} (s : RollState R) → is_full s ≡ false → s.count < length s.places
not_full s e = leb-false (length s.places) s.count e

module _ {R : Type 0} (f : ℕ → Result Answer Fault → List R) (few : (start : ℕ) (a : Result Answer Fault) → length (f start a) ≤ 1) where
  made_more : (done : List Line) (seen : List Seen) (l : Line) (r : Seen) → length seen ≡ length done → made_by f (done ++ l ∷ []) (seen ++ r ∷ []) ≡ made_by f done seen ++ f l.start r.answer
  made_more [] [] l r e = append-nil (f l.start r.answer)
  made_more [] (y ∷ seen) l r e = absurd (omega arith)
  made_more (x ∷ done) [] l r e = absurd (omega arith)
  made_more (x ∷ done) (y ∷ seen) l r e =
      ap (λ (rs : List R). f x.start y.answer ++ rs) (made_more done seen l r (omega arith)) ∙
      sym (append_assoc (f x.start y.answer) (made_by f done seen) (f l.start r.answer))

  pub rolled_none : (roll : RollState R) → roll.count ≤ length roll.places → Rolled f [] [] roll roll
  rolled_none roll h = record {
    left = sym (no_more roll);
    stands = sym (append-nil (records_of roll));
    fits = omega arith;
    room = λ k lt. absurd (omega arith);
  }

  module _ (done : List Line) (seen : List Seen) (l : Line) (r : Seen) (same : length seen ≡ length done) (roll now' then' : RollState R) (h : Rolled f done seen roll now') (free : is_full now' ≡ false) (e : then' ≡ extended now' (f l.start r.answer)) where
    abbrev one : List R
    one = f l.start r.answer

    -- a place is left before the line
    before : roll.count + length (made_by f done seen) < length roll.places
    before =
        let a : now'.count < length now'.places = not_full now' free in
        let b : now'.count ≡ roll.count + length (made_by f done seen) = ap (λ (x : RollState R). x.count) h.left in
        let d : length now'.places ≡ length roll.places = ap (λ (x : RollState R). length x.places) h.left ∙ places_more roll (made_by f done seen) h.fits in
        omega arith

    whole : made_by f (done ++ l ∷ []) (seen ++ r ∷ []) ≡ made_by f done seen ++ one
    whole = made_more done seen l r same

    grown : then' ≡ extended roll (made_by f (done ++ l ∷ []) (seen ++ r ∷ []))
    grown =
        e ∙
        ap (λ (x : RollState R). extended x one) h.left ∙
        more_more roll (made_by f done seen) h.fits one ∙
        ap (extended roll) (sym whole)

    fitting : roll.count + length (made_by f (done ++ l ∷ []) (seen ++ r ∷ [])) ≤ length roll.places
    fitting = omega (arith, ap length whole, length-append (made_by f done seen) one, few l.start r.answer, before)

    room_at : (k : ℕ) → (k < length done) ⊎ (k ≡ length done) → roll.count + length (made_by f (take k (done ++ l ∷ [])) (take k (seen ++ r ∷ []))) < length roll.places
    room_at k (inl lt) =
        subst (λ (n : ℕ). roll.count + n < length roll.places)
        (sym (λ i. length (made_by f (take-append-le k done (l ∷ []) (omega arith) i) (take-append-le k seen (r ∷ []) (omega arith) i))))
        (h.room k lt)
    room_at k (inr eq) =
        subst (λ (n : ℕ). roll.count + n < length roll.places)
        (sym (λ i. length (made_by f (take_at done (l ∷ []) k (sym eq) i) (take_at seen (r ∷ []) k (same ∙ sym eq) i))))
        before

    pub rolled_more : Rolled f (done ++ l ∷ []) (seen ++ r ∷ []) roll then'
    rolled_more = record {
      left = grown;
      stands = ap records_of grown ∙ records_more roll (made_by f (done ++ l ∷ []) (seen ++ r ∷ [])) fitting;
      fits = fitting;
      room = λ k lt. room_at k (ways k (omega (arith, length-append done (l ∷ []))));
    }
      where
        ways : (k : ℕ) → k ≤ length done → (k < length done) ⊎ (k ≡ length done)
        ways k le = grind arith

few_moves : (start : ℕ) (a : Result Answer Fault) → length (move_of start a) ≤ 1
few_moves start (Ok (Replies r)) = at_most (any_moved r.moved) (record { start = start; told = r.image })
  where
    at_most : (b : Bool) (m : BlockRecord Image) → length (cond b (m ∷ []) []) ≤ 1
    at_most true m = lit≤ tt
    at_most false m = lit≤ tt
few_moves start (Ok (Told t)) = lit≤ tt
few_moves start (Err g) = lit≤ tt

few_declines : (start : ℕ) (a : Result Answer Fault) → length (decline_of start a) ≤ 1
few_declines start (Ok a) = lit≤ tt
few_declines start (Err g) = lit≤ tt

-- so far: the lines before start are worked
pub record Along (s : State) (text : List ℕ) (moves : RollState (BlockRecord Image)) (declines : RollState (BlockRecord Fault)) (start : ℕ) (t : State) (moves' : RollState (BlockRecord Image)) (declines' : RollState (BlockRecord Fault)) : Type 0 where
  pub done : List Line
  pub seen : List Seen
  pub parted : lines_of text ≡ done ++ lines_from start (drop start text)
  pub replies : Replied s (blocks_of done) seen t
  pub moved : Rolled move_of done seen moves moves'
  pub declined : Rolled decline_of done seen declines declines'

pub along_none : (s : State) (text : List ℕ) (moves : RollState (BlockRecord Image)) (declines : RollState (BlockRecord Fault)) → moves.count ≤ length moves.places → declines.count ≤ length declines.places → Along s text moves declines 0 s moves declines
along_none s text moves declines hm hd = record {
  done = [];
  seen = [];
  parted = refl;
  replies = record { shown = tt; left = refl };
  moved = rolled_none move_of few_moves moves hm;
  declined = rolled_none decline_of few_declines declines hd;
}

-- one line more
module _ (s : State) (text : List ℕ) (moves : RollState (BlockRecord Image)) (declines : RollState (BlockRecord Fault)) (start next : ℕ) (bytes : List ℕ) (t u : State) (moves' moves'' : RollState (BlockRecord Image)) (declines' declines'' : RollState (BlockRecord Fault)) (reply : Result Reply Fault) (reading : Reading) where
  abbrev line : Line
  line = record { start = start; bytes = bytes }

  abbrev one_seen : Seen
  one_seen = record { answer = answer_of reply; reading = reading }

  shown : reply ≡ replied (worked t bytes) → u ≡ left_by t (worked t bytes) → Tells u reading → Replied t (block_of line ∷ []) (one_seen ∷ []) u
  shown e l w = record { shown = (record { answer = ap answer_of e; reading = subst (λ (z : State). Tells z reading) l w }, tt); left = l }

  pub along_more : Along s text moves declines start t moves' declines' → LineRead text start next bytes → is_full moves' ≡ false → is_full declines' ≡ false → reply ≡ replied (worked t bytes) → u ≡ left_by t (worked t bytes) → Tells u reading → moves'' ≡ extended moves' (move_of start (answer_of reply)) → declines'' ≡ extended declines' (decline_of start (answer_of reply)) → Along s text moves declines next u moves'' declines''
  along_more a read fm fd e l w em ed =
      let same : length a.seen ≡ length a.done = as_many a.done a.seen s a.replies.shown in
      record {
        done = a.done ++ line ∷ [];
        seen = a.seen ++ one_seen ∷ [];
        parted =
            a.parted ∙
            ap (λ (ls : List Line). a.done ++ ls) read.lines ∙
            sym (append_assoc a.done (line ∷ []) (lines_from next (drop next text)));
        replies = subst (λ (cs : List Call). Replied s cs (a.seen ++ one_seen ∷ []) u) (sym (blocks_more a.done line)) (replied_append s t u (blocks_of a.done) a.seen (block_of line ∷ []) (one_seen ∷ []) a.replies (shown e l w));
        moved = rolled_more move_of few_moves a.done a.seen line one_seen same moves moves' moves'' a.moved fm em;
        declined = rolled_more decline_of few_declines a.done a.seen line one_seen same declines declines' declines'' a.declined fd ed;
      }

-- the work is done, or stops before the next line
module _ {s t : State} {text : List ℕ} {moves moves' : RollState (BlockRecord Image)} {declines declines' : RollState (BlockRecord Fault)} (start : ℕ) (a : Along s text moves declines start t moves' declines') where
  stopping : (told : Result (Unit {0}) Fault) → Stopped (lines_from start (drop start text)) moves' declines' told → LinesWorked s (lines_of text) moves declines told t moves' declines'
  stopping told h = record {
    done = a.done;
    next = lines_from start (drop start text);
    seen = a.seen;
    parted = a.parted;
    replied = a.replies;
    moved = a.moved;
    declined = a.declined;
    stopped = h;
    law = in_any_shift s t (blocks_of a.done) a.seen a.replies;
  }

  pub all_worked : start ≡ length text → LinesWorked s (lines_of text) moves declines (Ok tt) t moves' declines'
  all_worked e = stopping (Ok tt) (ap (lines_from start) (drop_all start text (omega arith)))

  pub stopped_by : (next : ℕ) (bytes : List ℕ) → LineRead text start next bytes → (is_full moves' || is_full declines') ≡ true → LinesWorked s (lines_of text) moves declines (Err (RollFull start)) t moves' declines'
  stopped_by next bytes read e = stopping (Err (RollFull start)) (record { start = start; bytes = bytes }, lines_from next (drop next text), read.lines, refl, e)

-- what was filed for the line at a place, in a roll that a question left as it was
pub filed_at : {R : Type 0} (f : ℕ → Result Answer Fault → List R) (a : Result Answer Fault) {roll asked filed : RollState R} {start k : ℕ} → filed ≡ extended asked (f k a) → asked ≡ roll → k ≡ start → filed ≡ extended roll (f start a)
filed_at f a h e p = h ∙ λ i. extended (e i) (f (p i) a)

-- a text that is not too long
pub short_text : {s t : State} {text : List ℕ} {moves moves' : RollState (BlockRecord Image)} {declines declines' : RollState (BlockRecord Fault)} {told : Result (Unit {0}) Fault} → length text ≤ 65536 → LinesWorked s (lines_of text) moves declines told t moves' declines' → TextWorked s text moves declines told t moves' declines'
short_text {text = text} short h = record { lines = lines_are 0 text; worked = λ _. h; long = λ long. absurd (omega arith) }

pub told_as : {s t : State} {text : List ℕ} {moves moves' moves'' : RollState (BlockRecord Image)} {declines declines' declines'' : RollState (BlockRecord Fault)} {told told' : Result (Unit {0}) Fault} → told' ≡ told → moves'' ≡ moves' → declines'' ≡ declines' → TextWorked s text moves declines told t moves' declines' → TextWorked s text moves declines told' t moves'' declines''
told_as {s = s} {t = t} {text = text} {moves = moves} {declines = declines} e m d h = coe 1 0 (i. TextWorked s text moves declines (e i) t (m i) (d i)) h

-- a text as a whole shift
module _ (end : Meaning) (tolerance : Tolerance) (sound : Sound end) (text : List ℕ) (moves : RollState (BlockRecord Image)) (declines : RollState (BlockRecord Fault)) (opening : Reading) (told : Result (Unit {0}) Fault) (s t : State) (moves' : RollState (BlockRecord Image)) (declines' : RollState (BlockRecord Fault)) where
  from_opened : Tells (opened end tolerance) opening → TextWorked (opened end tolerance) text moves declines told t moves' declines' → ShiftWorked end tolerance text moves declines opening told t moves' declines'
  from_opened o w = record {
    tells = o;
    worked = w;
    law = λ short. ((w.worked short).law end tolerance [] opening [] sound o (record { shown = tt; left = refl })).0;
  }

  pub whole_shift : s ≡ opened end tolerance → Tells s opening → TextWorked s text moves declines told t moves' declines' → ShiftWorked end tolerance text moves declines opening told t moves' declines'
  whole_shift e o w = from_opened (subst (λ (z : State). Tells z opening) e o) (subst (λ (z : State). TextWorked z text moves declines told t moves' declines') e w)
