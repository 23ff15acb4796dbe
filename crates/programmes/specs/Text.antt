-- What working a text makes of translator, end and rolls.
use Rattle.std.specs.Prelude.{◌≡◌, ℕ, ◌+◌, ◌<◌, ◌≤◌, Bool, true, false, cond, ◌||◌, List, [], ◌∷◌, ◌++◌, length, take, Ok, Err, Result, slice_index_or}
use Rattle.frames.specs.declared.image.Image.{Image}
use Rattle.units.specs.declared.fault.Fault.{Fault}
use Rattle.units.specs.declared.fault.Fault.TheVariants.{RollFull, Argument}
use Rattle.units.specs.declared.quantity.Tolerance.{Tolerance}
use Rattle.machine.specs.Meaning.{Meaning, Sound}
use Rattle.translator.specs.declared.reply.Reading.{Reading}
use Rattle.translator.specs.State.{State, opened, Tells}
use Rattle.shifts.specs.declared.call.Call.{Call}
use Rattle.shifts.specs.declared.call.Call.TheVariants.{Block}
use Rattle.shifts.specs.declared.call.Answer.{Answer}
use Rattle.shifts.specs.declared.call.Answer.TheVariants.{Replied as Replies, Told}
use Rattle.shifts.specs.declared.call.Seen.{Seen}
use Rattle.shifts.specs.Calls.{Replied}
use Rattle.shifts.specs.Law.{Law}
use Rattle.rolls.specs.Rolls.{RollState, records_of, is_full, extended}
use Rattle.lines.specs.Lines.{Line, lines_of, Lines}
use Rattle.programmes.specs.declared.records.BlockRecord.{BlockRecord}

-- a line's bytes are a block; where they stand in memory tells nothing
abbrev pub block_of : Line → Call
block_of l = Block (record { ref_ptr = (0, 0); now = l.bytes })

abbrev pub blocks_of : List Line → List Call
blocks_of [] = []
blocks_of (l ∷ ls) = block_of l ∷ blocks_of ls

abbrev pub any_moved : List Bool → Bool
any_moved moved = slice_index_or moved 0 false || (slice_index_or moved 1 false || slice_index_or moved 2 false)

-- an accepted block that moved makes a move record, with its start, targets and spreads
abbrev pub move_of : ℕ → Result Answer Fault → List (BlockRecord Image)
move_of start (Ok (Replies r)) = cond (any_moved r.moved) (record { start = start; told = r.image } ∷ []) []
move_of start (Ok (Told t)) = []
move_of start (Err f) = []

-- a declined one makes a decline record, with its start and fault
abbrev pub decline_of : ℕ → Result Answer Fault → List (BlockRecord Fault)
decline_of start (Ok a) = []
decline_of start (Err f) = record { start = start; told = f } ∷ []

-- the records that lines make, in their order, with what was seen of each
abbrev pub made_by : {R : Type 0} → (ℕ → Result Answer Fault → List R) → List Line → List Seen → List R
made_by f [] rs = []
made_by f (l ∷ ls) [] = []
made_by f (l ∷ ls) (r ∷ rs) = f l.start r.answer ++ made_by f ls rs

-- A roll after lines were worked: their records stand behind what stood there, in order, and the places behind them are as they were.
-- There was a place for each, and before each line one was left.
pub record Rolled {R : Type 0} (f : ℕ → Result Answer Fault → List R) (done : List Line) (seen : List Seen) (roll roll' : RollState R) : Type 0 where
  pub left : roll' ≡ extended roll (made_by f done seen)
  pub stands : records_of roll' ≡ records_of roll ++ made_by f done seen
  pub fits : roll.count + length (made_by f done seen) ≤ length roll.places
  pub room : (k : ℕ) → k < length done → roll.count + length (made_by f (take k done) (take k seen)) < length roll.places

-- all lines are worked, or one of the rolls is full before the next, whose start is told
abbrev pub Stopped : List Line → RollState (BlockRecord Image) → RollState (BlockRecord Fault) → Result (Unit {0}) Fault → Type 0
Stopped next moves declines (Ok u) = next ≡ []
Stopped next moves declines (Err f) = (l : Line) × (ls : List Line) × (next ≡ l ∷ ls) × (f ≡ RollFull l.start) × ((is_full moves || is_full declines) ≡ true)

-- whatever shift brought the translator to where it stands, the law holds of it with the blocks as its next calls, and it goes on from there
abbrev pub InAnyShift : State → List Call → List Seen → State → Type 0
InAnyShift s blocks seen t = (end : Meaning) (tolerance : Tolerance) (before : List Call) (opening : Reading) (earlier : List Seen) → Sound end → Tells (opened end tolerance) opening → Replied (opened end tolerance) before earlier s → Law end tolerance (before ++ blocks) opening (earlier ++ seen) × Replied (opened end tolerance) (before ++ blocks) (earlier ++ seen) t

-- Lines worked one after the other: the first of them (done) as blocks of a shift, with one thing seen of each; the rest (next) is not begun.
pub record LinesWorked (s : State) (lines : List Line) (moves : RollState (BlockRecord Image)) (declines : RollState (BlockRecord Fault)) (told : Result (Unit {0}) Fault) (t : State) (moves' : RollState (BlockRecord Image)) (declines' : RollState (BlockRecord Fault)) : Type 0 where
  pub done : List Line
  pub next : List Line
  pub seen : List Seen
  pub parted : lines ≡ done ++ next
  pub replied : Replied s (blocks_of done) seen t
  pub moved : Rolled move_of done seen moves moves'
  pub declined : Rolled decline_of done seen declines declines'
  pub stopped : Stopped next moves' declines' told
  pub law : InAnyShift s (blocks_of done) seen t

-- a text's lines are worked; one of more than 65,536 bytes gets 17, and nothing is done
pub record TextWorked (s : State) (text : List ℕ) (moves : RollState (BlockRecord Image)) (declines : RollState (BlockRecord Fault)) (told : Result (Unit {0}) Fault) (t : State) (moves' : RollState (BlockRecord Image)) (declines' : RollState (BlockRecord Fault)) : Type 0 where
  pub lines : Lines 0 text (lines_of text)
  pub worked : length text ≤ 65536 → LinesWorked s (lines_of text) moves declines told t moves' declines'
  pub long : 65536 < length text → (told ≡ Err Argument) × (t ≡ s) × (moves' ≡ moves) × (declines' ≡ declines)

-- a text as a whole shift over an end: the law holds at the start and after each of its blocks
pub record ShiftWorked (end : Meaning) (tolerance : Tolerance) (text : List ℕ) (moves : RollState (BlockRecord Image)) (declines : RollState (BlockRecord Fault)) (opening : Reading) (told : Result (Unit {0}) Fault) (t : State) (moves' : RollState (BlockRecord Image)) (declines' : RollState (BlockRecord Fault)) : Type 0 where
  pub tells : Tells (opened end tolerance) opening
  pub worked : TextWorked (opened end tolerance) text moves declines told t moves' declines'
  pub law : (short : length text ≤ 65536) → Law end tolerance (blocks_of (worked.worked short).done) opening (worked.worked short).seen
