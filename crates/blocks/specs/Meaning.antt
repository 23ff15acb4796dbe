-- What `block_of` means, as relations over the block's words.
use Rattle.std.specs.Prelude.{◌≡◌, ℕ, ◌<◌, ◌≤◌, Bool, true, false, ◌⊎◌, List, [], ◌∷◌, ◌++◌, length, is_some, Some, None, Ok, Err, Option, Result, slice_index_or}
use Rattle.std.specs.List.{AllByRecursion}
use Rattle.units.specs.declared.axis.Axis.{Axis}
use Rattle.units.specs.declared.fault.Fault.{Fault}
use Rattle.units.specs.declared.fault.Fault.TheVariants.{TooLong, Repeated, Misplaced, Unfit, Range}
use Rattle.units.specs.declared.quantity.Length.{Length}
use Rattle.units.specs.declared.quantity.Factor.{Factor}
use Rattle.units.specs.declared.quantity.Angle.{Angle}
use Rattle.reader.specs.declared.types.Number.{Number}
use Rattle.reader.specs.declared.types.Said.{Said}
use Rattle.reader.specs.declared.types.Said.TheVariants.{Axis as s_axis, Rpl as s_rpl}
use Rattle.reader.specs.declared.types.Item.{Item}
use Rattle.reader.specs.WordList.{Run, words}
use Rattle.reader.specs.Words.{ItemIs, Declined}
use Rattle.blocks.specs.declared.gathered.StepKind.{StepKind}
use Rattle.blocks.specs.declared.gathered.StepKind.TheVariants.{Offset as an_offset, Turn as a_turn, Scale as a_scale, Mirror as a_mirror}
use Rattle.blocks.specs.declared.gathered.Instruction.TheVariants.{Frame as a_frame, Limit as a_limit}
use Rattle.blocks.specs.declared.types.FrameStep.{FrameStep}
use Rattle.blocks.specs.declared.types.FrameStep.TheVariants.{Offset, Turn, Scale, Mirror}
use Rattle.blocks.specs.declared.types.FrameChange.{FrameChange}
use Rattle.blocks.specs.declared.types.FrameChange.TheVariants.{Empty, Replace, Append}
use Rattle.blocks.specs.declared.types.Ordinary.{Ordinary}
use Rattle.blocks.specs.declared.types.Block.{Block}
use Rattle.blocks.specs.declared.types.Block.TheVariants.{Frame, Limit, Ordinary as an_ordinary}
use Rattle.blocks.specs.Slots.{axis_index}
use Rattle.blocks.specs.Found.{find, g_of, motion_of, plane_of, settable_of, machine_of, unit_of, distance_of, ends_m, axis_of, rpl_of, repeated, Unrepeated}
use Rattle.blocks.specs.Order.{instruction, leftmost, misplaced_by, is_axis}
use Rattle.blocks.specs.Measures.{length_in, factor_in, angle_in}
use Rattle.blocks.specs.Rules.{unfit, measure, bad, inch_in}
use Rattle.blocks.specs.Block.{block_of}

-- Words and lists

abbrev pub Among : List Item → Item → Type 0
Among [] x = ⊥
Among (y ∷ ys) x = (y ≡ x) ⊎ Among ys x

-- each word says its item
abbrev pub SaysEach : List Run → List Item → Type 0
SaysEach [] [] = Unit {0}
SaysEach [] (x ∷ xs) = ⊥
SaysEach (r ∷ rs) [] = ⊥
SaysEach (r ∷ rs) (x ∷ xs) = ItemIs r.text r.at x × SaysEach rs xs

-- the words rs are right, each by itself and beside the earlier ones, and say ws
pub record Right (rs : List Run) (ws : List Item) : Type 0 where
  pub says : SaysEach rs ws
  pub apart : Unrepeated ws

-- f is the fault of the first word from the left that is wrong: by itself (2, then 4, then 3), else as a repeated one (5)
pub record FirstFault (rs : List Run) (f : Fault) : Type 0 where
  pub after : List Run
  pub word : Run
  pub earlier : List Run
  pub items : List Item
  pub parts : rs ≡ after ++ word ∷ earlier
  pub before : Right earlier items
  pub wrong : Declined word.text word.at f ⊎ ((x : Item) × ItemIs word.text word.at x × (repeated items x.says ≡ true) × (f ≡ Repeated word.at))

-- p is the place of a word that passes the test after the words before it, none of which passes
pub record Leftmost (test : List Item → Said → Bool) (ws : List Item) (p : ℕ) : Type 0 where
  pub after : List Item
  pub word : Item
  pub earlier : List Item
  pub parts : ws ≡ after ++ word ∷ earlier
  pub passes : test earlier word.says ≡ true
  pub told : p ≡ word.place
  pub none : leftmost test earlier ≡ None

abbrev pub PassedBy : (List Item → Said → Bool) → List Item → Type 0
PassedBy test [] = Unit {0}
PassedBy test (x ∷ earlier) = (test earlier x.says ≡ false) × PassedBy test earlier

-- Values

-- o is the value of the axis word of a, which is in range; none where the block has no such word
pub data ValueOf {V : Type 0} (value : Number → Option V) (ws : List Item) (a : Axis) (o : Option V) : Type 0 where
  given : (n : Number) (p : ℕ) (v : V) → Among ws (record { says = s_axis a n; place = p }) → value n ≡ Some v → o ≡ Some v → ValueOf value ws a o
  absent : AllByRecursion (λ x. axis_of a x ≡ None) ws → o ≡ None → ValueOf value ws a o

-- vs has the value of each axis
abbrev pub Values : {V : Type 0} → (Number → Option V) → List Item → List (Option V) → Type 0
Values value ws vs = (length vs ≡ 3) × ((a : Axis) → ValueOf value ws a (slice_index_or vs (axis_index a) None))

-- v is the value of the RPL word, which is in range
pub record TurnOf (ws : List Item) (v : Angle) : Type 0 where
  pub number : Number
  pub place : ℕ
  pub among : Among ws (record { says = s_rpl number; place = place })
  pub value : angle_in number ≡ Some v

abbrev pub StepIs : StepKind → Bool → List Item → FrameStep → Type 0
StepIs an_offset inch ws s = (vs : List (Option Length)) × (s ≡ Offset vs) × Values (length_in inch) ws vs
StepIs a_turn inch ws s = (v : Angle) × (s ≡ Turn v) × TurnOf ws v
StepIs a_scale inch ws s = (vs : List (Option Factor)) × (s ≡ Scale vs) × Values factor_in ws vs
StepIs a_mirror inch ws s = (bs : List Bool) × (s ≡ Mirror bs) × (length bs ≡ 3) × ((a : Axis) → slice_index_or bs (axis_index a) false ≡ is_some (find (axis_of a) ws))

-- no axis word and no RPL word
abbrev pub Bare : List Item → Type 0
Bare ws = AllByRecursion (λ x. is_axis x.says ≡ false) ws × AllByRecursion (λ x. rpl_of x ≡ None) ws

abbrev pub ChangeIs : StepKind → Bool → Bool → List Item → FrameChange → Type 0
ChangeIs kind additive inch ws Empty = (additive ≡ false) × Bare ws
ChangeIs kind additive inch ws (Replace s) = (additive ≡ false) × (Bare ws → ⊥) × StepIs kind inch ws s
ChangeIs kind additive inch ws (Append s) = (additive ≡ true) × StepIs kind inch ws s

pub record OrdinaryIs (inch : Bool) (ws : List Item) (o : Ordinary) : Type 0 where
  pub none : instruction ws ≡ None
  pub motion : o.selections.motion ≡ find (g_of motion_of) ws
  pub plane : o.selections.plane ≡ find (g_of plane_of) ws
  pub settable : o.selections.settable ≡ find (g_of settable_of) ws
  pub unit : o.selections.unit ≡ find (g_of unit_of) ws
  pub distance : o.selections.distance ≡ find (g_of distance_of) ws
  pub machine : o.machine ≡ find (g_of machine_of) ws
  pub values : Values (length_in inch) ws o.words
  pub first : o.first ≡ leftmost (λ earlier x. is_axis x) ws
  pub ends : o.ends ≡ ends_m ws

-- b tells what the words ws say, no value lost
abbrev pub Tells : Bool → List Item → Block → Type 0
Tells inch ws (Frame change p) = (kind : StepKind) × (additive : Bool) × (instruction ws ≡ Some (record { by = a_frame kind additive; place = p })) × ChangeIs kind additive inch ws change
Tells inch ws (Limit side vs p) = (instruction ws ≡ Some (record { by = a_limit side; place = p })) × Values (length_in inch) ws vs
Tells inch ws (an_ordinary o) = OrdinaryIs inch ws o

-- The block

-- the words of bs, at most 512 bytes, are right and say ws
pub record Reads (bs : List ℕ) (ws : List Item) : Type 0 where
  pub short : length bs ≤ 512
  pub right : Right (words bs (length bs)) ws

-- 1, then the first wrong word, then 6, 7 and 8, each told where the ones before are silent, else the block
pub data Means (bs : List ℕ) (inch : Bool) (r : Result Block Fault) : Type 0 where
  too_long : 512 < length bs → r ≡ Err TooLong → Means bs inch r
  wrong_word : (f : Fault) → length bs ≤ 512 → FirstFault (words bs (length bs)) f → r ≡ Err f → Means bs inch r
  misplaced_word : (ws : List Item) (p : ℕ) → Reads bs ws → Leftmost (misplaced_by (is_some (instruction ws))) ws p → r ≡ Err (Misplaced p) → Means bs inch r
  unfit_words : (ws : List Item) (p : ℕ) → Reads bs ws → PassedBy (misplaced_by (is_some (instruction ws))) ws → unfit ws ≡ Some p → r ≡ Err (Unfit p) → Means bs inch r
  out_of_range : (ws : List Item) (p : ℕ) → Reads bs ws → PassedBy (misplaced_by (is_some (instruction ws))) ws → unfit ws ≡ None → Leftmost (λ earlier x. bad (measure inch ws) x) ws p → r ≡ Err (Range p) → Means bs inch r
  right_block : (ws : List Item) (b : Block) → Reads bs ws → PassedBy (misplaced_by (is_some (instruction ws))) ws → unfit ws ≡ None → PassedBy (λ earlier x. bad (measure inch ws) x) ws → Tells (inch_in inch ws) ws b → r ≡ Ok b → Means bs inch r

abbrev pub BlockStands : Type 0
BlockStands = (bs : List ℕ) (inch : Bool) → Means bs inch (block_of bs inch)
