-- What the order of the words decides: the leftmost word of each kind.
use Rattle.std.specs.Prelude.{ℕ, Bool, true, false, cond, ◌&&◌, List, [], ◌∷◌, is_some, Some, None, Option}
use Rattle.units.specs.declared.axis.Side.{Side}
use Rattle.reader.specs.declared.functions.GFunction.{GFunction}
use Rattle.reader.specs.declared.functions.GFunction.TheVariants.{Motion, Plane, Settable, Machine, Unit as LengthsIn, Distance, Limit as LimitG}
use Rattle.reader.specs.declared.types.FrameName.{FrameName}
use Rattle.reader.specs.declared.types.FrameName.TheVariants.{Trans, Rot, Scale, Mirror, Atrans, Arot, Ascale, Amirror}
use Rattle.reader.specs.declared.types.Said.{Said}
use Rattle.reader.specs.declared.types.Said.TheVariants.{Name as s_name, Axis as s_axis, Rpl as s_rpl, G as s_g, M as s_m, N as s_n, Passed as s_passed}
use Rattle.reader.specs.declared.types.Item.{Item}
use Rattle.blocks.specs.declared.gathered.StepKind.TheVariants.{Offset, Turn, Scale as Scaling, Mirror as Mirroring}
use Rattle.blocks.specs.declared.gathered.Instruction.{Instruction}
use Rattle.blocks.specs.declared.gathered.Instruction.TheVariants.{Frame, Limit}
use Rattle.blocks.specs.declared.gathered.Placed.{Placed}
use Rattle.blocks.specs.declared.gathered.Order.{Order}
use Rattle.blocks.specs.Slots.{hit}
use Rattle.blocks.specs.Found.{is_n}

-- what is held, else the new value
abbrev pub keep : {X : Type 0} → Option X → Option X → Option X
keep o None = o
keep None (Some v) = Some v
keep (Some u) (Some v) = Some u

-- what the leftmost word that says something says; a word is asked with the words before it
abbrev pub first : {X : Type 0} → (List Item → Item → Option X) → List Item → Option X
first pick [] = None
first pick (x ∷ earlier) = keep (first pick earlier) (pick earlier x)

-- the place of the leftmost word that passes the test
abbrev pub leftmost : (List Item → Said → Bool) → List Item → Option ℕ
leftmost test ws = first (λ earlier x. hit (test earlier x.says) x.place) ws

abbrev pub any : List Item → Bool
any [] = false
any (x ∷ ws) = true

-- TRANS and ATRANS make an offset, ROT and AROT a turn, SCALE and ASCALE a scale, MIRROR and AMIRROR a mirror; those with A are additive
abbrev pub framing : FrameName → Instruction
framing Trans = Frame Offset false
framing Rot = Frame Turn false
framing Scale = Frame Scaling false
framing Mirror = Frame Mirroring false
framing Atrans = Frame Offset true
framing Arot = Frame Turn true
framing Ascale = Frame Scaling true
framing Amirror = Frame Mirroring true

-- G25 and G26
abbrev pub limit_side : GFunction → Option Side
limit_side (Motion m) = None
limit_side (Plane p) = None
limit_side (Settable s) = None
limit_side Machine = None
limit_side (LengthsIn u) = None
limit_side (Distance d) = None
limit_side (LimitG s) = Some s

abbrev pub limiting : Option Side → Option Instruction
limiting None = None
limiting (Some s) = Some (Limit s)

-- the instruction that a word is: a frame name, G25 or G26
abbrev pub instructs : Said → Option Instruction
instructs (s_name f) = Some (framing f)
instructs (s_axis a n) = None
instructs (s_rpl n) = None
instructs (s_g g) = limiting (limit_side g)
instructs (s_m m) = None
instructs s_n = None
instructs (s_passed a) = None

abbrev pub placed : Option Instruction → ℕ → Option Placed
placed None p = None
placed (Some i) p = Some (record { by = i; place = p })

-- the first instruction of the block
abbrev pub instruction : List Item → Option Placed
instruction ws = first (λ earlier x. placed (instructs x.says) x.place) ws

abbrev pub beside_g : Bool → Option Side → Bool
beside_g later None = true
beside_g later (Some s) = later

-- may not stand beside an instruction: a word other than N, X, Y, Z and RPL; an instruction itself only behind an earlier one
abbrev pub stray_by : Bool → Said → Bool
stray_by later (s_name f) = later
stray_by later (s_axis a n) = false
stray_by later (s_rpl n) = false
stray_by later (s_g g) = beside_g later (limit_side g)
stray_by later (s_m m) = true
stray_by later s_n = false
stray_by later (s_passed a) = true

-- an N word behind another word, or, if the block has an instruction, a word that may not stand beside it
abbrev pub misplaced_by : Bool → List Item → Said → Bool
misplaced_by instructed earlier x = cond (is_n x) (any earlier) (instructed && stray_by (is_some (instruction earlier)) x)

abbrev pub is_axis : Said → Bool
is_axis (s_name f) = false
is_axis (s_axis a n) = true
is_axis (s_rpl n) = false
is_axis (s_g g) = false
is_axis (s_m m) = false
is_axis s_n = false
is_axis (s_passed a) = false

-- the order of the words of a list
abbrev pub order_of : List Item → Order
order_of ws = record {
  any = any ws;
  instruction = instruction ws;
  late = leftmost (misplaced_by false) ws;
  stray = leftmost (misplaced_by true) ws;
  axis = leftmost (λ earlier x. is_axis x) ws;
}

-- one word more, from what is noted of the earlier ones
abbrev pub noted : Order → Item → Order
noted o x = record {
  any = true;
  instruction = keep o.instruction (placed (instructs x.says) x.place);
  late = keep o.late (hit (cond (is_n x.says) o.any false) x.place);
  stray = keep o.stray (hit (cond (is_n x.says) o.any (stray_by (is_some o.instruction) x.says)) x.place);
  axis = keep o.axis (hit (is_axis x.says) x.place);
}

abbrev pub empty_order : Order
empty_order = record { any = false; instruction = None; late = None; stray = None; axis = None }

-- the same by the kind of the word: an instruction, a word that may not stand beside one, N, an axis word
abbrev pub with_instruction : Order → Instruction → ℕ → Order
with_instruction o i p = record { any = true; instruction = keep o.instruction (Some (record { by = i; place = p })); late = o.late; stray = keep o.stray (hit (is_some o.instruction) p); axis = o.axis }

abbrev pub with_stray : Order → ℕ → Order
with_stray o p = record { any = true; instruction = o.instruction; late = o.late; stray = keep o.stray (Some p); axis = o.axis }

abbrev pub with_n : Order → ℕ → Order
with_n o p = record { any = true; instruction = o.instruction; late = keep o.late (hit o.any p); stray = keep o.stray (hit o.any p); axis = o.axis }

abbrev pub with_axis : Order → ℕ → Order
with_axis o p = record { any = true; instruction = o.instruction; late = o.late; stray = o.stray; axis = keep o.axis (Some p) }
