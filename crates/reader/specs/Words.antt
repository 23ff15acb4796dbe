-- What one word says, and how it is declined.
use Rattle.std.specs.Prelude.{◌≡◌, ℕ, ◌+◌, ◌<◌, Bool, true, false, cond, ◌||◌, ◌⊎◌, List, [], map, length, take, drop, Some, None, codes, Option, ◌==◌, ◌≢◌, slice_index}
use Rattle.std.specs.Str.Parse.{digits_value}
use Rattle.std.specs.Char.{is_ascii_alphanumeric, is_ascii_alphabetic, to_ascii_uppercase}
use Rattle.std.specs.List.{prefix_len}
use Rattle.units.specs.declared.axis.Axis.{Axis}
use Rattle.units.specs.declared.axis.Axis.TheVariants.{X, Y, Z}
use Rattle.units.specs.declared.axis.Plane.TheVariants.{Xy, Zx, Yz}
use Rattle.units.specs.declared.axis.Side.TheVariants.{Lower, Upper}
use Rattle.units.specs.declared.fault.Fault.{Fault}
use Rattle.units.specs.declared.fault.Fault.TheVariants.{Byte, Shape, Unknown}
use Rattle.reader.specs.declared.functions.Motion.TheVariants.{Rapid, Linear}
use Rattle.reader.specs.declared.functions.Settable.TheVariants.{G500, G54, G55, G56, G57, G58, G59}
use Rattle.reader.specs.declared.functions.LengthUnit.TheVariants.{Inch, Millimetre}
use Rattle.reader.specs.declared.functions.Distance.TheVariants.{Absolute, Incremental}
use Rattle.reader.specs.declared.functions.GFunction.{GFunction}
use Rattle.reader.specs.declared.functions.GFunction.TheVariants.{Motion, Plane, Settable, Machine, Unit as LengthsIn, Distance, Limit}
use Rattle.reader.specs.declared.functions.MFunction.{MFunction}
use Rattle.reader.specs.declared.functions.MFunction.TheVariants.{End, Other}
use Rattle.reader.specs.declared.types.FrameName.{FrameName}
use Rattle.reader.specs.declared.types.FrameName.TheVariants.{Trans, Rot, Scale, Mirror, Atrans, Arot, Ascale, Amirror}
use Rattle.reader.specs.declared.types.Passed.{Passed}
use Rattle.reader.specs.declared.types.Passed.TheVariants.{F, S, T, D}
use Rattle.reader.specs.declared.types.Address.{Address}
use Rattle.reader.specs.declared.types.Address.TheVariants.{N as at_n, G as at_g, M as at_m, Passed as at_passed, Axis as at_axis, Rpl as at_rpl, Name as at_name}
use Rattle.reader.specs.declared.types.Number.{Number}
use Rattle.reader.specs.declared.types.Said.{Said}
use Rattle.reader.specs.declared.types.Said.TheVariants.{Name as s_name, Axis as s_axis, Rpl as s_rpl, G as s_g, M as s_m, N as s_n, Passed as s_passed}
use Rattle.reader.specs.declared.types.Item.{Item}
use Rattle.reader.specs.declared.types.Word.{Word}
use Rattle.reader.specs.declared.types.Word.TheVariants.{Name, Axis as axis_word, Rpl, G, M, N, Passed as passed_word, Comment}
use Rattle.reader.specs.Shapes.{IsNumber, IsCode, IsTurn, FirstWrong, valued, decimals, unsigned}

-- letters, digits, `+`, `-`, `.` and `=`
abbrev pub in_word : ℕ → Bool
in_word b = is_ascii_alphanumeric b || (b == 43 || (b == 45 || (b == 46 || b == 61)))

abbrev pub Clean : List ℕ → Type 0
Clean w = (k : ℕ) → k < length w → in_word (slice_index w k) ≡ true

-- i is the place of the first byte that no word holds
pub record FirstBad (w : List ℕ) (i : ℕ) : Type 0 where
  pub inside : i < length w
  pub bad : in_word (slice_index w i) ≡ false
  pub good : (k : ℕ) → k < i → in_word (slice_index w k) ≡ true

-- how the frame names and the addresses are spelled
abbrev pub frame_name : FrameName → List ℕ
frame_name Trans = codes "TRANS"
frame_name Rot = codes "ROT"
frame_name Scale = codes "SCALE"
frame_name Mirror = codes "MIRROR"
frame_name Atrans = codes "ATRANS"
frame_name Arot = codes "AROT"
frame_name Ascale = codes "ASCALE"
frame_name Amirror = codes "AMIRROR"

abbrev pub axis_name : Axis → List ℕ
axis_name X = codes "X"
axis_name Y = codes "Y"
axis_name Z = codes "Z"

abbrev pub passed_name : Passed → List ℕ
passed_name F = codes "F"
passed_name S = codes "S"
passed_name T = codes "T"
passed_name D = codes "D"

abbrev pub spelled : Address → List ℕ
spelled at_n = codes "N"
spelled at_g = codes "G"
spelled at_m = codes "M"
spelled (at_passed a) = passed_name a
spelled (at_axis a) = axis_name a
spelled at_rpl = codes "RPL"
spelled (at_name f) = frame_name f

-- the letters spell the address, capital or small
abbrev pub Names : List ℕ → Address → Type 0
Names l a = map to_ascii_uppercase l ≡ spelled a

-- the leading letters, and what follows them
abbrev pub letters_of : List ℕ → ℕ
letters_of w = prefix_len is_ascii_alphabetic w

abbrev pub tail_of : List ℕ → List ℕ
tail_of w = drop (letters_of w) w

abbrev pub Addressed : List ℕ → Address → Type 0
Addressed w a = Names (take (letters_of w) w) a

-- what follows an address
abbrev pub FollowsPassed : Passed → List ℕ → Type 0
FollowsPassed F t = IsNumber t
FollowsPassed S t = IsNumber t
FollowsPassed T t = IsCode t
FollowsPassed D t = IsCode t

abbrev pub Follows : Address → List ℕ → Type 0
Follows at_n t = IsCode t
Follows at_g t = IsCode t
Follows at_m t = IsCode t
Follows (at_passed a) t = FollowsPassed a t
Follows (at_axis a) t = IsNumber t
Follows at_rpl t = IsTurn t
Follows (at_name f) t = t ≡ []

-- the number of a G function
abbrev pub g_number : GFunction → ℕ
g_number (Motion Rapid) = 0
g_number (Motion Linear) = 1
g_number (Plane Xy) = 17
g_number (Plane Zx) = 18
g_number (Plane Yz) = 19
g_number (Limit Lower) = 25
g_number (Limit Upper) = 26
g_number Machine = 53
g_number (Settable G54) = 54
g_number (Settable G55) = 55
g_number (Settable G56) = 56
g_number (Settable G57) = 57
g_number (Settable G58) = 58
g_number (Settable G59) = 59
g_number (LengthsIn Inch) = 70
g_number (LengthsIn Millimetre) = 71
g_number (Distance Absolute) = 90
g_number (Distance Incremental) = 91
g_number (Settable G500) = 500

-- n is the number of no G function
abbrev pub Unlisted : ℕ → Type 0
Unlisted n = (g : GFunction) → n ≢ g_number g

-- M2 and M30 end the programme
abbrev pub m_function : ℕ → MFunction
m_function n = cond (n == 2 || n == 30) End Other

-- a number has the value and the decimals of the text t
abbrev pub Counts : Number → List ℕ → Type 0
Counts n t = (n.value ≡ valued t) × (n.decimals ≡ decimals (unsigned t))

-- the address of what is said, and its values, from what follows the address
abbrev pub said : Said → Address
said (s_name f) = at_name f
said (s_axis a n) = at_axis a
said (s_rpl n) = at_rpl
said (s_g g) = at_g
said (s_m m) = at_m
said s_n = at_n
said (s_passed a) = at_passed a

abbrev pub Says : List ℕ → Said → Type 0
Says t (s_name f) = Unit {0}
Says t (s_axis a n) = Counts n t
Says t (s_rpl n) = Counts n (drop 1 t)
Says t (s_g g) = digits_value 10 t ≡ g_number g
Says t (s_m m) = m ≡ m_function (digits_value 10 t)
Says t s_n = Unit {0}
Says t (s_passed a) = Unit {0}

-- i is what the bytes w, at p, say: a word that is right by itself
pub record ItemIs (w : List ℕ) (p : ℕ) (i : Item) : Type 0 where
  pub place : i.place ≡ p
  pub address : Addressed w (said i.says)
  pub follows : Follows (said i.says) (tail_of w)
  pub values : Says (tail_of w) i.says

-- a word without its bytes (the comment says nothing), and its bytes
abbrev pub item_of : Word → Option Item
item_of (Name f t q) = Some (record { says = s_name f; place = q })
item_of (axis_word a n t q) = Some (record { says = s_axis a n; place = q })
item_of (Rpl n t q) = Some (record { says = s_rpl n; place = q })
item_of (G g t q) = Some (record { says = s_g g; place = q })
item_of (M m t q) = Some (record { says = s_m m; place = q })
item_of (N t q) = Some (record { says = s_n; place = q })
item_of (passed_word a t q) = Some (record { says = s_passed a; place = q })
item_of (Comment t q) = None

abbrev pub text_of : Word → List ℕ
text_of (Name f t q) = t.now
text_of (axis_word a n t q) = t.now
text_of (Rpl n t q) = t.now
text_of (G g t q) = t.now
text_of (M m t q) = t.now
text_of (N t q) = t.now
text_of (passed_word a t q) = t.now
text_of (Comment t q) = t.now

abbrev pub place_of : Word → ℕ
place_of (Name f t q) = q
place_of (axis_word a n t q) = q
place_of (Rpl n t q) = q
place_of (G g t q) = q
place_of (M m t q) = q
place_of (N t q) = q
place_of (passed_word a t q) = q
place_of (Comment t q) = q

abbrev pub ItemOf : List ℕ → ℕ → Option Item → Type 0
ItemOf w p None = ⊥
ItemOf w p (Some i) = ItemIs w p i

-- x is the word that the bytes w, at p, are
abbrev pub WordIs : List ℕ → ℕ → Word → Type 0
WordIs w p x = (text_of x ≡ w) × ItemOf w p (item_of x)

-- the letters are no address, or G with a number that is not listed
abbrev pub Strange : List ℕ → Type 0
Strange w = ((a : Address) → Addressed w a → ⊥) ⊎ (Addressed w at_g × IsCode (tail_of w) × Unlisted (digits_value 10 (tail_of w)))

-- what follows the address goes wrong at i
pub record Misshapen (w : List ℕ) (i : ℕ) : Type 0 where
  pub under : Address
  pub address : Addressed w under
  pub wrong : FirstWrong (Follows under) (tail_of w) i

-- the word w at p is declined with f: 2 at its first wrong byte; else 4 at the word; else 3 at the first wrong byte of what follows the address
pub data Declined (w : List ℕ) (p : ℕ) (f : Fault) : Type 0 where
  by_byte : (i : ℕ) → FirstBad w i → f ≡ Byte (p + i) → Declined w p f
  by_address : Clean w → Strange w → f ≡ Unknown p → Declined w p f
  by_shape : (i : ℕ) → Clean w → Misshapen w i → f ≡ Shape (p + letters_of w + i) → Declined w p f
