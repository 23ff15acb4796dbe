-- What one word says or how it is declined, as a definition that computes.
use Rattle.std.specs.Prelude.{ℕ, zero, suc, ◌+◌, Bool, true, false, cond, ◌&&◌, ◌||◌, List, [], ◌∷◌, map, length, take, drop, Some, None, Ok, Err, count_by, Option, Result, ◌==◌, nat_eq, nat_le}
use Rattle.std.specs.Str.Parse.{digits_value}
use Rattle.std.specs.Char.{is_ascii_digit, to_ascii_uppercase}
use Rattle.std.specs.List.{prefix_len}
use Rattle.units.specs.declared.axis.Axis.TheVariants.{X, Y, Z}
use Rattle.units.specs.declared.axis.Plane.TheVariants.{Xy, Zx, Yz}
use Rattle.units.specs.declared.axis.Side.TheVariants.{Lower, Upper}
use Rattle.units.specs.declared.fault.Fault.{Fault}
use Rattle.units.specs.declared.fault.Fault.TheVariants.{Byte, Shape, Unknown}
use Rattle.reader.specs.declared.functions.Motion.TheVariants.{Rapid, Linear}
use Rattle.reader.specs.declared.functions.Settable.TheVariants.{G500, G54, G55, G56, G57, G58, G59}
use Rattle.reader.specs.declared.functions.LengthUnit.TheVariants.{Inch, Millimetre}
use Rattle.reader.specs.declared.functions.Distance.TheVariants.{Absolute, Incremental}
use Rattle.reader.specs.declared.functions.GFunction.{GFunction}
use Rattle.reader.specs.declared.functions.GFunction.TheVariants.{Motion, Plane, Settable, Machine, Unit as LengthsIn, Distance, Limit}
use Rattle.reader.specs.declared.types.FrameName.TheVariants.{Trans, Rot, Scale, Mirror, Atrans, Arot, Ascale, Amirror}
use Rattle.reader.specs.declared.types.Passed.{Passed}
use Rattle.reader.specs.declared.types.Passed.TheVariants.{F, S, T, D}
use Rattle.reader.specs.declared.types.Address.{Address}
use Rattle.reader.specs.declared.types.Address.TheVariants.{N as at_n, G as at_g, M as at_m, Passed as at_passed, Axis as at_axis, Rpl as at_rpl, Name as at_name}
use Rattle.reader.specs.declared.types.Number.{Number}
use Rattle.reader.specs.declared.types.Said.{Said}
use Rattle.reader.specs.declared.types.Said.TheVariants.{Name as s_name, Axis as s_axis, Rpl as s_rpl, G as s_g, M as s_m, N as s_n, Passed as s_passed}
use Rattle.reader.specs.declared.types.Item.{Item}
use Rattle.reader.specs.Shapes.{is_point, digits, decimals, unsigned, valued}
use Rattle.reader.specs.Words.{in_word, spelled, letters_of, tail_of, g_number, m_function}

-- how long the longest front of s that passes is, up to n bytes
abbrev pub longest : (List ℕ → Bool) → List ℕ → ℕ → ℕ
longest ok s zero = 0
longest ok s (suc n) = cond (ok (take (suc n) s)) (suc n) (longest ok s n)

abbrev pub every : (ℕ → Bool) → List ℕ → Bool
every p [] = true
every p (b ∷ bs) = p b && every p bs

-- what 1 to 8 digits may begin with, and what they are
abbrev pub ok_code : List ℕ → Bool
ok_code t = every is_ascii_digit t && nat_le (length t) 8

abbrev pub is_code : List ℕ → Bool
is_code t = ok_code t && nat_le 1 (length t)

-- the same of 1 to 10 digits and at most one point
abbrev pub ok_magnitude : List ℕ → Bool
ok_magnitude t = every (λ b. is_ascii_digit b || is_point b) t && (nat_le (length (digits t)) 10 && nat_le (count_by is_point t) 1)

abbrev pub is_magnitude : List ℕ → Bool
is_magnitude t = ok_magnitude t && nat_le 1 (length (digits t))

-- of an optional sign before them
abbrev pub ok_number : List ℕ → Bool
ok_number t = ok_magnitude (unsigned t)

abbrev pub is_number : List ℕ → Bool
is_number t = is_magnitude (unsigned t)

-- of `=` and a number
abbrev pub ok_turn : List ℕ → Bool
ok_turn [] = true
ok_turn (b ∷ t) = b == 61 && ok_number t

abbrev pub is_turn : List ℕ → Bool
is_turn [] = false
is_turn (b ∷ t) = b == 61 && is_number t

abbrev pub is_none : List ℕ → Bool
is_none [] = true
is_none (b ∷ t) = false

abbrev pub ok_passed : Passed → List ℕ → Bool
ok_passed F = ok_number
ok_passed S = ok_number
ok_passed T = ok_code
ok_passed D = ok_code

-- what may begin what follows an address, and what it is
abbrev pub ok : Address → List ℕ → Bool
ok at_n = ok_code
ok at_g = ok_code
ok at_m = ok_code
ok (at_passed a) = ok_passed a
ok (at_axis a) = ok_number
ok at_rpl = ok_turn
ok (at_name f) = is_none

abbrev pub fits_passed : Passed → List ℕ → Bool
fits_passed F = is_number
fits_passed S = is_number
fits_passed T = is_code
fits_passed D = is_code

abbrev pub fits : Address → List ℕ → Bool
fits at_n = is_code
fits at_g = is_code
fits at_m = is_code
fits (at_passed a) = fits_passed a
fits (at_axis a) = is_number
fits at_rpl = is_turn
fits (at_name f) = is_none

abbrev pub alike : List ℕ → List ℕ → Bool
alike [] [] = true
alike [] (b ∷ t) = false
alike (a ∷ s) [] = false
alike (a ∷ s) (b ∷ t) = a == b && alike s t

-- the first of a list that passes
abbrev pub look : {X : Type 0} → (X → Bool) → List X → Option X
look test [] = None
look test (x ∷ xs) = cond (test x) (Some x) (look test xs)

-- all addresses
abbrev pub addresses : List Address
addresses = at_n ∷ at_g ∷ at_m ∷ at_passed F ∷ at_passed S ∷ at_passed T ∷ at_passed D ∷ at_axis X ∷ at_axis Y ∷ at_axis Z ∷ at_rpl ∷ at_name Trans ∷ at_name Rot ∷ at_name Scale ∷ at_name Mirror ∷ at_name Atrans ∷ at_name Arot ∷ at_name Ascale ∷ at_name Amirror ∷ []

-- all G functions
abbrev pub functions : List GFunction
functions = Motion Rapid ∷ Motion Linear ∷ Plane Xy ∷ Plane Zx ∷ Plane Yz ∷ Limit Lower ∷ Limit Upper ∷ Machine ∷ Settable G54 ∷ Settable G55 ∷ Settable G56 ∷ Settable G57 ∷ Settable G58 ∷ Settable G59 ∷ LengthsIn Inch ∷ LengthsIn Millimetre ∷ Distance Absolute ∷ Distance Incremental ∷ Settable G500 ∷ []

abbrev pub spelled_by : List ℕ → Option Address
spelled_by l = look (λ a. alike l (spelled a)) addresses

abbrev pub address_of : List ℕ → Option Address
address_of w = spelled_by (map to_ascii_uppercase (take (letters_of w) w))

abbrev pub function_of : ℕ → Option GFunction
function_of n = look (λ g. nat_eq n (g_number g)) functions

abbrev pub number_of : List ℕ → Number
number_of t = record { value = valued t; decimals = decimals (unsigned t) }

abbrev pub as_g : Option GFunction → Option Said
as_g None = None
as_g (Some g) = Some (s_g g)

-- what the address and what follows it say; none for an unlisted G number
abbrev pub said_by : Address → List ℕ → Option Said
said_by at_n t = Some s_n
said_by at_g t = as_g (function_of (digits_value 10 t))
said_by at_m t = Some (s_m (m_function (digits_value 10 t)))
said_by (at_passed a) t = Some (s_passed a)
said_by (at_axis a) t = Some (s_axis a (number_of t))
said_by at_rpl t = Some (s_rpl (number_of (drop 1 t)))
said_by (at_name f) t = Some (s_name f)

-- 4 for a G number, else the word
abbrev pub listed : ℕ → Option Said → Result Item Fault
listed p None = Err (Unknown p)
listed p (Some x) = Ok (record { says = x; place = p })

-- 4 for an address, then 3
abbrev pub addressed : List ℕ → ℕ → Option Address → Result Item Fault
addressed w p None = Err (Unknown p)
addressed w p (Some a) = cond (fits a (tail_of w)) (listed p (said_by a (tail_of w))) (Err (Shape (p + letters_of w + longest (ok a) (tail_of w) (length (tail_of w)))))

-- 2 comes first
abbrev pub reading : List ℕ → ℕ → Result Item Fault
reading w p = cond (nat_le (length w) (prefix_len in_word w)) (addressed w p (address_of w)) (Err (Byte (p + prefix_len in_word w)))
