-- A number of a line: decimal digits after an optional minus, within 64 bits.
use Rattle.std.specs.Prelude.{ℕ, ◌+◌, ◌-◌, ◌*◌, ◌^◌, Bool, true, cond, ◌&&◌, List, [], ◌∷◌, ℤ, pos, neg_ℤ, Some, None, Option, ◌==◌, nat_le}

abbrev pub is_digit : ℕ → Bool
is_digit b = nat_le 48 b && nat_le b 57

abbrev pub all_digits : List ℕ → Bool
all_digits [] = true
all_digits (b ∷ bs) = is_digit b && all_digits bs

-- the value of digits that follow those of value n
abbrev pub value_from : ℕ → List ℕ → ℕ
value_from n [] = n
value_from n (b ∷ bs) = value_from (10 * n + (b - 48)) bs

-- digits that follow those of value n: their value, where they are digits alone and it is no larger than most
abbrev pub magnitude_from : ℕ → ℕ → List ℕ → Option ℕ
magnitude_from most n bs = cond (all_digits bs && nat_le (value_from n bs) most) (Some (value_from n bs)) None

-- one digit
abbrev pub extended_by : ℕ → ℕ → ℕ → Option ℕ
extended_by most n b = magnitude_from most n (b ∷ [])

-- at least one digit
abbrev pub magnitude_of : ℕ → List ℕ → Option ℕ
magnitude_of most [] = None
magnitude_of most (b ∷ bs) = magnitude_from most 0 (b ∷ bs)

abbrev pub negated : Option ℕ → Option ℤ
negated None = None
negated (Some n) = Some (neg_ℤ (pos n))

abbrev pub upright : Option ℕ → Option ℤ
upright None = None
upright (Some n) = Some (pos n)

abbrev pub number_of : List ℕ → Option ℤ
number_of [] = None
number_of (b ∷ bs) = cond (b == 45) (negated (magnitude_of (2 ^ 63) bs)) (upright (magnitude_of (2 ^ 63 - 1) (b ∷ bs)))
