-- The shapes of numbers, their values, and the first wrong byte.
use Rattle.std.specs.Prelude.{◌≡◌, ℕ, ◌+◌, ◌<◌, ◌≤◌, Bool, true, false, cond, ◌||◌, List, [], ◌∷◌, ◌++◌, length, take, ℤ, pos, neg_ℤ, count_by, filter, ◌==◌}
use Rattle.std.specs.Str.Parse.{digits_value}
use Rattle.std.specs.Char.{is_ascii_digit}
use Rattle.std.specs.List.{AllByRecursion}

abbrev pub is_point : ℕ → Bool
is_point b = b == 46

abbrev pub is_sign : ℕ → Bool
is_sign b = b == 43 || b == 45

-- the digits of a text, without what stands between them
abbrev pub digits : List ℕ → List ℕ
digits s = filter is_ascii_digit s

abbrev pub after_point : List ℕ → List ℕ
after_point [] = []
after_point (b ∷ bs) = cond (is_point b) bs (after_point bs)

-- how many digits follow the point
abbrev pub decimals : List ℕ → ℕ
decimals s = length (digits (after_point s))

-- 1 to 10 digits and at most one point
pub record IsMagnitude (s : List ℕ) : Type 0 where
  pub only : AllByRecursion (λ b. (is_ascii_digit b || is_point b) ≡ true) s
  pub some : 1 ≤ length (digits s)
  pub most : length (digits s) ≤ 10
  pub point : count_by is_point s ≤ 1

-- what follows an optional sign
abbrev pub unsigned : List ℕ → List ℕ
unsigned [] = []
unsigned (b ∷ bs) = cond (is_sign b) bs (b ∷ bs)

abbrev pub negative : List ℕ → Bool
negative [] = false
negative (b ∷ bs) = b == 45

-- an optional sign, 1 to 10 digits and at most one point
abbrev pub IsNumber : List ℕ → Type 0
IsNumber s = IsMagnitude (unsigned s)

-- the number that the digits write, with its sign
abbrev pub signed_by : Bool → ℕ → ℤ
signed_by true n = neg_ℤ (pos n)
signed_by false n = pos n

abbrev pub valued : List ℕ → ℤ
valued s = signed_by (negative s) (digits_value 10 (digits (unsigned s)))

-- 1 to 8 digits
pub record IsCode (s : List ℕ) : Type 0 where
  pub only : AllByRecursion (λ b. is_ascii_digit b ≡ true) s
  pub some : 1 ≤ length s
  pub most : length s ≤ 8

-- `=` and a number
abbrev pub IsTurn : List ℕ → Type 0
IsTurn [] = ⊥
IsTurn (b ∷ bs) = (b ≡ 61) × IsNumber bs

-- some text of the shape begins with t
abbrev pub Begins : (List ℕ → Type 0) → List ℕ → Type 0
Begins Shape t = (u : List ℕ) × Shape (t ++ u)

-- i is the place of the first byte with which no text of the shape goes on, or the end where the text only stops too early.
pub record FirstWrong (Shape : List ℕ → Type 0) (s : List ℕ) (i : ℕ) : Type 0 where
  pub within : i ≤ length s
  pub begun : Begins Shape (take i s)
  pub wrong : i < length s → Begins Shape (take (i + 1) s) → ⊥
  pub short : i ≡ length s → Shape s → ⊥
