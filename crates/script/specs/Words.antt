-- The words of a line, parted by single spaces.
use Rattle.std.specs.Prelude.{◌≡◌, ℕ, ◌<◌, List, ◌∷◌, ◌++◌, length, Some, None, Option, ◌≢◌, slice_index}

-- no byte of a word is a space
abbrev pub NoSpace : List ℕ → Type 0
NoSpace w = (k : ℕ) → k < length w → slice_index w k ≢ 32

-- a word was taken of what was left of a line: what is left then begins after the space behind it, or nothing is
abbrev pub TookWord : List ℕ → List ℕ → Option (List ℕ) → Type 0
TookWord line w None = (w ≡ line) × NoSpace w
TookWord line w (Some rest) = (line ≡ w ++ 32 ∷ rest) × NoSpace w

-- the bytes of a part that may be none
abbrev pub bytes_of : {R : Type 0} → (R → List ℕ) → Option R → Option (List ℕ)
bytes_of f None = None
bytes_of f (Some t) = Some (f t)

-- a word taken of what was left, and what is left then
abbrev pub Took : Option (List ℕ) → Option (List ℕ) → Option (List ℕ) → Type 0
Took None None after = after ≡ None
Took None (Some w) after = ⊥
Took (Some line) None after = ⊥
Took (Some line) (Some w) after = TookWord line w after
