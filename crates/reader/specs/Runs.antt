-- The words and the comment of a block, as places of its bytes.
use Rattle.std.specs.Prelude.{◌≡◌, ℕ, ◌+◌, ◌<◌, ◌≤◌, ◌⊎◌, List, length, ◌≢◌, slice_index, slice_index_or, slice_range}

-- what ends a word: a space or a `;`
abbrev pub Stop : ℕ → Type 0
Stop b = (b ≡ 32) ⊎ (b ≡ 59)

-- the bytes from s to e
abbrev pub part : List ℕ → ℕ → ℕ → List ℕ
part bs s e = slice_range bs s e

-- no `;` stands before p
abbrev pub Plain : List ℕ → ℕ → Type 0
Plain bs p = (k : ℕ) → k < p → slice_index bs k ≢ 59

-- The bytes from p to e are a word: a longest run without space or `;`, before any `;`.
pub record IsRun (bs : List ℕ) (p e : ℕ) : Type 0 where
  pub some : p < e
  pub within : e ≤ length bs
  pub free : (k : ℕ) → p ≤ k → k < e → Stop (slice_index bs k) → ⊥
  pub opens : (k : ℕ) → k + 1 ≡ p → Stop (slice_index bs k)
  pub closes : e < length bs → Stop (slice_index bs e)
  pub before : Plain bs p

-- The comment begins at p: the first `;`.
pub record IsComment (bs : List ℕ) (p : ℕ) : Type 0 where
  pub within : p < length bs
  pub marks : slice_index_or bs p 0 ≡ 59
  pub before : Plain bs p

-- p is the end, or no `;` stands before it
abbrev pub Fresh : List ℕ → ℕ → Type 0
Fresh bs p = p < length bs → Plain bs p

-- p is the end, or splits no run
abbrev pub Apart : List ℕ → ℕ → Type 0
Apart bs p = p < length bs → (k : ℕ) → k + 1 ≡ p → (Stop (slice_index bs k) → ⊥) → (Stop (slice_index bs p) → ⊥) → ⊥
