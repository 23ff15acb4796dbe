-- The words of a block as a list that computes, the latest first.
use Rattle.std.specs.Prelude.{ℕ, zero, suc, Bool, true, cond, not, ◌&&◌, ◌||◌, List, [], ◌∷◌, take, drop, ◌==◌, slice_index}
use Rattle.std.specs.List.{prefix_len}

-- the bytes of a word, and where it stands
pub record Run : Type 0 where
  pub at : ℕ
  pub text : List ℕ

-- a space or a `;`
abbrev pub is_stop : ℕ → Bool
is_stop b = b == 32 || b == 59

-- no `;` stands before p
abbrev pub plain : List ℕ → ℕ → Bool
plain bs zero = true
plain bs (suc k) = not (slice_index bs k == 59) && plain bs k

-- no byte of a word stands right before p
abbrev pub opens : List ℕ → ℕ → Bool
opens bs zero = true
opens bs (suc k) = is_stop (slice_index bs k)

-- a word begins at s
abbrev pub starts : List ℕ → ℕ → Bool
starts bs s = not (is_stop (slice_index bs s)) && (opens bs s && plain bs s)

-- the bytes from s up to the next space or `;`
abbrev pub word_at : List ℕ → ℕ → List ℕ
word_at bs s = take (prefix_len (λ b. not (is_stop b)) (drop s bs)) (drop s bs)

-- the words that begin before p, the latest first
abbrev pub words : List ℕ → ℕ → List Run
words bs zero = []
words bs (suc p) = cond (starts bs p) (record { at = p; text = word_at bs p } ∷ words bs p) (words bs p)
