-- The lines of a text: byte 10 ends a line, and bytes after the last one are a line too.
use Rattle.std.specs.Prelude.{◌≡◌, ℕ, suc, ◌+◌, ◌<◌, ◌≤◌, cond, ◌⊎◌, List, [], ◌∷◌, ◌++◌, length, drop, Some, None, Option, ◌==◌, ◌≢◌}
use Rattle.lines.specs.declared.reader.Line.{Line as LineGiven}

-- its start in the text, and its bytes without the byte 10
pub record Line : Type 0 where
  pub start : ℕ
  pub bytes : List ℕ

-- no byte 10 among them
abbrev pub NoEnd : List ℕ → Type 0
NoEnd [] = Unit {0}
NoEnd (b ∷ bs) = (b ≢ 10) × NoEnd bs

-- a byte in front of the lines behind it
abbrev pub in_front : ℕ → ℕ → List Line → List Line
in_front k b [] = record { start = k; bytes = b ∷ [] } ∷ []
in_front k b (l ∷ ls) = record { start = k; bytes = b ∷ l.bytes } ∷ ls

-- the lines of a text whose first byte is the k-th
abbrev pub lines_from : ℕ → List ℕ → List Line
lines_from k [] = []
lines_from k (b ∷ bs) = cond (b == 10) (record { start = k; bytes = [] } ∷ lines_from (k + 1) bs) (in_front k b (lines_from (k + 1) bs))

abbrev pub lines_of : List ℕ → List Line
lines_of text = lines_from 0 text

-- what they are: each starts where the one before it ended, holds no byte 10, and is followed by one and then by the lines of the rest; only the last, if it is not empty, may do without
abbrev pub Lines : ℕ → List ℕ → List Line → Type 0
Lines k text [] = text ≡ []
Lines k text (l ∷ ls) = (l.start ≡ k) × NoEnd l.bytes × (((rest : List ℕ) × (text ≡ l.bytes ++ 10 ∷ rest) × Lines (k + length l.bytes + 1) rest ls) ⊎ ((text ≡ l.bytes) × (0 < length l.bytes) × (ls ≡ [])))

-- every text has these lines, and no others
pub record LinesStand : Type 0 where
  pub are : (k : ℕ) (text : List ℕ) → Lines k text (lines_from k text)
  pub only : (k : ℕ) (text : List ℕ) (ls : List Line) → Lines k text ls → ls ≡ lines_from k text

-- what was left of a text is a line, the byte that ends it, and what is left then; or the line alone, without such a byte
abbrev pub Cut : List ℕ → List ℕ → List ℕ → Type 0
Cut left line after = (left ≡ line ++ 10 ∷ after) ⊎ ((left ≡ line) × (after ≡ []))

-- the line that begins at p, where the next begins at q
pub record LineRead (text : List ℕ) (p q : ℕ) (line : List ℕ) : Type 0 where
  pub on : p < q
  pub within : q ≤ length text
  pub free : NoEnd line
  pub cut : Cut (drop p text) line (drop q text)
  pub lines : lines_from p (drop p text) ≡ record { start = p; bytes = line } ∷ lines_from q (drop q text)

-- from p, after n lines, to q, after m: none at the end of the text, else the next line with its start and its number
abbrev pub Reads : List ℕ → ℕ → ℕ → Option LineGiven → ℕ → ℕ → Type 0
Reads text p n None q m = (p ≡ length text) × ((q ≡ p) × (m ≡ n))
Reads text p n (Some l) q m = LineRead text p q l.bytes.now × ((l.start ≡ p) × ((l.number ≡ suc n) × (m ≡ suc n)))
