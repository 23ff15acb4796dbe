-- The list of words has the maximal runs of a block, each once, the latest first.
use Rattle.std.specs.Prelude.{◌≡◌, ℕ, ◌<◌, ◌⊎◌, List, [], ◌∷◌, length}
use Rattle.std.specs.List.{AllByRecursion}
use Rattle.reader.specs.Runs.{IsRun, part}
use Rattle.reader.specs.WordList.{Run, words}

abbrev pub In : List Run → Run → Type 0
In [] r = ⊥
In (x ∷ xs) r = (x ≡ r) ⊎ In xs r

abbrev pub Later : List Run → Type 0
Later [] = Unit {0}
Later (x ∷ xs) = AllByRecursion (λ y. y.at < x.at) xs × Later xs

-- r is a longest run without space or `;` before any `;`
pub record Maximal (bs : List ℕ) (r : Run) : Type 0 where
  pub end : ℕ
  pub is_run : IsRun bs r.at end
  pub bytes : r.text ≡ part bs r.at end

pub record WordsAre (bs : List ℕ) : Type 0 where
  pub only : (r : Run) → In (words bs (length bs)) r → Maximal bs r
  pub every : (r : Run) → Maximal bs r → In (words bs (length bs)) r
  pub later : Later (words bs (length bs))

abbrev pub WordsStand : Type 0
WordsStand = (bs : List ℕ) → WordsAre bs
