-- What the reading of one word means: its item where it is a right word, else its fault.
use Rattle.std.specs.Prelude.{◌≡◌, ℕ, List, Ok, Err, MatchResult}
use Rattle.units.specs.declared.fault.Fault.{Fault}
use Rattle.reader.specs.declared.types.Item.{Item}
use Rattle.reader.specs.Words.{ItemIs, Declined}
use Rattle.reader.specs.Reading.{reading}

pub record ReadingMeans (w : List ℕ) (p : ℕ) : Type 0 where
  pub means : MatchResult (reading w p) (ItemIs w p) (Declined w p)
  pub only_item : (x : Item) → ItemIs w p x → reading w p ≡ Ok x
  pub only_fault : (f : Fault) → Declined w p f → reading w p ≡ Err f

-- every word is a right one or is declined, with one answer
abbrev pub ReadingStands : Type 0
ReadingStands = (w : List ℕ) (p : ℕ) → ReadingMeans w p
