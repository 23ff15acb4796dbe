-- What is gathered from a block's words, and where that stops.
use Rattle.std.specs.Prelude.{◌≡◌, ℕ, ◌<◌, List, [], ◌∷◌, length, Ok, Err}
use Rattle.std.specs.List.{AllByRecursion}
use Rattle.units.specs.declared.fault.Fault.{Fault}
use Rattle.reader.specs.declared.types.Item.{Item}
use Rattle.reader.specs.WordList.{words as word_list}
use Rattle.blocks.specs.declared.gathered.Gathered.{Gathered}
use Rattle.blocks.specs.Found.{slots_of, Unrepeated}
use Rattle.blocks.specs.Order.{order_of}
use Rattle.blocks.specs.Block.{settle}

-- each word stands to the right of those before it
abbrev pub Rising : List Item → Type 0
Rising [] = Unit {0}
Rising (x ∷ earlier) = AllByRecursion (λ y. y.place < x.place) earlier × Rising earlier

abbrev pub Stops : List ℕ → Fault → Type 0
Stops bs f = settle (word_list bs (length bs)) ≡ Err f

-- every word is right, and g holds them and their order
pub record Gathers (bs : List ℕ) (g : Gathered) : Type 0 where
  pub words : List Item
  pub rising : Rising words
  pub right : Unrepeated words
  pub held : g.slots ≡ slots_of words
  pub order : g.order ≡ order_of words
  pub settled : settle (word_list bs (length bs)) ≡ Ok words
