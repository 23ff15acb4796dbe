-- The typed block of a block's bytes, or the fault that declines it.
use Rattle.std.specs.Prelude.{ℕ, Bool, cond, List, [], ◌∷◌, length, Ok, Err, Result, nat_le}
use Rattle.units.specs.declared.fault.Fault.{Fault}
use Rattle.units.specs.declared.fault.Fault.TheVariants.{TooLong, Repeated}
use Rattle.reader.specs.declared.types.Item.{Item}
use Rattle.reader.specs.WordList.{Run, words}
use Rattle.reader.specs.Reading.{reading}
use Rattle.blocks.specs.declared.types.Block.{Block}
use Rattle.blocks.specs.Found.{repeated}
use Rattle.blocks.specs.Typed.{judged}

-- one word more: an earlier fault stays, then the word's own, then 5
abbrev pub go_on : Result (List Item) Fault → Result Item Fault → Result (List Item) Fault
go_on (Err f) x = Err f
go_on (Ok ws) (Err f) = Err f
go_on (Ok ws) (Ok x) = cond (repeated ws x.says) (Err (Repeated x.place)) (Ok (x ∷ ws))

-- what the words say, each by itself, or the fault of the first wrong one
abbrev pub settle : List Run → Result (List Item) Fault
settle [] = Ok []
settle (r ∷ rs) = go_on (settle rs) (reading r.text r.at)

abbrev pub conclude : Bool → Result (List Item) Fault → Result Block Fault
conclude inch (Err f) = Err f
conclude inch (Ok ws) = judged inch ws

-- 1, then 2 to 5 word by word, then 6 to 8
unfoldable pub block_of : List ℕ → Bool → Result Block Fault
block_of bs inch = cond (nat_le (length bs) 512) (conclude inch (settle (words bs (length bs)))) (Err TooLong)
