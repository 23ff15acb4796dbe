-- The typed block of the bytes, from what is gathered.
use Rattle.std.proofs.Common.{◌≡◌, ℕ, ◌<◌, ◌≤◌, Bool, cond, List, length, Err, Result, sym, ap, ◌∙◌}
use Rattle.std.proofs.lemmas.Bool.{le-leb, lt-leb}
use Rattle.units.specs.declared.fault.Fault.{Fault}
use Rattle.units.specs.declared.fault.Fault.TheVariants.{TooLong}
use Rattle.reader.specs.WordList.{words as word_list}
use Rattle.blocks.specs.declared.types.Block.{Block}
use Rattle.blocks.specs.declared.gathered.Gathered.{Gathered}
use Rattle.blocks.specs.Typed.{judged_in}
use Rattle.blocks.specs.Block.{settle, conclude, block_of}
use Rattle.blocks.specs.Gathers.{Gathers, Stops}
use Rattle.blocks.proofs.Judged.{judged_is}

module _ (bs : List ℕ) (inch : Bool) where
  abbrev choose : Bool → Result Block Fault
  choose b = cond b (conclude inch (settle (word_list bs (length bs)))) (Err TooLong)

  pub short : length bs ≤ 512 → block_of bs inch ≡ conclude inch (settle (word_list bs (length bs)))
  unfolding block_of
  short l = ap choose (le-leb (length bs) 512 l)

  pub too_long : 512 < length bs → Err TooLong ≡ block_of bs inch
  unfolding block_of
  too_long l = sym (ap choose (lt-leb (length bs) 512 l))

  pub stopped : (f : Fault) → length bs ≤ 512 → Stops bs f → Err f ≡ block_of bs inch
  stopped f l s = sym (short l ∙ ap (conclude inch) s)

  pub concluded : (g : Gathered) (r : Result Block Fault) → length bs ≤ 512 → Gathers bs g → r ≡ judged_in inch g.slots g.order → r ≡ block_of bs inch
  concluded g r l h e =
      e ∙ (λ i. judged_in inch (h.held i) (h.order i)) ∙ judged_is h.words h.rising h.right inch ∙ sym (short l ∙ ap (conclude inch) h.settled)
