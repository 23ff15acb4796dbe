-- Checking a programme text: the tally, and the unit of length in force.
use Rattle.std.specs.Prelude.{◌+◌, Bool, Ok, Err, Result}
use Rattle.units.specs.declared.fault.Fault.{Fault}
use Rattle.blocks.specs.declared.types.Block.{Block}
use Rattle.blocks.specs.declared.types.Block.TheVariants.{Frame, Limit, Ordinary}
use Rattle.blocks.specs.Rules.{inch_under}
use Rattle.jobs.specs.declared.check.Tally.{Tally}

-- one block more, right or declined
abbrev pub counted : Tally → Result Block Fault → Tally
counted t (Ok b) = record { right = t.right + 1; declined = t.declined }
counted t (Err f) = record { right = t.right; declined = t.declined + 1 }

-- whether inches are in force after a block: a declined one changes nothing
abbrev pub inch_after : Result Block Fault → Bool → Bool
inch_after (Err f) inch = inch
inch_after (Ok (Frame c p)) inch = inch
inch_after (Ok (Limit s v p)) inch = inch
inch_after (Ok (Ordinary o)) inch = inch_under inch o.selections.unit
