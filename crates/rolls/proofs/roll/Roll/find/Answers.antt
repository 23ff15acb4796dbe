use Rattle.std.proofs.Common.{sym, ◌∙◌, rules}
use borrow.Author.Tests.{tests}
use Rattle.std.proofs.lemmas.Iterator.{YieldsList-from_slice}
use Rattle.std.proofs.lemmas.Iterator.Adapters.{option_map_id}
use Rattle.std.proofs.lemmas.Iterator.Consumers.{YieldsList-from_copied}
use Rattle.std.proofs.lemmas.Iterator.Search.{find_from_yields_List}
use Rattle.std.specs.Prelude.{nat_le}
use Rattle.rolls.specs.Rolls.{roll_of, records_of}
use Rattle.rolls.proofs.Found.{is_first_as}
use Rattle.rolls.proofs.roll.Roll.find.Goals as goal

pub returns-clause-first : goal.returns-clause-first
returns-clause-first g c =
    let start = g.R.Record.start_of in
    let rs = records_of (roll_of c.args.self.now) in
    is_first_as start c.args.byte rs c.find.result (sym (option_map_id c.find.result) ∙ find_from_yields_List (λ r. nat_le c.args.byte (start r)) _ _ c.find.result c.find.ensures.ran (YieldsList-from_copied (YieldsList-from_slice rs cc)) (λ x b q k. search (rules, tests)))
