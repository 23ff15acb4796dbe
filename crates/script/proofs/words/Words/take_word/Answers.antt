use Rattle.std.proofs.Common.{rules, sym, ◌∙◌}
use Rattle.script.proofs.Parted.{parted}
use Rattle.script.proofs.words.Words.take_word.Goals as goal

pub returns-in-Some : goal.returns-in-Some
returns-in-Some c = parted c.in_ok-line.line.now c.in-Some.n _ (search rules) (sym c.first_space.ensures.first ∙ c.in-Some.is)
