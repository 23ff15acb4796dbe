use Rattle.turns.proofs.Law.{law}
use Rattle.turns.proofs.numbers.work.turn_law_stands.Goals as goal

pub returns : goal.returns
returns c = law
