use Rattle.reader.proofs.Meaning.{stand}
use Rattle.reader.proofs.theorems.reading_stands.Goals as goal

pub returns : goal.returns
returns c = stand
