use Rattle.lines.proofs.OneWay.{lines_are, lines_only}
use Rattle.lines.proofs.parting.lines_stand.Goals as goal

pub returns : goal.returns
returns c = record { are = lines_are; only = λ k text ls. lines_only ls k text }
