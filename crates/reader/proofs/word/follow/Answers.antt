use Rattle.std.proofs.Common.{rules}
use Rattle.std.proofs.lemmas.Result.{err_from_is_err_and}
use Rattle.reader.proofs.word.follow.Goals as goal

pub returns-in_err-read_number-in-Axis : goal.returns-in_err-read_number-in-Axis
returns-in_err-read_number-in-Axis c =
    let r = c.from_residual-in_err-read_number-in-Axis in
    let p = err_from_is_err_and r.result r.ensures.1 in rw (p.1, p.2) (search rules)

pub returns-in_err-read_turn-in-Rpl : goal.returns-in_err-read_turn-in-Rpl
returns-in_err-read_turn-in-Rpl c =
    let r = c.from_residual-in_err-read_turn-in-Rpl in
    let p = err_from_is_err_and r.result r.ensures.1 in rw (p.1, p.2) (search rules)
