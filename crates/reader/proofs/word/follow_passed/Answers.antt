use Rattle.std.proofs.Common.{rules}
use Rattle.std.proofs.lemmas.Result.{err_from_is_err_and}
use Rattle.reader.proofs.word.follow_passed.Goals as goal

pub returns-in_err-read_number-in-F : goal.returns-in_err-read_number-in-F
returns-in_err-read_number-in-F c =
    let r = c.from_residual-in_err-read_number-in-F in
    let p = err_from_is_err_and r.result r.ensures.1 in rw (p.1, p.2) (search rules)
