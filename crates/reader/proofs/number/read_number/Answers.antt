use Rattle.std.proofs.Common.{◌≡◌, ◌+◌, ◌-◌, Ok, Err, length, rules, MatchResult}
use Rattle.std.proofs.lemmas.Result.{err_from_is_err_and}
use Rattle.reader.proofs.Shapes.{number_err}
use Rattle.reader.proofs.number.read_number.Goals as goal

pub returns-in_err-m : goal.returns-in_err-m
returns-in_err-m c =
    let moved : MatchResult c.read_magnitude.result (λ v. c.map_err.result ≡ Ok v) (λ e. c.map_err.result ≡ Err (e + (length c.args.s.now - length c.split_sign-minus.result.1.now))) = search rules in
    let p = err_from_is_err_and c.from_residual.result c.from_residual.ensures.1 in
    rw (p.1, p.2) (number_err _ c.args.s.now _ c.read_magnitude.result c.map_err.result _ c.split_sign-minus.ensures.rest c.read_magnitude.ensures moved c.in_err-m.was)
