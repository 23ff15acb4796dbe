use Rattle.std.proofs.Common.{◌≡◌, length, Ok, Err, rules, MatchResult}
use Rattle.std.proofs.lemmas.Result.{err_from_is_err_and}
use Rattle.reader.specs.Words.{Names}
use Rattle.reader.proofs.Faults.{faulted, follow_err}
use Rattle.reader.proofs.word.shaped_word.Goals as goal

pub returns-in_err-said : goal.returns-in_err-said
returns-in_err-said c =
    let moved : MatchResult c.follow.result (λ w. c.map_err.result ≡ Ok w) (λ e. c.map_err.result ≡ Err (faulted c.args.place (length c.split.result.0.now) e)) = search rules in
    let named : Names c.split.result.0.now c.in_ok-a.a = search rules in
    let r = c.from_residual-in_err-said in
    let p = err_from_is_err_and r.result r.ensures.1 in
    let s = c.split.ensures in
    rw (p.1, p.2) (follow_err c.args.text.now c.args.place _ _ _ _ c.follow.result c.map_err.result _ s.front s.len s.tail named c.follow.ensures moved c.in_err-said.was)
