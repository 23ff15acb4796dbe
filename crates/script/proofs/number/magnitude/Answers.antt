use Rattle.std.proofs.Common.{◌≡◌, get_or, None, arith, rules}
use Rattle.script.specs.Numbers.{extended_by}
use Rattle.script.proofs.Digits.{stopped, begins}
use Rattle.script.proofs.number.magnitude.Goals as goal

pub returns-in_err-value : goal.returns-in_err-value
returns-in_err-value c =
    let ds = c.args.digits.now in
    let e : extended_by c.args.most c.loop-b.value (get_or ds c.loop-b.b-index 0) ≡ None = search rules in
    cc (begins c.args.most ds (omega arith), stopped c.args.most c.loop-b.value c.loop-b.b-index ds c.loop-b-test.true e)
