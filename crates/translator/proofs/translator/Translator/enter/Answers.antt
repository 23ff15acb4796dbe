use Rattle.std.proofs.Common.{w64}
use Rattle.std.proofs.lemmas.Int.{to_z-of_z}
use Rattle.std.proofs.lemmas.Result.{err_from_is_err_and}
use Rattle.translator.specs.State.{state_of}
use Rattle.translator.proofs.Entries.{entry_declined}
use Rattle.translator.proofs.translator.Translator.enter.Goals as goal

pub returns-in_err-enter : goal.returns-in_err-enter
returns-in_err-enter g c =
    let same = to_z-of_z w64 c.args.frame c.ranges.frame in
    let both = entry_declined (state_of g.E.MachineEnd.meaning c.args.self.now) _ _ _ (simp same at c.in_err-enter.ensures.told) (simp same at c.in_err-enter.ensures.left) in
    let p = err_from_is_err_and c.from_residual.result c.from_residual.ensures.1 in
    rw (p.1, p.2) (record { told = both.0; left = both.1 })
