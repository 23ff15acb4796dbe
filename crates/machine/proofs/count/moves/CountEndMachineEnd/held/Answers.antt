use Rattle.std.proofs.Common.{sym, ◌∙◌, ap, w64, SFits, rules}
use Rattle.machine.specs.declared.increment.Increment.{Increment}
use Rattle.machine.specs.Count.{lengths}
use Rattle.machine.specs.Counts.{standing_fits, length_at}
use Rattle.machine.proofs.count.moves.CountEndMachineEnd.held.Goals as goal

pub standing-requires : goal.standing-requires
standing-requires c =
    let f : SFits w64 c.on-2.result = search rules in
    let me = c.args.self.now in
    let a = c.in_ok-axis.axis in
    standing_fits (lengths me.increments) me.counts me.placed a _ _ f (ap (λ (i : Increment). i.units) c.on.ensures ∙ sym (length_at me.increments a)) c.on-2.ensures
