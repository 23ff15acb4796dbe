use Rattle.std.proofs.Common.{◌≡◌, sym, ap, ◌∙◌, w64, SFits, rules}
use Rattle.std.proofs.lemmas.Int.{to_z-of_z}
use Rattle.translator.specs.State.{state_of}
use Rattle.shifts.specs.declared.call.Call.{Call}
use Rattle.shifts.specs.Calls.{answer_of, answer_to, left_after}
use Rattle.shifts.proofs.shift.answer.Goals as goal

pub returns-in-Entry : goal.returns-in-Entry
returns-in-Entry g c =
    let s = state_of g.E.MachineEnd.meaning c.args.translator.now in
    let fit : SFits w64 c.in-Entry.frame = search rules in
    let same = to_z-of_z w64 c.in-Entry.frame fit in
    let answered : c.map-in-Entry.result ≡ answer_of c.enter.result = search rules in
    record {
      told = answered ∙ ap answer_of (simp same at c.enter.ensures.told) ∙ ap (λ (z : Call). answer_to s z) (sym c.in-Entry.is);
      left = (simp same at c.enter.ensures.left) ∙ ap (λ (z : Call). left_after s z) (sym c.in-Entry.is);
    }
