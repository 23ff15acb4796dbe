use Rattle.std.proofs.Common.{rules}
use Rattle.questions.specs.Questions.{axis_told}
use Rattle.questions.proofs.Asked.{on_no_axis}
use Rattle.questions.proofs.question.ask.Goals as goal

pub returns-in_err-known_axis-in-Limit : goal.returns-in_err-known_axis-in-Limit
returns-in_err-known_axis-in-Limit g c =
    let m = g.E.MachineEnd.meaning c.args.end.now in
    let e = on_no_axis m.boxes c.in_ok-box_level-in-Limit.field-0 (axis_told c.in-Limit.axis) c.in-Limit.side c.in_err-known_axis-in-Limit.field-0.0 (search rules) in
    search rules
