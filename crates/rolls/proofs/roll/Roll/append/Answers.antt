use Rattle.std.proofs.Common.{◌<◌, length, ◌∙◌, arith}
use Rattle.rolls.specs.Rolls.{roll_of}
use Rattle.rolls.proofs.Longer.{written, append_room}
use Rattle.rolls.proofs.roll.Roll.append.Goals as goal

pub returns-clause-left : goal.returns-clause-left
returns-clause-left g c =
    let s = c.args.self.now in
    let room : s.count < length s.places.now = omega arith in
    c.put.ensures.left ∙ written (roll_of s) c.args.r room ∙ append_room (roll_of s) c.args.r room
