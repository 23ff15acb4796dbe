use Rattle.std.proofs.Common.{◌≡◌, suc, ◌+◌, ◌-◌, ◌/◌, arith}
use Rattle.turns.proofs.Turning.{begun, further, arrived}
use Rattle.turns.proofs.Law.{law_of}
use Rattle.turns.proofs.numbers.work.turn_numbers.Goals as goal

pub loop-init : goal.loop-init
loop-init c = begun c.args.angle.ticks _ _ _ (omega arith) c.quarter_numbers-numbers.ensures.0 c.quarter_numbers-numbers.ensures.1

pub loop-preserved : goal.loop-preserved
loop-preserved c =
    let one : c.args.angle.ticks / 900000 - c.loop.counter ≡ suc (c.args.angle.ticks / 900000 - (c.loop.counter + 1)) = omega arith in
    further c.args.angle.ticks _ _ _ _ _ _ one c.quarter_on-numbers.ensures.0 c.quarter_on-numbers.ensures.1 c.loop.invariant

pub returns : goal.returns
returns c =
    let none : c.args.angle.ticks / 900000 - c.loop.counter ≡ 0 = omega arith in
    let e = arrived c.args.angle.ticks _ _ _ none c.loop.invariant in
    record { law = law_of c.args.angle.ticks _ _ e; equal = e }
