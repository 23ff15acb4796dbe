use Rattle.std.proofs.Common.{◌≡◌, rules, arith}
use Rattle.turns.specs.Terms.{cut_term}
use Rattle.turns.specs.Numbers.{argument, octant_c, octant_s}
use Rattle.turns.proofs.Bounds.{octant_numbers}
use Rattle.turns.proofs.Rounds.{all_cosine, all_sine}
use Rattle.turns.proofs.octant.octant_numbers.Goals as goal

pub loop-round-init : goal.loop-round-init
unfolding cut_term
loop-round-init c = search rules

pub returns-clause-near : goal.returns-clause-near
returns-clause-near c = octant_numbers c.args.ticks c.requires

pub returns-clause-equal : goal.returns-clause-equal
unfolding octant_c octant_s
returns-clause-equal c =
    let n : c.loop-round.round ≡ 4 = omega arith in
    let p = all_cosine (argument c.args.ticks) c.loop-round.round n in
    let q = all_sine (argument c.args.ticks) c.loop-round.round n in
    search rules
