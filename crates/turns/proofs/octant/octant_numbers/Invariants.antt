use Rattle.std.proofs.Common.{◌≡◌, ◌*◌, ◌+◌, ◌^◌, ◌≤◌}
use Rattle.turns.specs.Terms.{cut_term}
use Rattle.turns.proofs.Rounds.{cosine_after, sine_after}
use Rattle.turns.proofs.octant.octant_numbers.Given as goal

abbrev pub invariant-loop-round : goal.invariant-loop-round
invariant-loop-round l = record {
  last : l.last ≡ cut_term l.x (4 * l.round);
  cosine : l.cosine ≡ cosine_after l.x l.round;
  sine : l.sine ≡ sine_after l.x l.round;
  least : l.last ≤ l.cosine;
  most : l.cosine ≤ 10 ^ 18;
  small : l.sine + l.last ≤ 10 ^ 18;
}
