use Rattle.std.proofs.Common.{sym, refl, ap, ◌∙◌}
use Rattle.units.specs.declared.axis.Side.{Side}
use Rattle.machine.specs.Area.{written_within, rewritten as rewritten_limits}
use Rattle.machine.specs.RangesLemmas.{same_bounds, same_within}
use Rattle.machine.proofs.area.WorkArea.write_limits.Goals as goal

pub invariant_of-self : goal.invariant_of-self
invariant_of-self g c = let own = c.args.self.now.own in record { low = same_within _ _ _ c.written_over-self.ensures (written_within c.args.values own.lower own.low); high = own.high }

pub invariant_of-self-in-Upper : goal.invariant_of-self-in-Upper
invariant_of-self-in-Upper g c = let own = c.args.self.now.own in record { low = own.low; high = same_within _ _ _ c.written_over-self-in-Upper.ensures (written_within c.args.values own.upper own.high) }

pub returns-in-Lower-clause-own : goal.returns-in-Lower-clause-own
returns-in-Lower-clause-own g c = same_bounds _ _ c.written_over-self.ensures refl ∙ ap (λ (s : Side). rewritten_limits s c.args.values c.args.self.now.own) (sym c.in-Lower.is)

pub returns-in-Upper-clause-own : goal.returns-in-Upper-clause-own
returns-in-Upper-clause-own g c = same_bounds _ _ refl c.written_over-self-in-Upper.ensures ∙ ap (λ (s : Side). rewritten_limits s c.args.values c.args.self.now.own) (sym c.in-Upper.is)
