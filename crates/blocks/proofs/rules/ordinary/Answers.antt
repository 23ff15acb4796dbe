use Rattle.blocks.proofs.Ordinaries.{out_of_range, in_range}
use Rattle.blocks.proofs.rules.ordinary.Goals as goal

pub returns-in-Some : goal.returns-in-Some
returns-in-Some c = out_of_range c.args.inch c.args.g.now.slots c.args.g.now.order c.lengths-words.result c.lengths-words.ensures c.in-Some.place c.in-Some.ensures

pub returns-in-None : goal.returns-in-None
returns-in-None c = in_range c.args.inch c.args.g.now.slots c.args.g.now.order c.lengths-words.result c.lengths-words.ensures c.in-None.ensures
