use Rattle.std.proofs.Common.{rules}
use Rattle.jobs.proofs.Increments.{counted}
use Rattle.jobs.proofs.convert.count_end.Goals as goal

pub returns : goal.returns
returns c = counted _ _ c.args.units _ _ (search rules) (search rules) (search rules) (search rules) c.new.ensures
