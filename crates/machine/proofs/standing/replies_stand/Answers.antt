use Rattle.machine.proofs.Relations.{replies}
use Rattle.machine.proofs.standing.replies_stand.Goals as goal

pub returns : goal.returns
returns c = replies
