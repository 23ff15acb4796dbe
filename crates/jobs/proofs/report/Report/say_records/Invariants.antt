use Rattle.std.proofs.Common.{length}
use Rattle.std.specs.Iterator.Adapters.{items_left_with_peeked, peekable_peeked, peekable_source}
use Rattle.std.specs.Slice.Iter.{iter_rest}
use Rattle.jobs.proofs.report.Report.say_records.Given as goal

abbrev pub decreases-loop-d : goal.decreases-loop-d
decreases-loop-d l = items_left_with_peeked (peekable_peeked l.declines) (length (iter_rest (peekable_source l.declines)))
