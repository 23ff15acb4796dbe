use Rattle.std.proofs.Common.{◌-◌, length}
use Rattle.jobs.proofs.script_lines.read_script.Given as goal

abbrev pub decreases-loop-line : goal.decreases-loop-line
decreases-loop-line l = length l.reader.text.now - l.reader.place
