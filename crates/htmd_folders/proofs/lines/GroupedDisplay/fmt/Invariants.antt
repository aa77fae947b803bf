-- The unit becomes smaller.
use Rattle.htmd_folders.proofs.lines.GroupedDisplay.fmt.Given as goal

abbrev pub decreases-loop-unit : goal.decreases-loop-unit
decreases-loop-unit g l = l.unit
