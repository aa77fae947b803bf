-- The lines so far.
use Rattle.std.proofs.Common.{◌≡◌, take, length, map}
use Rattle.htmd_shown.specs.AllTexts.{lines_of}
use Rattle.htmd_flow.specs.Flows.{code_parts}
use Rattle.htmd_flow.specs.Paragraphs.{fed_all}
use Rattle.htmd_flow.specs.ParagraphViews.{writing_in}
use Rattle.htmd_flow.specs.PartViews.{around_of}
use Rattle.htmd_flow.proofs.leaves.push_code_lines.Given as goal

abbrev pub invariant-loop-line : goal.invariant-loop-line
invariant-loop-line l = writing_in l.out
    ≡ fed_all (writing_in l.fn.out) (code_parts (take (length l.yielded) (lines_of l.text)) (map around_of l.around))
