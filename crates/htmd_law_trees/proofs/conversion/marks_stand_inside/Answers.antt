use Rattle.htmd_law_trees.proofs.EmphasisLawsLemmas.{marks_stand_inside}
use Rattle.htmd_law_trees.proofs.conversion.marks_stand_inside.Goals as goal

pub returns : goal.returns
returns c =
    marks_stand_inside c.args.emphasis c.args.content.now c.trim_start-start.result.now c.trim_end.result.now
    c.trim_end.utf8 c.trim_start-start.ensures.value c.trim_end.ensures.value c.trim_start-start.ensures.trim
    c.trim_end.ensures.trim
