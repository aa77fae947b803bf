-- Parts of the source, opened and made.
use Rattle.std.proofs.Common.{◌≡◌}
use Rattle.htmd_nodes.specs.Views.{data_of}
use Rattle.htmd_article.specs.declared.parts.Part as source
use Rattle.htmd_article.specs.declared.parts.Part.{out-Part, roll-Part}
use Rattle.htmd_article.specs.declared.parts.Part.TheOpen.{Part-F}
use Rattle.htmd_article.specs.declared.parts.Part.TheFolds.{fold-roll-Part, fold_out-Part}
use Rattle.htmd_article.specs.Parts.{Part, part}
use Rattle.htmd_article.specs.PartViews.{part_step, part_of, parts_of}

pub part-out : (p : source.Part)
    → part_of p ≡ part (data_of (out-Part p).node.now) (out-Part p).facts (parts_of (out-Part p).parts.items)
part-out = fold_out-Part Part part_step

pub part-roll : (x : Part-F source.Part)
    → part_of (roll-Part x) ≡ part (data_of x.node.now) x.facts (parts_of x.parts.items)
part-roll = fold-roll-Part Part part_step
