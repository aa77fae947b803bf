-- With the parts to come, what is left of them is all that is left.
use Rattle.std.proofs.Common.{◌≡◌, ◌++◌, drop, map}
use Rattle.htmd_article.specs.PartViews.{part_of}
use Rattle.htmd_article.proofs.FramesLemmas.{left}
use Rattle.htmd_article.proofs.frame.+without_frame.Given as goal

abbrev pub invariant-loop-inner : goal.invariant-loop-inner
invariant-loop-inner l =
    map part_of l.parts.items ++ left l.below (map part_of (drop l.inner-index l.inner-items))
    ≡ left l.below (map part_of l.inner-items)
