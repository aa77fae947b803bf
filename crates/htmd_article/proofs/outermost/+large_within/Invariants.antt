-- What is found in the parts to come is found in all.
use Rattle.std.proofs.Common.{◌≡◌, drop}
use Rattle.htmd_article.specs.Choices.{large_article}
use Rattle.htmd_article.specs.Outermost.{all_outermost}
use Rattle.htmd_article.specs.PartViews.{parts_of}
use Rattle.htmd_article.proofs.outermost.+large_within.Given as goal

abbrev pub invariant-loop-inner : goal.invariant-loop-inner
invariant-loop-inner l =
    large_article l.whole (all_outermost l.mark (parts_of (drop l.inner-index l.inner-items)))
    ≡ large_article l.whole (all_outermost l.mark (parts_of l.inner-items))
