-- With the parts to come, the count is that of all.
use Rattle.std.proofs.Common.{◌≡◌, ◌+◌, length, drop}
use Rattle.htmd_article.specs.Outermost.{all_outermost}
use Rattle.htmd_article.specs.PartViews.{parts_of}
use Rattle.htmd_article.proofs.outermost.+outermost_count.Given as goal

abbrev pub invariant-loop-inner : goal.invariant-loop-inner
invariant-loop-inner l =
    l.count + length (all_outermost l.mark (parts_of (drop l.inner-index l.inner-items)))
    ≡ length (all_outermost l.mark (parts_of l.inner-items))
