-- With the parts to come, the prose is that of all.
use Rattle.std.proofs.Common.{◌≡◌, ◌+◌, drop}
use Rattle.htmd_article.specs.Choices.{prose_in}
use Rattle.htmd_article.specs.Outermost.{all_outermost}
use Rattle.htmd_article.specs.PartViews.{parts_of}
use Rattle.htmd_article.proofs.outermost.+outermost_prose.Given as goal

abbrev pub invariant-loop-inner : goal.invariant-loop-inner
invariant-loop-inner l =
    l.prose + prose_in (all_outermost l.mark (parts_of (drop l.inner-index l.inner-items)))
    ≡ prose_in (all_outermost l.mark (parts_of l.inner-items))
