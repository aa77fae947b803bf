-- What is found in the parts to come is found in all.
use Rattle.std.proofs.Common.{◌≡◌, drop}
use Rattle.htmd_article.specs.declared.outermost.Landmark.TheVariants as landmark
use Rattle.htmd_article.specs.Choices.{first_large}
use Rattle.htmd_article.specs.Outermost.{all_outermost}
use Rattle.htmd_article.specs.PartViews.{parts_of}
use Rattle.htmd_article.proofs.outermost.+large_in.Given as goal

abbrev pub invariant-loop-inner : goal.invariant-loop-inner
invariant-loop-inner l =
    first_large l.whole (all_outermost landmark.Article (parts_of (drop l.inner-index l.inner-items)))
    ≡ first_large l.whole (all_outermost landmark.Article (parts_of l.inner-items))
