use Rattle.std.proofs.Common.{◌≡◌, drop}
use Rattle.htmd_article.specs.ChoiceViews.{best_of}
use Rattle.htmd_article.specs.Density.{densest}
use Rattle.htmd_article.specs.PartViews.{parts_of}
use Rattle.htmd_article.proofs.density.+densest_below.Given as goal

abbrev pub invariant-loop-inner : goal.invariant-loop-inner
invariant-loop-inner l =
    densest l.total (best_of l.best) (parts_of (drop l.inner-index l.inner-items))
    ≡ densest l.total (best_of l.best) (parts_of l.inner-items)
