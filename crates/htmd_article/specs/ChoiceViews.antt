-- What the best part of the source stands for.
use Rattle.htmd_article.specs.declared.density.Best.{Best}
use Rattle.htmd_article.specs.Density as density
use Rattle.htmd_article.specs.PartViews.{part_of}

abbrev pub best_of : Best → density.Best
best_of b = record { chosen = b.chosen; best = part_of b.part.now }
