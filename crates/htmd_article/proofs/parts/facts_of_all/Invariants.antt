use Rattle.std.proofs.Common.{◌≡◌, drop}
use Rattle.htmd_article.specs.Facts.{no_facts}
use Rattle.htmd_article.specs.Parts.{facts_after}
use Rattle.htmd_article.specs.PartViews.{parts_of}
use Rattle.htmd_article.proofs.parts.facts_of_all.Given as goal

abbrev pub invariant-loop-part : goal.invariant-loop-part
invariant-loop-part l =
    facts_after l.facts (parts_of (drop l.part-index l.parts)) ≡ facts_after no_facts (parts_of l.parts)
