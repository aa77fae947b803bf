use Rattle.std.proofs.Common.{◌≡◌, ◌++◌, drop}
use Rattle.htmd_lexical.specs.Attributes.{pairs_of}
use Rattle.htmd_article.proofs.writing.attributes_of.Given as goal

abbrev pub invariant-loop-attribute : goal.invariant-loop-attribute
invariant-loop-attribute l =
    pairs_of l.copies.items ++ pairs_of (drop l.attribute-index l.attrs) ≡ pairs_of l.attrs
