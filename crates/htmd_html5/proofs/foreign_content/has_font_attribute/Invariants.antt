-- No attribute so far is one of a `font`.
use Rattle.std.proofs.Common.{◌≡◌, drop}
use Rattle.htmd_lexical.specs.Attributes.{pairs_of}
use Rattle.htmd_html5.specs.ForeignContent.{has_font_attribute}
use Rattle.htmd_html5.proofs.foreign_content.has_font_attribute.Given as goal

abbrev pub invariant-loop-attribute : goal.invariant-loop-attribute
invariant-loop-attribute l =
    has_font_attribute (pairs_of (drop l.attribute-index l.attributes)) ≡ has_font_attribute (pairs_of l.attributes)
