-- The attributes so far, and what those that are left denote.
use Rattle.std.proofs.Common.{◌≡◌, drop}
use Rattle.htmd_grammar.specs.Rules.{named_characters}
use Rattle.htmd_grammar.specs.Tags.{decode_values}
use Rattle.htmd_tree.specs.TagParts.{all_spelled_of}
use Rattle.htmd_lexical.specs.Attributes.{pairs_of}
use Rattle.htmd_tree.proofs.ValuesLemmas.{behind_attributes}
use Rattle.htmd_tree.proofs.reader.attributes.decoded.Given as goal

abbrev pub invariant-loop-attribute : goal.invariant-loop-attribute
invariant-loop-attribute l =
    behind_attributes (pairs_of l.attributes.items)
    (decode_values named_characters (all_spelled_of (drop l.attribute-index l.spelled)))
    ≡ decode_values named_characters (all_spelled_of l.spelled)
