-- None was met so far.
use Rattle.std.proofs.Common.{◌≡◌, drop}
use Rattle.std.specs.List.{list_any}
use Rattle.htmd_grammar.specs.OpenElements.{has_unknown_reference}
use Rattle.htmd_grammar.specs.Rules.{named_characters}
use Rattle.htmd_tree.specs.TagParts.{all_spelled_of}
use Rattle.htmd_tree.proofs.reader.attributes.has_unknown_reference.Given as goal

abbrev pub invariant-loop-attribute : goal.invariant-loop-attribute
invariant-loop-attribute l =
    list_any (λ a. has_unknown_reference named_characters a.value) (all_spelled_of (drop l.attribute-index l.spelled))
    ≡ list_any (λ a. has_unknown_reference named_characters a.value) (all_spelled_of l.spelled)
