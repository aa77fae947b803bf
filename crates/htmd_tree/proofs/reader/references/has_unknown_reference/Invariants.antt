-- What the loop of `has_unknown_reference` keeps.
use Rattle.std.proofs.Common.{◌≡◌, length}
use Rattle.htmd_grammar.specs.OpenElements.{has_unknown_reference}
use Rattle.htmd_grammar.specs.Rules.{named_characters}
use Rattle.htmd_tree.proofs.reader.references.has_unknown_reference.Given as goal

abbrev pub invariant-loop-rest : goal.invariant-loop-rest
invariant-loop-rest l =
    has_unknown_reference named_characters l.rest ≡ has_unknown_reference named_characters l.text

abbrev pub decreases-loop-rest : goal.decreases-loop-rest
decreases-loop-rest l = length l.rest
