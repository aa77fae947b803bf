-- The names so far are in the set, and each attribute so far is marked.
use Rattle.std.proofs.Common.{◌≡◌, ℕ, List, [], ◌++◌, drop}
use Rattle.htmd_lexical.specs.Attributes.{pairs_of}
use Rattle.htmd_lexical.proofs.NamesLemmas.{HasNames}
use Rattle.htmd_html5_tokens.specs.Firsts.{are_first}
use Rattle.htmd_html5_tokens.proofs.distinct.first_marks.Given as goal

abbrev pub invariant-loop-attribute : goal.invariant-loop-attribute
invariant-loop-attribute l =
    (seen : List (List ℕ)) × HasNames l.names seen
    × (l.marks.items ++ are_first seen (pairs_of (drop l.attribute-index l.attributes))
    ≡ are_first [] (pairs_of l.attributes))
