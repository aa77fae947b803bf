-- No name twice, or one.
use Rattle.std.proofs.Common.{◌≡◌, true, false, sym, ◌∙◌, Some}
use Rattle.htmd_lexical.specs.CharacterClasses.{are_distinct}
use Rattle.htmd_grammar.specs.Rules.{named_characters}
use Rattle.htmd_lexical.specs.Attributes.{attribute_names}
use Rattle.htmd_grammar.specs.Tags.{decode_values}
use Rattle.htmd_tree.specs.TagParts.{all_spelled_of}
use Rattle.htmd_lexical.specs.Attributes.{pairs_of}
use Rattle.htmd_tree.proofs.ValuesLemmas.{attributes_distinct}
use Rattle.htmd_tree.proofs.reader.attributes.attributes_of.Goals as goal

pub returns-then-not-branch : goal.returns-then-not-branch
returns-then-not-branch c =
    let d : decode_values named_characters (all_spelled_of c.args.spelled.now)
    ≡ Some (pairs_of c.in-Some.attributes.items) =
    rw c.in-Some.is at (sym c.in_ok-attributes.ensures) in
    let a : are_distinct (attribute_names (pairs_of c.in-Some.attributes.items)) ≡ false =
    rw c.as_slice.ensures.value at (sym c.in_ok-are_distinct.ensures ∙ c.if-not-branch.true) in
    attributes_distinct (all_spelled_of c.args.spelled.now) (pairs_of c.in-Some.attributes.items) false
    (sym c.has_unknown_reference.ensures ∙ c.if-has_unknown_reference.false) d a

pub returns : goal.returns
returns c =
    let d : decode_values named_characters (all_spelled_of c.args.spelled.now)
    ≡ Some (pairs_of c.in-Some.attributes.items) =
    rw c.in-Some.is at (sym c.in_ok-attributes.ensures) in
    let a : are_distinct (attribute_names (pairs_of c.in-Some.attributes.items)) ≡ true =
    rw c.as_slice.ensures.value at (sym c.in_ok-are_distinct.ensures ∙ c.if-not-branch.false) in
    attributes_distinct (all_spelled_of c.args.spelled.now) (pairs_of c.in-Some.attributes.items) true
    (sym c.has_unknown_reference.ensures ∙ c.if-has_unknown_reference.false) d a
