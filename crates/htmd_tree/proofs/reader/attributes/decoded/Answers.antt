-- One more attribute.
use Rattle.std.proofs.Common.{◌+◌, drop, sym, ap, ◌∙◌}
use Rattle.std.specs.Prelude.{option_map, string_bytes}
use Rattle.htmd_grammar.specs.Rules.{named_characters}
use Rattle.htmd_grammar.specs.Tags.{decode_values}
use Rattle.htmd_tree.specs.TagParts.{all_spelled_of}
use Rattle.htmd_lexical.specs.Attributes.{pairs_of}
use Rattle.htmd_tree.proofs.ValuesLemmas.{behind_attributes, decoded_more}
use Rattle.htmd_tree.proofs.reader.attributes.decoded.Goals as goal

pub loop-attribute-preserved : goal.loop-attribute-preserved
loop-attribute-preserved c =
    let spelled = c.args.spelled.now in
    let i = c.loop-attribute.attribute-index in
    ap (λ l. behind_attributes (pairs_of l) (decode_values named_characters (all_spelled_of (drop (i + 1) spelled))))
    c.in_ok-push.ensures.items
    ∙ decoded_more spelled i _ c.loop-attribute.attributes.items c.in_ok-name.name c.in-Some.value
    c.loop-attribute-test.true (ap (option_map string_bytes) (sym c.in-Some.is) ∙ c.in_ok-value.ensures)
    c.in_ok-name.ensures.ok
    ∙ c.loop-attribute.invariant
