-- One attribute more.
use Rattle.std.proofs.Common.{ap, sym, ◌∙◌, map, Some}
use Rattle.std.specs.Option.{option_copied}
use Rattle.std.proofs.lemmas.List.{take_all}
use Rattle.htmd_lexical.specs.Attributes.{pairs_of}
use Rattle.htmd_walk.specs.LinkAttributes.{is_among, last_value}
use Rattle.htmd_walk.proofs.LinkAttributesLemmas.{value-here, value-other}
use Rattle.htmd_walk.proofs.element_handler.link_attributes.last_value.Goals as goal
use Rattle.htmd_walk.proofs.element_handler.link_attributes.last_value.Goals.{then-is_among, else-is_among}

pub loop-attribute-preserved : goal.loop-attribute-preserved
loop-attribute-preserved c =
    let names = map (λ n. n.now) c.args.names.now in
    let named = ap (is_among names) (sym c.as_str.ensures.value) ∙ sym c.is_among.ensures in
    elim c.if-is_among.branch [
      | then-is_among w ↦
          ap option_copied w.last-is ∙ ap Some w.as_str-then-is_among.ensures.value
          ∙ sym (value-here names c.args.attrs.now c.loop-attribute.attribute-index c.attribute-item.result
          c.loop-attribute-test.true c.attribute-item.is (named ∙ w.if-is_among.true))
      | else-is_among w ↦
          ap option_copied w.last-is ∙ c.loop-attribute.invariant
          ∙ sym (value-other names c.args.attrs.now c.loop-attribute.attribute-index c.attribute-item.result
          c.loop-attribute-test.true c.attribute-item.is (named ∙ w.if-is_among.false))
    ]

pub returns : goal.returns
returns c =
    c.loop-attribute.invariant
    ∙ ap (λ xs. last_value (map (λ n. n.now) c.args.names.now) (pairs_of xs))
    (take_all c.loop-attribute.attribute-index c.args.attrs.now c.loop-attribute-test.false)
