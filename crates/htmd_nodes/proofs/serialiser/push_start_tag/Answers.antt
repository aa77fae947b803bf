-- One more attribute, or the refusal of its memory.
use Rattle.std.proofs.Common.{◌+◌, List, ◌∷◌, ◌++◌, drop, sym, ap, ◌∙◌, append_assoc, string_bytes}
use Rattle.std.specs.List.{flat_map}
use Rattle.std.proofs.lemmas.List.{at_drop_more}
use Rattle.htmd_values.specs.Serialisation.{attribute_text}
use Rattle.htmd_lexical.specs.declared.attribute.Attribute.{Attribute}
use Rattle.htmd_lexical.specs.Attributes.{pair_of, pairs_of}
use Rattle.htmd_text.proofs.BeginningsLemmas.{begins-same, begins-pushed, begins-trans}
use Rattle.htmd_lexical.proofs.Cases.{OnErr-always}
use Rattle.htmd_nodes.proofs.serialiser.push_start_tag.Goals as goal

pub returns-in_err-push_str-clause-err : goal.returns-in_err-push_str-clause-err
returns-in_err-push_str-clause-err c = OnErr-always _ (begins-same c.in_err-push_str.ensures.bytes)

pub returns-in_err-push_str-2-clause-err : goal.returns-in_err-push_str-2-clause-err
returns-in_err-push_str-2-clause-err c =
    OnErr-always _ (begins-trans (begins-pushed _ c.in_ok-push_str.ensures.bytes)
    (begins-same c.in_err-push_str-2.ensures.bytes))

pub returns-in_err-push_attribute-clause-err : goal.returns-in_err-push_attribute-clause-err
returns-in_err-push_attribute-clause-err c =
    let before = begins-pushed _ c.in_ok-push_str-2.ensures.bytes in
    OnErr-always _ (begins-trans (begins-pushed _ c.in_ok-push_str.ensures.bytes)
    (begins-trans before (begins-trans c.loop-attribute.invariant.kept c.in_err-push_attribute.ensures.err)))

pub loop-attribute-preserved : goal.loop-attribute-preserved
loop-attribute-preserved c =
    let attrs = c.args.attrs.now in
    let i = c.loop-attribute.attribute-index in
    let attribute = c.attribute-item.result in
    let out = string_bytes c.loop-attribute.out in
    let texts = λ (l : List Attribute). flat_map attribute_text (pairs_of l) in
    let rest = drop (i + 1) attrs in
    record {
      whole = ap (λ l. l ++ texts rest) c.in_ok-push_attribute.ensures.ok
          ∙ append_assoc out (attribute_text (pair_of attribute)) (texts rest)
          ∙ ap (λ a. out ++ texts (a ∷ rest)) c.attribute-item.is
          ∙ ap (λ l. out ++ l) (sym (at_drop_more texts attrs i attribute c.loop-attribute-test.true))
          ∙ c.loop-attribute.invariant.whole;
      kept = begins-trans c.loop-attribute.invariant.kept (begins-pushed _ c.in_ok-push_attribute.ensures.ok);
    }
