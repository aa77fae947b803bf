-- One more attribute.
use Rattle.std.proofs.Common.{◌≡◌, suc, List, ◌∷◌, [], ◌++◌, length, ◌∙◌, ap, rules}
use Rattle.std.proofs.lemmas.List.{map_push}
use Rattle.htmd_lexical.specs.AttributePairs.{AttributePair}
use Rattle.htmd_lexical.specs.Attributes.{pair_of, pairs_of}
use Rattle.htmd_html5_tokens.specs.Tags.{attribute_of, form_within}
use Rattle.htmd_html5_tokens.specs.TagViews.{denoted, spelled_of, with_attributes}
use Rattle.htmd_html5_tokens.proofs.TagsLemmas.{part_shorter, denoted_more}
use Rattle.htmd_html5_tokens.proofs.tags.denoted_form.Goals as goal

pub loop-attributes-smaller : goal.loop-attributes-smaller
loop-attributes-smaller c = part_shorter _ _ _ _ c.in-Attribute.ensures

pub loop-attributes-preserved : goal.loop-attributes-preserved
loop-attributes-preserved c =
    let before = pairs_of c.loop-attributes.attributes.items in
    let after = c.in-Attribute.rest.now in
    let p : pairs_of c.push_attribute.new.attributes.items
    ≡ before ++ (attribute_of (spelled_of c.in-Attribute.spelled) ∷ []) =
    ap pairs_of c.in_ok-push_attribute-in-Attribute.ensures ∙ map_push pair_of _ _
    ∙ ap (λ (a : AttributePair). before ++ (a ∷ [])) c.in_ok-attribute_of-in-Attribute.ensures in
    record {
      is_text = search rules;
      whole =
          ap (λ (x : List AttributePair). with_attributes x (denoted (form_within (suc (length after)) after))) p
          ∙ denoted_more c.loop-attributes.after.now _ _ after before _ c.in-Attribute.ensures
          c.loop-attributes.invariant.whole;
    }
