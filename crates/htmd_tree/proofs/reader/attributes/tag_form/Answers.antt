-- One more attribute.
use Rattle.std.proofs.Common.{◌≡◌, suc, List, ◌∷◌, [], ◌++◌, length, ◌∙◌, ap, rules}
use Rattle.std.proofs.lemmas.List.{map_push}
use Rattle.htmd_lexical.specs.AttributePairs.{AttributePair}
use Rattle.htmd_lexical.specs.TagReading.{form_within}
use Rattle.htmd_tree.specs.TagParts.{spelled_of, all_spelled_of, with_attributes}
use Rattle.htmd_tree.proofs.TagPartsLemmas.{part_shorter, form_more}
use Rattle.htmd_tree.proofs.reader.attributes.tag_form.Goals as goal

pub loop-attributes-smaller : goal.loop-attributes-smaller
loop-attributes-smaller c = part_shorter _ _ _ _ c.in-Attribute.ensures

pub loop-attributes-preserved : goal.loop-attributes-preserved
loop-attributes-preserved c =
    let before = all_spelled_of c.loop-attributes.attributes.items in
    let behind = c.in-Attribute.rest.now in
    let p : all_spelled_of c.push.new.self.items ≡ before ++ (spelled_of c.in-Attribute.spelled ∷ []) =
    ap all_spelled_of c.in_ok-push-in-Attribute.ensures.items ∙ map_push spelled_of _ _ in
    record {
      is_text = search rules;
      whole =
          ap (λ (x : List AttributePair). with_attributes x (form_within (suc (length behind)) behind)) p
          ∙ form_more c.loop-attributes.behind.now _ _ behind before _ c.in-Attribute.ensures
          c.loop-attributes.invariant.whole;
    }
