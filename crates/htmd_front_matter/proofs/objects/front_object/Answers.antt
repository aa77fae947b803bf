use Rattle.std.proofs.Common.{◌++◌, ◌∙◌, ap, codes, string_bytes}
use Rattle.std.specs.List.{join_by}
use Rattle.htmd_text.specs.Joins.{joined_texts}
use Rattle.htmd_front_matter.proofs.ValuesLemmas.{joined_members}
use Rattle.htmd_front_matter.proofs.objects.front_object.Goals as goal

pub returns : goal.returns
returns c =
    let row = c.as_str.ensures.value ∙ (c.in_ok-members.ensures.ok
    ∙ (ap (λ l. join_by string_bytes (codes ",") l) c.deref.ensures.value
    ∙ (joined_members c.in_ok-members_of.field-0.items
    ∙ ap (joined_texts (codes ",")) c.in_ok-members_of.ensures))) in
    c.in_ok-push_str-2.ensures.bytes ∙ ap (λ s. s ++ codes "}") (c.in_ok-push_str.ensures.bytes
    ∙ (ap (λ s. s ++ c.as_str.result.now) c.in_ok-object.ensures.ok ∙ ap (λ s. codes "{" ++ s) row))
