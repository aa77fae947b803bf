use Rattle.std.proofs.Common.{◌∙◌, ◌&&◌, ap, sym, codes}
use Rattle.htmd_lexical.specs.Attributes.{pairs_of}
use Rattle.htmd_shown.specs.Attributes.{is_to_part, leads_to_part, value_of}
use Rattle.htmd_document_of_tree.specs.Limits.{address_of}
use Rattle.htmd_document_of_tree.proofs.LeadingsLemmas.{part_of_value}
use Rattle.htmd_document_of_tree.proofs.leadings.is_link_to_part.Goals as goal

pub returns : goal.returns
returns c =
    let attributes = pairs_of c.args.attrs.now in
    c.leads_to_part.ensures
    ∙ (ap leads_to_part c.value_of.ensures
    ∙ (part_of_value (value_of (codes "href") attributes)
    ∙ sym (ap (λ b. b && is_to_part (address_of attributes)) c.if-not-is_link.false)))
