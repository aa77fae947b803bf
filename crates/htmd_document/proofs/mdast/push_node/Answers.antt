-- What is left to prove of `push_node`.
use Rattle.std.proofs.Common.{◌∙◌, sym, ap, codes}
use Rattle.std.proofs.lemmas.Result.{IfOk-equal}
use Rattle.serde_json.specs.View.{items_view}
use Rattle.htmd_document.specs.DocumentViews.{inline_of}
use Rattle.htmd_document.specs.Mdast.{beside, one_item, node_data, with_value, abbreviation_data}
use Rattle.htmd_document.proofs.ValuesLemmas.{inline-code}
use Rattle.htmd_document.proofs.MdastLemmas.{inline-formatted, inline-element, inline-abbreviation}
use Rattle.htmd_document.proofs.mdast.push_node.Goals as goal

pub returns-in-Formatted : goal.returns-in-Formatted
returns-in-Formatted c = IfOk-equal c.push_format.result _ _ _ c.push_format.ensures
    (sym (ap (λ x. beside (items_view c.args.out.now.items) (node_data x (items_view c.args.children.items)))
    (ap inline_of c.in-Formatted.is ∙ inline-formatted _ c.in-Formatted.field-1)))

pub returns-in-Element : goal.returns-in-Element
returns-in-Element c = IfOk-equal c.push_element.result _ _ _ c.push_element.ensures
    (sym (ap (λ x. beside (items_view c.args.out.now.items) (node_data x (items_view c.args.children.items)))
    (ap inline_of c.in-Element.is ∙ inline-element _ c.in-Element.field-1)))

pub returns-in-Abbreviation : goal.returns-in-Abbreviation
returns-in-Abbreviation c = IfOk-equal c.push_abbreviation_node.result _ _ _ c.push_abbreviation_node.ensures
    (ap (λ t. beside (items_view c.args.out.now.items) (abbreviation_data t (items_view c.args.children.items)))
    c.deref-in-Abbreviation.ensures
    ∙ sym (ap (λ x. beside (items_view c.args.out.now.items) (node_data x (items_view c.args.children.items)))
    (ap inline_of c.in-Abbreviation.is ∙ inline-abbreviation c.in-Abbreviation.title c.in-Abbreviation.content)))

pub returns-in_ok-with_value-in-Code : goal.returns-in_ok-with_value-in-Code
returns-in_ok-with_value-in-Code c = IfOk-equal c.push_value-in-Code.result _ _ _ c.push_value-in-Code.ensures
    (ap (λ d. beside (items_view c.args.out.now.items) (one_item d))
    (c.in_ok-with_value-in-Code.ensures ∙ ap (with_value (codes "inlineCode")) c.deref-in-Code.ensures)
    ∙ sym (ap (λ x. beside (items_view c.args.out.now.items) (node_data x (items_view c.args.children.items)))
    (ap inline_of c.in-Code.is ∙ inline-code c.in-Code.text)))
