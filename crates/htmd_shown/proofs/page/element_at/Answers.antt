use Rattle.std.proofs.Common.{◌∙◌, ◌<◌, sym, ap, subst, length, All, string_bytes}
use Rattle.htmd_lexical.specs.Attributes.{pairs_of}
use Rattle.htmd_nodes.specs.Items.{document_node, doctype_node, text_node, comment_node}
use Rattle.htmd_nodes.specs.Views.{data_of}
use Rattle.htmd_shown.specs.PageViews.{is_element}
use Rattle.htmd_shown.proofs.PageLemmas.{by_data, element_open, children_within}
use Rattle.htmd_shown.proofs.page.element_at.Goals as goal

pub returns-in-Element-clause-value : goal.returns-in-Element-clause-value
returns-in-Element-clause-value c =
    element_open c.args.tree.now c.data.ensures.tree c.args.node c.requires c.in-Element.name
    (pairs_of c.in-Element.attrs.items) (pairs_of c.as_slice.result.now) c.children.result.now
    (sym c.data.ensures.value ∙ ap data_of c.in-Element.is) (ap pairs_of c.as_slice.ensures.value)
    c.children.ensures.value

pub returns-in-Element-clause-within : goal.returns-in-Element-clause-within
returns-in-Element-clause-within c =
    subst (λ ks. All (λ child. child < length c.args.tree.now) ks) (sym c.children.ensures.value)
    (children_within c.args.tree.now c.data.ensures.tree c.args.node c.requires)

pub returns-in-Document-clause-value : goal.returns-in-Document-clause-value
returns-in-Document-clause-value c =
    by_data c.args.tree.now c.data.ensures.tree c.args.node c.requires is_element document_node
    (sym c.data.ensures.value ∙ ap data_of c.in-Document.is)

pub returns-in-Doctype-clause-value : goal.returns-in-Doctype-clause-value
returns-in-Doctype-clause-value c =
    by_data c.args.tree.now c.data.ensures.tree c.args.node c.requires is_element doctype_node
    (sym c.data.ensures.value ∙ ap data_of c.in-Doctype.is)

pub returns-in-Text-clause-value : goal.returns-in-Text-clause-value
returns-in-Text-clause-value c =
    by_data c.args.tree.now c.data.ensures.tree c.args.node c.requires is_element
    (text_node (string_bytes c.in-Text.field-0)) (sym c.data.ensures.value ∙ ap data_of c.in-Text.is)

pub returns-in-Comment-clause-value : goal.returns-in-Comment-clause-value
returns-in-Comment-clause-value c =
    by_data c.args.tree.now c.data.ensures.tree c.args.node c.requires is_element
    (comment_node (string_bytes c.in-Comment.field-0)) (sym c.data.ensures.value ∙ ap data_of c.in-Comment.is)
