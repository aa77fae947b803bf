use Rattle.std.proofs.Common.{◌∙◌, refl, sym, ap, string_bytes}
use Rattle.htmd_lexical.specs.Attributes.{pairs_of}
use Rattle.htmd_nodes.specs.Items.{children_of, document_node, doctype_node, text_node, comment_node}
use Rattle.htmd_nodes.specs.Views.{data_of}
use Rattle.htmd_shown.specs.PageViews.{is_element}
use Rattle.htmd_shown.proofs.PageLemmas.{by_data, element_open}
use Rattle.htmd_shown.proofs.page.tag_at.Goals as goal

pub returns-in-Element : goal.returns-in-Element
returns-in-Element c =
    element_open c.args.tree.now c.data.ensures.tree c.args.node c.requires c.in-Element.name
    (pairs_of c.in-Element.attrs.items) (pairs_of c.as_slice.result.now) (children_of c.args.tree.now c.args.node)
    (sym c.data.ensures.value ∙ ap data_of c.in-Element.is) (ap pairs_of c.as_slice.ensures.value) refl

pub returns-in-Document : goal.returns-in-Document
returns-in-Document c =
    by_data c.args.tree.now c.data.ensures.tree c.args.node c.requires is_element document_node
    (sym c.data.ensures.value ∙ ap data_of c.in-Document.is)

pub returns-in-Doctype : goal.returns-in-Doctype
returns-in-Doctype c =
    by_data c.args.tree.now c.data.ensures.tree c.args.node c.requires is_element doctype_node
    (sym c.data.ensures.value ∙ ap data_of c.in-Doctype.is)

pub returns-in-Text : goal.returns-in-Text
returns-in-Text c =
    by_data c.args.tree.now c.data.ensures.tree c.args.node c.requires is_element
    (text_node (string_bytes c.in-Text.field-0)) (sym c.data.ensures.value ∙ ap data_of c.in-Text.is)

pub returns-in-Comment : goal.returns-in-Comment
returns-in-Comment c =
    by_data c.args.tree.now c.data.ensures.tree c.args.node c.requires is_element
    (comment_node (string_bytes c.in-Comment.field-0)) (sym c.data.ensures.value ∙ ap data_of c.in-Comment.is)
