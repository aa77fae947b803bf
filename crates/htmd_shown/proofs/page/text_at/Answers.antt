use Rattle.std.proofs.Common.{◌∙◌, sym, ap, string_bytes}
use Rattle.htmd_lexical.specs.Attributes.{pairs_of}
use Rattle.htmd_nodes.specs.Items.{document_node, doctype_node, text_node, comment_node, element_node}
use Rattle.htmd_nodes.specs.NumberedTrees.{NumberedTree, text}
use Rattle.htmd_nodes.specs.Views.{data_of}
use Rattle.htmd_shown.specs.PageViews.{is_text}
use Rattle.htmd_shown.proofs.PageLemmas.{by_data}
use Rattle.htmd_shown.proofs.page.text_at.Goals as goal

pub returns-in-Text : goal.returns-in-Text
returns-in-Text c =
    by_data c.args.tree.now c.data.ensures.tree c.args.node c.requires (λ (x : NumberedTree). x)
    (text_node (string_bytes c.in-Text.text)) (sym c.data.ensures.value ∙ ap data_of c.in-Text.is)
    ∙ ap (text c.args.node) (sym c.as_str.ensures.value)

pub returns-in-Document : goal.returns-in-Document
returns-in-Document c =
    by_data c.args.tree.now c.data.ensures.tree c.args.node c.requires is_text document_node
    (sym c.data.ensures.value ∙ ap data_of c.in-Document.is)

pub returns-in-Doctype : goal.returns-in-Doctype
returns-in-Doctype c =
    by_data c.args.tree.now c.data.ensures.tree c.args.node c.requires is_text doctype_node
    (sym c.data.ensures.value ∙ ap data_of c.in-Doctype.is)

pub returns-in-Comment : goal.returns-in-Comment
returns-in-Comment c =
    by_data c.args.tree.now c.data.ensures.tree c.args.node c.requires is_text
    (comment_node (string_bytes c.in-Comment.field-0)) (sym c.data.ensures.value ∙ ap data_of c.in-Comment.is)

pub returns-in-Element : goal.returns-in-Element
returns-in-Element c =
    by_data c.args.tree.now c.data.ensures.tree c.args.node c.requires is_text
    (element_node c.in-Element.name (pairs_of c.in-Element.attrs.items))
    (sym c.data.ensures.value ∙ ap data_of c.in-Element.is)
