use Rattle.std.proofs.Common.{sym, ap, ◌∙◌}
use Rattle.htmd_text.specs.Blocks.{is_block}
use Rattle.htmd_nodes.specs.Ancestors.{ancestor_of}
use Rattle.htmd_nodes.specs.Views.{data_of}
use Rattle.htmd_walk.proofs.Nodes.{html_block, other_tag, no_trim, trims_by}
use Rattle.htmd_walk.proofs.node_util.trims_first.Goals as goal

pub returns-then-preformatted : goal.returns-then-preformatted
returns-then-preformatted c =
    sym (no_trim c.args.tree.now c.args.node (sym c.requires.inside ∙ c.if-preformatted.true))

pub returns-in-Document : goal.returns-in-Document
returns-in-Document c =
    sym (trims_by c.args.tree.now c.args.node (sym c.requires.inside ∙ c.if-preformatted.false)
    ∙ ap (λ d. is_block (ancestor_of d).tag) (sym c.data.ensures.value ∙ ap data_of c.in-Document.is)
    ∙ html_block)

pub returns-in-Element : goal.returns-in-Element
returns-in-Element c =
    sym (trims_by c.args.tree.now c.args.node (sym c.requires.inside ∙ c.if-preformatted.false)
    ∙ ap (λ d. is_block (ancestor_of d).tag) (sym c.data.ensures.value ∙ ap data_of c.in-Element.is)
    ∙ sym c.is_block_name.ensures)

pub returns-in_default : goal.returns-in_default
returns-in_default c =
    sym (trims_by c.args.tree.now c.args.node (sym c.requires.inside ∙ c.if-preformatted.false)
    ∙ ap (λ d. is_block (ancestor_of d).tag) (sym c.data.ensures.value)
    ∙ other_tag c.data.result.now c.in_default.not-Document c.in_default.not-Element)
