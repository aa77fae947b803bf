use Rattle.std.proofs.Common.{◌∙◌, sym, ap, cond}
use Rattle.std.specs.List.{list_all}
use Rattle.htmd_shown.specs.Kinds.{content_of}
use Rattle.htmd_shown.specs.SimpleViews.{simple_of}
use Rattle.htmd_flow.specs.Levels.{list_of}
use Rattle.htmd_flow.specs.Tables.{is_cell_or_nothing, is_nothing}
use Rattle.htmd_flow.proofs.NodesLemmas.{content_listed}
use Rattle.htmd_flow.proofs.table_form.is_row_or_nothing.Goals as goal

pub returns-then-is_row : goal.returns-then-is_row
returns-then-is_row c =
    let tree = simple_of c.args.node.now in
    c.holds_cells_alone.ensures
    ∙ ap (list_all (is_cell_or_nothing c.args.is_rich))
    (content_listed tree c.content_of.result.now c.content_of.ensures)
    ∙ sym (ap (λ b. cond b (list_all (is_cell_or_nothing c.args.is_rich) (list_of (content_of tree)))
    (is_nothing c.args.is_rich tree))
    (sym c.is_row.ensures ∙ c.if-is_row.true))
