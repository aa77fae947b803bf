use Rattle.std.proofs.Common.{◌∙◌, sym, ap, cond}
use Rattle.htmd_shown.specs.Kinds.{content_of}
use Rattle.htmd_shown.specs.SimpleViews.{simple_of}
use Rattle.htmd_flow.specs.Levels.{list_of}
use Rattle.htmd_flow.specs.Tables.{with_row}
use Rattle.htmd_flow.proofs.NodesLemmas.{content_listed}
use Rattle.htmd_flow.proofs.table_form.Cells.with_row_at.Goals as goal

pub returns-then-is_row : goal.returns-then-is_row
returns-then-is_row c =
    let tree = simple_of c.args.node.now in
    c.with_row.ensures
    ∙ ap (with_row c.args.self) (content_listed tree c.content_of.result.now c.content_of.ensures)
    ∙ sym (ap (λ b. cond b (with_row c.args.self (list_of (content_of tree))) c.args.self)
    (sym c.is_row.ensures ∙ c.if-is_row.true))
