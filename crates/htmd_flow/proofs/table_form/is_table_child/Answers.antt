use Rattle.std.proofs.Common.{◌∙◌, sym, ap, cond, true}
use Rattle.std.specs.List.{list_all}
use Rattle.htmd_shown.specs.Kinds.{has, content_of}
use Rattle.htmd_shown.specs.Roles.{is_part}
use Rattle.htmd_shown.specs.SimpleViews.{simple_of}
use Rattle.htmd_flow.specs.Levels.{list_of}
use Rattle.htmd_flow.specs.Tables.{is_row_or_nothing}
use Rattle.htmd_flow.proofs.NodesLemmas.{content_listed}
use Rattle.htmd_flow.proofs.table_form.is_table_child.Goals as goal

pub returns-then-is_part : goal.returns-then-is_part
returns-then-is_part c =
    let tree = simple_of c.args.node.now in
    let rows = list_all (is_row_or_nothing c.args.is_rich) (list_of (content_of tree)) in
    c.holds_rows_alone.ensures
    ∙ ap (list_all (is_row_or_nothing c.args.is_rich))
    (content_listed tree c.content_of.result.now c.content_of.ensures)
    ∙ sym (ap (λ b. cond b true (cond (has is_part tree) rows (is_row_or_nothing c.args.is_rich tree)))
    (sym c.is_caption.ensures ∙ c.if-is_caption.false)
    ∙ ap (λ b. cond b rows (is_row_or_nothing c.args.is_rich tree)) (sym c.is_part.ensures ∙ c.if-is_part.true))
