use Rattle.std.proofs.Common.{◌∙◌, ap}
use Rattle.std.specs.List.{list_all}
use Rattle.htmd_flow.specs.Tables as spec
use Rattle.htmd_flow.proofs.table_form.has_captions_around.Goals as goal

pub returns : goal.returns
returns c =
    c.holds_no_row.ensures
    ∙ ap (list_all spec.is_no_row) (c.from_caption.ensures ∙ ap spec.from_caption c.from_row.ensures)
