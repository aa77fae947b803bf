use Rattle.std.specs.List.{prefix_len}
use Rattle.std.proofs.Common.{map}
use Rattle.htmd_flow.specs.Tables.{is_no_row}
use Rattle.htmd_shown.specs.SimpleViews.{simple_of}
use Rattle.htmd_flow.proofs.LoopsLemmas.{mapped_rest}
use Rattle.htmd_flow.proofs.table_form.from_row.Goals as goal

pub returns : goal.returns
returns c =
    mapped_rest simple_of c.args.table.now c.before_row_len.result
    (prefix_len is_no_row (map simple_of c.args.table.now)) c.before_row_len.ensures.value
