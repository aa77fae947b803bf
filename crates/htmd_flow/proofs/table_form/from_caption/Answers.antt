use Rattle.std.specs.List.{prefix_len}
use Rattle.std.proofs.Common.{map}
use Rattle.htmd_flow.specs.Tables.{is_no_caption}
use Rattle.htmd_shown.specs.SimpleViews.{simple_of}
use Rattle.htmd_flow.proofs.LoopsLemmas.{mapped_rest}
use Rattle.htmd_flow.proofs.table_form.from_caption.Goals as goal

pub returns : goal.returns
returns c =
    mapped_rest simple_of c.args.table.now c.before_caption_len.result
    (prefix_len is_no_caption (map simple_of c.args.table.now)) c.before_caption_len.ensures.value
