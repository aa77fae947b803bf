-- The text may be cut after line feeds.
use Rattle.std.proofs.Common.{◌∙◌, ap}
use Rattle.std.specs.List.{prefix_len}
use Rattle.htmd_text.specs.Trims.{is_line_feed}
use Rattle.htmd_text.proofs.TrimsLemmas.{start_may_cut}
use Rattle.htmd_markdown.proofs.list.without_line_feeds_before.Goals as goal

pub range_from-requires : goal.range_from-requires
range_from-requires c =
    let may = start_may_cut c.args.text.now c.leading_len.result c.utf8.text (c.leading_len.ensures.value
    ∙ ap (prefix_len is_line_feed) c.as_bytes.ensures.value) in
    λ some. (may.0, may.1 some)
