use Rattle.std.proofs.Common.{ap, ◌∙◌}
use Rattle.std.specs.List.{prefix_len}
use Rattle.htmd_text.specs.Trims.{is_line_feed}
use Rattle.htmd_text.proofs.TrimsLemmas.{start_may_cut}
use Rattle.htmd_markdown.proofs.quote.write_quote.Goals as goal

pub range_from-rest-requires : goal.range_from-rest-requires
range_from-rest-requires c =
    let cut = start_may_cut c.args.content.now c.leading_len.result c.utf8.content (c.leading_len.ensures.value
    ∙ ap (prefix_len is_line_feed) c.as_bytes.ensures.value) in
    λ some. (cut.0, cut.1 some)
