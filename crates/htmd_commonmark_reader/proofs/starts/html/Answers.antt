-- A line may end its own block.
use Rattle.std.proofs.Common.{◌∙◌, ap, sym}
use Rattle.htmd_commonmark_reading.specs.BlockStarts.{block_ends, has_end}
use Rattle.htmd_commonmark_reader.specs.HtmlBlocks.{ends_of}
use Rattle.htmd_commonmark_reader.specs.LineViews.{line_of}
use Rattle.htmd_commonmark_reader.specs.Starts.{after_of}
use Rattle.htmd_commonmark_reader.proofs.LineStartsLemmas.{spaces_end, html_found}
use Rattle.htmd_commonmark_reader.proofs.starts.html.Goals as goal

pub returns-in-Some-clause-start : goal.returns-in-Some-clause-start
returns-in-Some-clause-start c =
    let l = c.args.line in
    let end = c.in-Some.end in
    html_found (after_of c.args.after) ((line_of l).text) c.args.rest.now (ends_of end) c.is_in.result
    (c.in-Some.ensures ∙ ap (block_ends (after_of c.args.after)) c.as_bytes.ensures.value)
    (c.is_in.ensures ∙ ap (has_end (ends_of end)) c.as_bytes-in-Some.ensures.value
    ∙ sym (spaces_end end l.spaces l.text.now))
