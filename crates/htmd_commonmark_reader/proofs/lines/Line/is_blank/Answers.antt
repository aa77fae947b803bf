-- Nothing but white space.
use Rattle.std.proofs.Common.{◌∙◌}
use Rattle.htmd_commonmark_reader.proofs.LinesLemmas.{blank_line}
use Rattle.htmd_commonmark_reader.proofs.lines.Line.is_blank.Goals as goal

pub returns : goal.returns
returns c =
    let l = c.args.self in
    c.is_empty.ensures ∙ blank_line l.spaces l.text.now l.content.now c.requires.content
