-- A line that is too deep, or one that may be a row.
use Rattle.std.proofs.Common.{◌∙◌}
use Rattle.htmd_commonmark_reader.proofs.LeafBlocksLemmas.{no_row, some_row}
use Rattle.htmd_commonmark_reader.proofs.leaf_blocks.delimiter_row_of.Goals as goal

pub returns-then-line-gt3 : goal.returns-then-line-gt3
returns-then-line-gt3 c =
    let l = c.args.line in
    no_row l.column l.spaces l.indent l.text.now c.requires.indent c.if-line-gt3.true

pub returns : goal.returns
returns c =
    let l = c.args.line in
    c.in_ok-row.ensures
    ∙ some_row l.column l.spaces l.indent l.text.now c.requires.indent c.stripped.result.now c.if-line-gt3.false
    c.stripped.ensures
