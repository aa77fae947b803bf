-- A line that is too deep, or one that may underline.
use Rattle.std.proofs.Common.{◌∙◌}
use Rattle.htmd_commonmark_reader.proofs.LeafBlocksLemmas.{no_underline, some_underline}
use Rattle.htmd_commonmark_reader.proofs.leaf_blocks.underline_of.Goals as goal

pub returns-then-line-gt3 : goal.returns-then-line-gt3
returns-then-line-gt3 c =
    let l = c.args.line in
    no_underline l.column l.spaces l.indent l.text.now c.requires.indent c.if-line-gt3.true

pub returns : goal.returns
returns c =
    let l = c.args.line in
    c.underline.ensures
    ∙ some_underline l.column l.spaces l.indent l.text.now c.requires.indent c.as_bytes.result.now c.if-line-gt3.false
    (c.as_bytes.ensures.value ∙ c.stripped.ensures)
