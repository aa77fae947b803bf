-- Too deep, too short, or all of the sign.
use Rattle.std.proofs.Common.{◌∙◌, refl, ap}
use Rattle.std.specs.List.{list_all}
use Rattle.htmd_commonmark_reading.specs.Characters.{stripped}
use Rattle.htmd_commonmark_reading.specs.BlockStarts.{is_same}
use Rattle.htmd_commonmark_reader.proofs.StartsLemmas.{closing_deep, closing_short, closing_all}
use Rattle.htmd_commonmark_reader.proofs.block_starts.closes_fence.Goals as goal

pub returns-then-line-gt3 : goal.returns-then-line-gt3
returns-then-line-gt3 c =
    let l = c.args.line in
    closing_deep c.args.sign c.args.count l.column l.spaces l.indent l.text.now (stripped l.text.now)
    c.requires.indent refl c.if-line-gt3.true

pub returns-then-text-count : goal.returns-then-text-count
returns-then-text-count c =
    let l = c.args.line in
    closing_short c.args.sign c.args.count l.column l.spaces l.indent l.text.now c.stripped-text.result.now
    c.requires.indent c.stripped-text.ensures c.if-line-gt3.false c.if-text-count.true

pub returns : goal.returns
returns c =
    let l = c.args.line in
    closing_all c.args.sign c.args.count l.column l.spaces l.indent l.text.now c.stripped-text.result.now
    c.requires.indent c.stripped-text.ensures c.are_all.result c.if-line-gt3.false c.if-text-count.false
    (c.are_all.ensures ∙ ap (list_all (is_same c.args.sign)) c.as_bytes.ensures.value)
