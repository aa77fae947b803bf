-- One more inline.
use Rattle.std.proofs.Common.{◌+◌, ap, ◌∙◌}
use Rattle.std.proofs.lemmas.List.{take_rest}
use Rattle.htmd_document.specs.DocumentViews.{inlines_of}
use Rattle.htmd_commonmark.specs.InlineEnds.{follows}
use Rattle.htmd_commonmark.specs.WrittenText.{written_of}
use Rattle.htmd_commonmark.proofs.InlinesLemmas.{written-next}
use Rattle.htmd_commonmark.proofs.inlines.InlineWriter.+inlines.Goals as goal

pub write_inlines-loop-i-preserved : goal.write_inlines-loop-i-preserved
write_inlines-loop-i-preserved t c =
    let xs = c.args.xs.now in
    let behind = c.follows-follows.ensures
    ∙ ap (λ l. follows c.args.line.kind c.args.closing (inlines_of l)) (take_rest xs (c.loop-i.i + 1)) in
    written-next c.args.line (written_of c.loop-i.self) (written_of c.write_inline.new.self) c.args.closing xs
    c.loop-i.i c.index-xs-i.result c.follows-follows.result c.loop-i-test.true c.index-xs-i.is behind
    c.in_ok-write_inline.ensures
    ∙ c.loop-i.invariant
