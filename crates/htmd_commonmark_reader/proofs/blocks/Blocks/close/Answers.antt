-- A paragraph; the others are one block each.
use Rattle.std.proofs.Common.{sym, subst}
use Rattle.std.proofs.lemmas.Result.{on_ok_weaker}
use Rattle.htmd_commonmark_reading.specs.Boxes.{closed, was_blank}
use Rattle.htmd_commonmark_reader.specs.OpenBlocks.{Closes}
use Rattle.htmd_commonmark_reader.specs.OpenLeaves.{IsLeaf}
use Rattle.htmd_commonmark_reader.proofs.blocks.Blocks.close.Goals as goal

pub returns-in-Paragraph : goal.returns-in-Paragraph
returns-in-Paragraph c =
    let old = c.args.self.now in
    let n = c.close_paragraph.new.self in
    on_ok_weaker c.close_paragraph.result (λ e o f.
    let i = subst (λ x. IsLeaf x o) c.in-Paragraph.is f in
    subst (λ q. Closes (closed old.gap q) (was_blank old.gap q) old n) (sym i.2) (e i.0 i.1 i.3))
    c.close_paragraph.ensures
