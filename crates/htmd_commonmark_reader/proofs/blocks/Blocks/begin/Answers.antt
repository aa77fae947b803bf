-- A blank line, or another.
use Rattle.std.proofs.Common.{◌∙◌, true, sym}
use Rattle.std.proofs.lemmas.Result.{on_ok_weaker}
use Rattle.htmd_commonmark_reading.specs.BlockStarts.{opened}
use Rattle.htmd_commonmark_reading.specs.Boxes.{box, nothing}
use Rattle.htmd_commonmark_reading.specs.Lines.{is_blank}
use Rattle.htmd_commonmark_reader.specs.LineStarts.{start_of}
use Rattle.htmd_commonmark_reader.specs.LineViews.{line_of}
use Rattle.htmd_commonmark_reader.proofs.BlockStepsLemmas.{box_false}
use Rattle.htmd_commonmark_reader.proofs.blocks.Blocks.begin.Goals as goal

pub returns : goal.returns
returns c =
    let l = line_of c.args.line in
    on_ok_weaker c.open.result (λ e p done g h.
    box_false p (box done true nothing) (opened done g l (start_of l c.args.start)) (is_blank l) c.open.new.self
    (sym c.is_blank.ensures ∙ c.if-is_blank.false) (e p done g h)) c.open.ensures
