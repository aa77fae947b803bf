-- No lines, or the text of some.
use Rattle.std.proofs.Common.{◌∙◌, false, sym, subst}
use Rattle.std.proofs.lemmas.Result.{on_ok_weaker}
use Rattle.htmd_commonmark_reading.specs.Boxes.{text, parts_of}
use Rattle.htmd_commonmark_reading.specs.LinkDefinitions.{definitions}
use Rattle.htmd_commonmark_reader.specs.OpenBlocks.{Closes}
use Rattle.htmd_commonmark_reader.proofs.BlockStepsLemmas.{earlier_none, earlier_some}
use Rattle.htmd_commonmark_reader.proofs.blocks.Blocks.close_earlier.Goals as goal

pub returns-then-rows : goal.returns-then-rows
returns-then-rows c = λ p done g ls h i.
    earlier_none p done g ls c.args.self.now (sym i.none ∙ c.if-rows.true) h

pub returns : goal.returns
returns c =
    let o = c.args.self.now in
    let n = c.push_text.new.self in
    on_ok_weaker c.push_text.result (λ e p done g ls h i.
    earlier_some p done g ls o n (sym i.none ∙ c.if-rows.false) h
    (subst (λ t. Closes (parts_of o.gap text (definitions t)) false o n) (c.as_str.ensures.value ∙ i.text) e))
    c.push_text.ensures
