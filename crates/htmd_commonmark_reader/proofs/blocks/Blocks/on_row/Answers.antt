-- A table, or one more line.
use Rattle.std.proofs.Common.{◌∙◌, ap, option_map, sym, subst}
use Rattle.std.proofs.lemmas.Result.{on_ok_weaker}
use Rattle.htmd_commonmark_reading.specs.LeafBlocks.{delimiter_row_of}
use Rattle.htmd_commonmark_reader.specs.LineViews.{line_of}
use Rattle.htmd_commonmark_reader.specs.OpenBlocks.{HoldsBox, table_row}
use Rattle.htmd_commonmark_reader.proofs.BlockStepsLemmas.{by_row, row_box}
use Rattle.htmd_commonmark_reader.proofs.blocks.Blocks.on_row.Goals as goal

pub returns-in-Some : goal.returns-in-Some
returns-in-Some c =
    let l = line_of c.args.line in
    let n = c.begin_table.new.self in
    on_ok_weaker c.begin_table.result (λ e p done g ls s h i.
    subst (λ b. HoldsBox p b n)
    (ap (by_row done g ls s l) (ap (option_map (λ a. a.items)) (sym c.in-Some.is) ∙ c.in_ok-row.ensures
    ∙ ap (λ t. table_row t (delimiter_row_of l)) i.last)
    ∙ row_box done g ls s l (delimiter_row_of l))
    (e p done g ls s h i)) c.begin_table.ensures

pub returns-in-None : goal.returns-in-None
returns-in-None c =
    let l = line_of c.args.line in
    let n = c.lengthen.new.self in
    on_ok_weaker c.lengthen.result (λ e p done g ls s h i.
    subst (λ b. HoldsBox p b n)
    (ap (by_row done g ls s l) (ap (option_map (λ a. a.items)) (sym c.in-None.is) ∙ c.in_ok-row.ensures
    ∙ ap (λ t. table_row t (delimiter_row_of l)) i.last)
    ∙ row_box done g ls s l (delimiter_row_of l))
    (e p done g ls s h i)) c.lengthen.ensures
