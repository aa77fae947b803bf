-- A cell ends before a bar, or with the text.
use Rattle.std.proofs.Common.{◌∙◌, length, ap}
use Rattle.htmd_commonmark_reader.specs.Rows.{until_bar}
use Rattle.htmd_commonmark_reader.proofs.RowsLemmas.{bar_cut, cell_and_more, cell_alone}
use Rattle.htmd_commonmark_reader.proofs.tables.first_cell.Goals as goal

pub split_at-requires : goal.split_at-requires
split_at-requires c =
    bar_cut c.args.text.now c.bar_at.result
    (c.bar_at.ensures.value ∙ ap (λ s. length (until_bar 0 s)) c.as_bytes.ensures.value)

pub returns-in-Some-clause-cells : goal.returns-in-Some-clause-cells
returns-in-Some-clause-cells c =
    cell_and_more c.args.text.now c.split_at.result.0.now c.split_at.result.1.now c.bar_at.result
    (c.bar_at.ensures.value ∙ ap (λ s. length (until_bar 0 s)) c.as_bytes.ensures.value)
    c.split_at.ensures.front c.split_at.ensures.back c.in-Some.after.now c.in-Some.ensures.0 c.in-Some.ensures.1

pub returns-in-None-clause-cells : goal.returns-in-None-clause-cells
returns-in-None-clause-cells c =
    cell_alone c.args.text.now c.split_at.result.0.now c.split_at.result.1.now c.bar_at.result
    (c.bar_at.ensures.value ∙ ap (λ s. length (until_bar 0 s)) c.as_bytes.ensures.value)
    c.split_at.ensures.front c.split_at.ensures.back c.in-None.ensures
