use Rattle.std.proofs.Common.{◌≡◌, ◌≤◌, ◌++◌, ◌∷◌, List, ℕ, length, map, fold, take, ap, ◌∙◌, sym, subst, arith}
use Rattle.std.proofs.Common.{string_bytes}
use Rattle.std.specs.List.{flat_map}
use Rattle.std.proofs.lemmas.List.{take_all}
use Rattle.htmd_markdown.specs.Tables.{head, row, table_of_widths, column_widths, wider, texts, row_texts}
use Rattle.htmd_markdown.specs.TableReading.{column_count, IsEven}
use Rattle.htmd_markdown.specs.CellBytes.{held, held_widths}
use Rattle.htmd_markdown.proofs.ColumnsLemmas.{held_columns}
use Rattle.htmd_markdown.proofs.TableTextsLemmas.{table_even, widths_held, maps}
use Rattle.htmd_markdown.proofs.table.write_table.Goals as goal

pub returns-clause-text : goal.returns-clause-text
returns-clause-text c =
    let hs = texts c.args.headers.now in
    let rows = c.args.rows.now in
    let rs = map row_texts rows in
    let ws = column_widths (hs ∷ rs) in
    let widths = c.in_ok-widths.widths.items in
    let cut : widths ≡ map held ws = c.in_ok-widths.ensures
    ∙ ap (fold wider (held_widths hs)) (maps held_widths row_texts rows) ∙ held_columns hs rs in
    let all : take c.loop-row.row-index rows ≡ rows = take_all c.loop-row.row-index rows c.loop-row-test.false in
    let written : string_bytes c.loop-row.text ≡ table_of_widths (map held ws) hs rs =
    c.loop-row.invariant
    ∙ ap (λ l. head hs widths ++ flat_map (λ cells. row cells widths) (map row_texts l)) all
    ∙ ap (λ w. table_of_widths w hs rs) cut in
    let small : length (string_bytes c.loop-row.text) ≤ 0xFFFF_FFFF_FFFF_FFFF = omega arith in
    let fits : length (table_of_widths (map held ws) hs rs) ≤ 0xFFFF_FFFF_FFFF_FFFF =
    omega (arith, small, ap length written) in
    written ∙ ap (λ w. table_of_widths w hs rs) (widths_held c.args.headers.now rows fits)

pub returns-clause-even : goal.returns-clause-even
returns-clause-even c =
    let hs = texts c.args.headers.now in
    let rs = map row_texts c.args.rows.now in
    subst (λ (s : List ℕ). IsEven (column_count (hs ∷ rs)) s) (sym (returns-clause-text c))
    (table_even c.args.headers.now c.args.rows.now)
