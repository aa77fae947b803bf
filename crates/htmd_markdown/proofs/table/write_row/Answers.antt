use Rattle.std.proofs.Common.{◌≡◌, length, map, ap, ◌∙◌, arith, rules, string_bytes}
use Rattle.std.proofs.lemmas.List.{length-map}
use Rattle.htmd_markdown.specs.Tables.{line_cells, row}
use Rattle.htmd_markdown.specs.TableReading.{read_row, bars}
use Rattle.htmd_markdown.proofs.TablesLemmas.{row_cells, line_cells-length, line_read, row_bars}
use Rattle.htmd_markdown.proofs.table.write_row.Goals as goal

pub returns-clause-reads_back : goal.returns-clause-reads_back
returns-clause-reads_back c =
    let widths = c.args.widths.now in
    let texts = map (λ cell. string_bytes cell) c.args.cells.now in
    let text : string_bytes c.push_row.new.text ≡ row texts widths = search rules in
    let size : length (line_cells (length widths) texts) ≡ length widths =
    omega (
      arith,
      line_cells-length (length widths) texts,
      length-map c.args.cells.now (λ cell. string_bytes cell),
      c.requires,
    ) in
    ap read_row text ∙ line_read (line_cells (length widths) texts) widths size
    (row_cells (length widths) c.args.cells.now)

pub returns-clause-bars : goal.returns-clause-bars
returns-clause-bars c =
    let widths = c.args.widths.now in
    let texts = map (λ cell. string_bytes cell) c.args.cells.now in
    let text : string_bytes c.push_row.new.text ≡ row texts widths = search rules in
    let size : length (line_cells (length widths) texts) ≡ length widths =
    omega (
      arith,
      line_cells-length (length widths) texts,
      length-map c.args.cells.now (λ cell. string_bytes cell),
      c.requires,
    ) in
    ap bars text ∙ row_bars (line_cells (length widths) texts) widths size
    (row_cells (length widths) c.args.cells.now)
