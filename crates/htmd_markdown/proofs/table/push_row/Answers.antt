use Rattle.std.proofs.Common.{◌≡◌, ◌+◌, ◌<◌, ◌++◌, [], length, get_or, map, ap, ◌∙◌, sym, arith, string_bytes}
use Rattle.std.proofs.lemmas.List.{length-map, get_or-map, get_or_past}
use Rattle.htmd_markdown.specs.Tables.{normalised_cell, line_cells, padded_cell}
use Rattle.htmd_markdown.specs.CellBytes.{bar}
use Rattle.htmd_markdown.proofs.TablesLemmas.{left, line_begun, line_more, line_ended, line_cells-length, cell_at}
use Rattle.htmd_markdown.proofs.table.push_row.Goals as goal
use Rattle.htmd_markdown.proofs.table.push_row.Goals.{in-Some, in-None}

pub loop-i-init : goal.loop-i-init
loop-i-init c =
    let widths = c.args.widths.now in
    let cells =
    line_cells (length widths) (map (λ cell. string_bytes cell) c.args.cells.now) in
    ap (λ l. l ++ left cells widths 0) c.in_ok-push_str.ensures.bytes
    ∙ line_begun (string_bytes c.args.text.now) cells widths

pub loop-i-preserved : goal.loop-i-preserved
loop-i-preserved c =
    let widths = c.args.widths.now in
    let texts = map (λ cell. string_bytes cell) c.args.cells.now in
    let cells = line_cells (length widths) texts in
    let out = string_bytes c.loop-i.text in
    let i = c.loop-i.i in
    let size = length-map c.args.cells.now (λ cell. string_bytes cell) in
    let text : c.match-get.cell.now ≡ get_or texts i [] = elim c.match-get.branch [
      | in-Some w ↦
          let found = w.in-Some.ensures.lookup in
          ap (λ cell. cell.now) w.cell-is
          ∙ w.as_str-cell.ensures.value
          ∙ ap (λ cell. string_bytes cell) found.1
          ∙ sym (get_or-map (λ cell. string_bytes cell) c.args.cells.now i w.in-Some.cell.now [] found.3.0)
      | in-None w ↦
          let past = w.in-None.ensures.lookup.3 in
          ap (λ cell. cell.now) w.cell-is ∙ sym (get_or_past texts i [] (omega (arith, past, size)))
    ] in
    let cell : normalised_cell c.match-get.cell.now ≡ get_or cells i [] = ap normalised_cell text
    ∙ sym (cell_at (length widths) texts i c.loop-i-test.true) in
    let within : i < length cells =
    omega (arith, line_cells-length (length widths) texts, c.loop-i-test.true) in
    ap (λ l. l ++ left cells widths (i + 1)) (c.in_ok-push_padded.ensures
    ∙ ap (λ l. (out ++ padded_cell l (get_or widths i 0)) ++ bar) cell)
    ∙ line_more out cells widths i within c.loop-i-test.true
    ∙ c.loop-i.invariant

pub returns : goal.returns
returns c =
    let widths = c.args.widths.now in
    let cells =
    line_cells (length widths) (map (λ cell. string_bytes cell) c.args.cells.now) in
    c.in_ok-push_str-2.ensures.bytes
    ∙ line_ended (string_bytes c.loop-i.text) cells widths c.loop-i.i c.loop-i-test.false
    ∙ c.loop-i.invariant
