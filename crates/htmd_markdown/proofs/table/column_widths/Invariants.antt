use Rattle.std.proofs.Common.{◌≡◌, fold, map, take}
use Rattle.htmd_markdown.specs.Tables.{wider, texts, row_texts}
use Rattle.htmd_markdown.specs.CellBytes.{held_widths}
use Rattle.htmd_markdown.proofs.table.column_widths.Given as goal

abbrev pub invariant-loop-row : goal.invariant-loop-row
invariant-loop-row l = l.widths.items ≡ fold wider (held_widths (texts l.headers))
    (map (λ row. held_widths (row_texts row)) (take l.row-index l.rows))
