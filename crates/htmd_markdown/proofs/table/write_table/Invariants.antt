use Rattle.std.proofs.Common.{◌≡◌, ◌++◌, map, take, string_bytes}
use Rattle.std.specs.List.{flat_map}
use Rattle.htmd_markdown.specs.Tables.{head, row, texts, row_texts}
use Rattle.htmd_markdown.proofs.table.write_table.Given as goal

abbrev pub invariant-loop-row : goal.invariant-loop-row
invariant-loop-row l =
    string_bytes l.text ≡ head (texts l.headers) l.widths.items ++ flat_map (λ cells. row cells l.widths.items)
    (map row_texts (take l.row-index l.rows))
