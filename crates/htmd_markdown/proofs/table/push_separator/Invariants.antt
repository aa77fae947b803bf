use Rattle.std.proofs.Common.{◌≡◌, ◌++◌, map, string_bytes}
use Rattle.htmd_markdown.specs.Tables.{dashes, separator}
use Rattle.htmd_markdown.proofs.TablesLemmas.{left}
use Rattle.htmd_markdown.proofs.table.push_separator.Given as goal

abbrev pub invariant-loop-width : goal.invariant-loop-width
invariant-loop-width l = string_bytes l.text ++ left (map dashes l.widths) l.widths l.width-index
    ≡ string_bytes l.fn.text ++ separator l.widths
