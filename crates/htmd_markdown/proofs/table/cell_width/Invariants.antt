use Rattle.std.proofs.Common.{◌≡◌, take, min}
use Rattle.std.specs.Prelude.{sum_by}
use Rattle.htmd_markdown.specs.CellBytes.{byte_width}
use Rattle.htmd_markdown.proofs.table.cell_width.Given as goal

abbrev pub invariant-loop-b : goal.invariant-loop-b
invariant-loop-b l = l.width ≡ min (sum_by byte_width (take l.b-index l.b-items)) 0xFFFF_FFFF_FFFF_FFFF
