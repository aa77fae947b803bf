-- What the widths so far take.
use Rattle.std.proofs.Common.{◌≡◌, take, min}
use Rattle.htmd_commonmark.specs.TableLines.{line_width}
use Rattle.htmd_commonmark.proofs.table.line_width.Given as goal

abbrev pub invariant-loop-width : goal.invariant-loop-width
invariant-loop-width l = l.len ≡ min (line_width (take l.width-index l.widths)) 0xFFFF_FFFF_FFFF_FFFF
