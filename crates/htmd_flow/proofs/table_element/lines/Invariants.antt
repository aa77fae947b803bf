use Rattle.std.proofs.Common.{◌≡◌, map}
use Rattle.htmd_flow.specs.GridViews.{line_of, lines_of}
use Rattle.htmd_flow.specs.TableElements as spec
use Rattle.htmd_flow.specs.ElementViews as views
use Rattle.htmd_flow.proofs.table_element.lines.Given as goal

abbrev pub invariant-loop-piece : goal.invariant-loop-piece
invariant-loop-piece l = lines_of l.lines.items ≡ map spec.line_of (map views.piece_of l.yielded)
