use Rattle.std.proofs.Common.{◌≡◌, map}
use Rattle.htmd_document.specs.DocumentViews.{block_of}
use Rattle.htmd_flow.specs.TableElements as spec
use Rattle.htmd_flow.specs.ElementViews as views
use Rattle.htmd_flow.proofs.table_element.piece_elements.Given as goal

abbrev pub invariant-loop-piece : goal.invariant-loop-piece
invariant-loop-piece l = map block_of l.elements.items ≡ map spec.piece_element (map views.piece_of l.yielded)
