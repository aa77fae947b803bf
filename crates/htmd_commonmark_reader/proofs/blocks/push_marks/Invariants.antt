-- So many definitions.
use Rattle.std.proofs.Common.{◌≡◌, ◌++◌}
use Rattle.htmd_commonmark_reader.specs.ClosedParts.{parts_of}
use Rattle.htmd_commonmark_reader.specs.OpenBlocks.{definition_marks}
use Rattle.htmd_commonmark_reader.proofs.blocks.push_marks.Given as goal

abbrev pub invariant-loop-at : goal.invariant-loop-at
invariant-loop-at l = parts_of l.closed.items ≡ parts_of l.fn.closed.items ++ definition_marks l.gap l.at
