-- So many ends, and whether a quote is among the containers that are left.
use Rattle.std.proofs.Common.{◌≡◌, ◌++◌, ◌&&◌, map, drop, replicate}
use Rattle.htmd_commonmark_reader.specs.ClosedParts.{end, kind_of, parts_of}
use Rattle.htmd_commonmark_reader.specs.OpenBlocks.{no_quote}
use Rattle.htmd_commonmark_reader.proofs.blocks.end_all.Given as goal

abbrev pub invariant-loop-kind : goal.invariant-loop-kind
invariant-loop-kind l = record {
  parts : parts_of l.closed.items ≡ parts_of l.fn.closed.items ++ replicate l.kind-index end;
  gap : (l.after && no_quote (map kind_of (drop l.kind-index l.boxes)))
      ≡ (l.fn.gap && no_quote (map kind_of l.boxes));
}
