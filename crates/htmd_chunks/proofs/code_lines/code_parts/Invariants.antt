-- The parts so far, and the lines that are left.
use Rattle.std.proofs.Common.{◌≡◌, ◌≤◌, drop, length, map, take}
use Rattle.htmd_document.specs.Documents as value
use Rattle.htmd_document.specs.DocumentViews.{block_of, bytes_of_title}
use Rattle.htmd_chunks.specs.Runs.{together}
use Rattle.htmd_chunks.proofs.UnitPartsLemmas.{line_parts}
use Rattle.htmd_chunks.specs.CodeLines.{joined_lines}
use Rattle.htmd_chunks.proofs.code_lines.code_parts.Given as goal

abbrev pub invariant-loop-count : goal.invariant-loop-count
invariant-loop-count l =
    let all = line_parts l.bounds l.fn.margin l.fn.first (bytes_of_title l.language) l.text in
    record {
      parts : map block_of l.parts.items
          ≡ map (λ lines. value.code_block (bytes_of_title l.language) (joined_lines lines))
          (take l.count-index all);
      rest : map (λ line. line.now) (drop l.from l.lines.items) ≡ together (drop l.count-index all);
      within : l.from ≤ length l.lines.items;
    }
