-- The definitions so far are written.
use Rattle.std.proofs.Common.{◌≡◌, take}
use Rattle.htmd_markdown.specs.Tables.{texts}
use Rattle.htmd_commonmark.specs.DocumentMarkdown.{written_definitions}
use Rattle.htmd_commonmark.specs.Pages.{wrote}
use Rattle.htmd_commonmark.proofs.blocks.push_definitions.Given as goal

abbrev pub invariant-loop-i : goal.invariant-loop-i
invariant-loop-i l = l.lines ≡ wrote l.fn.lines (written_definitions (take l.i (texts l.definitions)))
