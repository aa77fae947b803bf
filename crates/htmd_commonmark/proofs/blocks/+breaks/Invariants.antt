-- No break so far.
use Rattle.std.proofs.Common.{◌≡◌, drop}
use Rattle.htmd_document.specs.DocumentViews.{inlines_of}
use Rattle.htmd_commonmark.specs.BlockMarkdown.{has_break}
use Rattle.htmd_commonmark.proofs.blocks.+breaks.Given as goal

abbrev pub invariant-has_break-loop-inline : goal.invariant-has_break-loop-inline
invariant-has_break-loop-inline l =
    has_break (inlines_of (drop l.inline-index l.inlines)) ≡ has_break (inlines_of l.inlines)
