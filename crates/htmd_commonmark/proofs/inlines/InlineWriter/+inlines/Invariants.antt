use Rattle.std.proofs.Common.{◌≡◌, drop}
use Rattle.htmd_document.specs.DocumentViews.{inlines_of}
use Rattle.htmd_commonmark.specs.InlineMarkdown.{written}
use Rattle.htmd_commonmark.specs.WrittenText.{written_of}
use Rattle.htmd_commonmark.proofs.inlines.InlineWriter.+inlines.Given as goal

-- with the inlines to come, what is written so far is what is written of all
abbrev pub invariant-write_inlines-loop-i : goal.invariant-write_inlines-loop-i
invariant-write_inlines-loop-i l =
    written l.line (written_of l.self) l.closing (inlines_of (drop l.i l.xs))
    ≡ written l.line (written_of l.initial.self) l.closing (inlines_of l.xs)
