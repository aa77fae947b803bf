-- The lines so far.
use Rattle.std.proofs.Common.{length}
use Rattle.std.specs.Str.Lines.{lines}
use Rattle.std.specs.String.{string_bytes}
use Rattle.htmd_markdown.proofs.TitlesLemmas.{Tidying}
use Rattle.htmd_markdown.proofs.title.push_tidied.Given as goal

abbrev pub invariant-loop-line : goal.invariant-loop-line
invariant-loop-line l = Tidying (lines l.text) (string_bytes l.fn.out) (string_bytes l.out) l.is_first
    (length l.yielded)
