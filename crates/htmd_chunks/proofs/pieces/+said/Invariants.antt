use Rattle.std.proofs.Common.{◌≡◌, ◌++◌, drop}
use Rattle.std.specs.Prelude.{string_bytes}
use Rattle.htmd_document.specs.DocumentViews.{inlines_of}
use Rattle.htmd_chunks.specs.Pieces as spec
use Rattle.htmd_chunks.proofs.pieces.+said.Given as goal

abbrev pub invariant-push_said_in-loop-x : goal.invariant-push_said_in-loop-x
invariant-push_said_in-loop-x l =
    string_bytes l.initial.out ++ spec.said_in (inlines_of l.xs)
    ≡ string_bytes l.out ++ spec.said_in (inlines_of (drop l.x-index l.xs))
