-- What the source gave so far was written.
use Rattle.htmd_folders.proofs.CopiesLemmas.{IsCopying}
use Rattle.htmd_folders.proofs.copies.copy.Given as goal

abbrev pub invariant-loop : goal.invariant-loop
invariant-loop g l =
    IsCopying (g.R.Source.remaining l.initial.source) (g.R.Source.remaining l.source)
    (g.W.Sink.contents l.initial.sink) (g.W.Sink.contents l.sink)
