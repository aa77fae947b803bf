use Rattle.std.proofs.Common.{◌≡◌, ◌++◌, map}
use Rattle.std.specs.Prelude.{replicate}
use Rattle.htmd_document.specs.Documents.{no_blocks}
use Rattle.htmd_document.specs.DocumentViews.{blocks_of}
use Rattle.htmd_chunks.proofs.list_filling.push_empties.Given as goal

abbrev pub invariant-loop-i : goal.invariant-loop-i
invariant-loop-i l = map (λ bs. blocks_of bs.items) l.items.items
    ≡ map (λ bs. blocks_of bs.items) l.initial.items.items ++ replicate l._i no_blocks
