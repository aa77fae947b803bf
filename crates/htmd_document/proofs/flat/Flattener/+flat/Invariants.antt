-- With the blocks to come, what was put so far is all of it.
use Rattle.std.proofs.Common.{◌≡◌, drop}
use Rattle.htmd_document.specs.Documents as value
use Rattle.htmd_document.specs.DocumentViews.{blocks_of}
use Rattle.htmd_document.specs.FlatDocuments.{flat_all}
use Rattle.htmd_document.specs.FlatViews.{flat_in, before}
use Rattle.htmd_document.proofs.flat.Flattener.+flat.Given as goal

abbrev pub invariant-push_all-loop-block : goal.invariant-push_all-loop-block
invariant-push_all-loop-block l =
    (rest : value.Blocks) → before (flat_in l.self) (flat_all (blocks_of (drop l.block-index l.blocks)) rest)
    ≡ before (flat_in l.initial.self) (flat_all (blocks_of l.blocks) rest)
