-- The lines so far, and then the block.
use Rattle.std.proofs.Common.{refl, string_bytes}
use Rattle.htmd_document.specs.DocumentViews.{block_of}
use Rattle.htmd_document.specs.FlatDocuments.{flat_block}
use Rattle.htmd_document.specs.FlatViews.{flat_of, flat_in}
use Rattle.htmd_document.proofs.FlatLemmas.{block-pushed, put-behind}
use Rattle.htmd_document.proofs.flat.Flattener.push_block.Goals as goal

pub returns : goal.returns
returns c =
    let b = block_of c.args.block.now in
    let old = flat_in c.args.self.now in
    block-pushed old _ b c.requires
    (put-behind flat_of old c.end_lines.new.self.blocks.items c.push.new.self.items
    (string_bytes c.end_lines.new.self.lines) _ (flat_block b) c.in_ok-end_lines.ensures c.in_ok-push.ensures.items
    refl)
