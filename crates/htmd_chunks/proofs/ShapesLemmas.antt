-- What the blocks of the source are as values.
use Rattle.std.proofs.Common.{◌≡◌, sym, ap, ◌∙◌}
use Rattle.std.specs.Prelude.{Vec}
use Rattle.std.specs.declared.alloc.Global.{Global}
use Rattle.htmd_document.specs.Documents as value
use Rattle.htmd_document.specs.DocumentViews.{block_of, block_step, blocks_of}
use Rattle.htmd_document.specs.declared.document.Alignment.{Alignment}
use Rattle.htmd_document.specs.declared.document.Block as source
use Rattle.htmd_document.specs.declared.document.Block.{Block, fold-roll-Block}
use Rattle.htmd_document.specs.declared.document.Block.TheVariants.{rolls-Quote, rolls-Table}
use Rattle.htmd_document.specs.declared.document.Inline.{Inline}
use Rattle.htmd_commonmark.specs.BlockViews.{cells_of, rows_of}

pub quote_shape : (content : Vec Block Global)
    → block_of (source.Quote content) ≡ value.quote (blocks_of content.items)
quote_shape content =
    ap block_of (sym (rolls-Quote content)) ∙ fold-roll-Block value.Block block_step (source.Block-F.Quote content)

pub table_shape : (a : Vec Alignment Global) (h : Vec (Vec Inline Global) Global)
    (r : Vec (Vec (Vec Inline Global) Global) Global)
    → block_of (source.Table a h r) ≡ value.table a.items (cells_of h.items) (rows_of r.items)
table_shape a h r =
    ap block_of (sym (rolls-Table a h r)) ∙ fold-roll-Block value.Block block_step (source.Block-F.Table a h r)
