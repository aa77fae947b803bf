-- One more child.
use Rattle.std.proofs.Common.{arith, ap, ◌∷◌, [], ◌∙◌, sym}
use Rattle.htmd_markdown.specs.Lists.{item_count, block_of}
use Rattle.htmd_markdown.proofs.ListsLemmas.{items_before, counted_more}
use Rattle.htmd_markdown.proofs.list.item_count.Goals as goal
use Rattle.htmd_markdown.proofs.list.item_count.Goals.{in-Item, in-Other}

pub overflow_add-count : goal.overflow_add-count
overflow_add-count c = omega (
  arith,
  items_before block_of c.args.blocks.now c.loop-block.block-index (omega arith),
  c.loop-block.invariant,
)

pub loop-block-preserved : goal.loop-block-preserved
loop-block-preserved c =
    let more = counted_more block_of c.args.blocks.now c.loop-block.block-index c.block-item.result
    c.loop-block-test.true in
    elim c.match-block.branch [
      | in-Item w ↦
          let one = ap (λ block. item_count (block_of block ∷ [])) (sym c.block-item.is ∙ w.in-Item.is) in
          omega (arith, w.count-is, c.loop-block.invariant, more, one)
      | in-Other w ↦
          let none = ap (λ block. item_count (block_of block ∷ [])) (sym c.block-item.is ∙ w.in-Other.is) in
          omega (arith, w.count-is, c.loop-block.invariant, more, none)
    ]
