use Rattle.std.proofs.Common.{sym, ap, ◌∙◌}
use Rattle.std.specs.List.{list_any}
use Rattle.htmd_walk.specs.TableCells.{is_block_node}
use Rattle.htmd_walk.proofs.ChildListsLemmas.{any_here, none_more, none_all, child_within}
use Rattle.htmd_walk.proofs.element_handler.table_cell.has_blocks.Goals as goal

pub is_block-requires : goal.is_block-requires
is_block-requires c =
    let ids = c.children-child-items in
    child_within c.args.element.now.tree.now c.args.element.now.node ids.result.now c.loop-child.child-index
    c.child-item.result ids.ensures.tree c.args.element.now.within ids.ensures.value c.loop-child-test.true
    c.child-item.is

pub returns-then-is_block : goal.returns-then-is_block
returns-then-is_block c =
    let ids = c.children-child-items in
    let p = is_block_node c.args.element.now.tree.now in
    sym (ap (list_any p) (sym ids.ensures.value)
    ∙ any_here p ids.result.now c.loop-child.child-index c.child-item.result c.loop-child-test.true c.child-item.is
    (sym c.is_block.ensures ∙ c.if-is_block.true))

pub loop-child-preserved : goal.loop-child-preserved
loop-child-preserved c =
    none_more (is_block_node c.args.element.now.tree.now) c.children-child-items.result.now c.loop-child.child-index
    c.child-item.result c.loop-child-test.true c.child-item.is c.loop-child.invariant
    (sym c.is_block.ensures ∙ c.if-is_block.false)

pub returns : goal.returns
returns c =
    let ids = c.children-child-items in
    let p = is_block_node c.args.element.now.tree.now in
    sym (ap (list_any p) (sym ids.ensures.value)
    ∙ none_all p ids.result.now c.loop-child.child-index c.loop-child.invariant c.loop-child-test.false)
