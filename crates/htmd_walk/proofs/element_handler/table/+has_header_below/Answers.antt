use Rattle.std.proofs.Common.{rules, ◌<◌, length, sym, ◌∙◌}
use Rattle.htmd_nodes.proofs.ItemsLemmas.{child_read}
use Rattle.htmd_walk.proofs.ChildListsLemmas.{any_here, none_more, none_all, child_within}
use Rattle.htmd_walk.proofs.TableHeadersLemmas.{shows_header_deeper, header_below-any, shown_deeper, table_shown}
use Rattle.htmd_walk.proofs.TableHeadersLemmas.{other_shown}
use Rattle.htmd_walk.proofs.element_handler.table.+has_header_below.Goals as goal

pub is_header-requires : goal.is_header-requires
is_header-requires t c =
    let ids = c.children-child-items in
    child_within c.args.tree.now c.args.node ids.result.now c.loop-child.child-index c.child-item.result
    ids.ensures.tree c.requires ids.ensures.value c.loop-child-test.true c.child-item.is

pub has_tag-requires : goal.has_tag-requires
has_tag-requires t c =
    let ids = c.children-child-items in
    child_within c.args.tree.now c.args.node ids.result.now c.loop-child.child-index c.child-item.result
    ids.ensures.tree c.requires ids.ensures.value c.loop-child-test.true c.child-item.is

pub has_header_below-requires : goal.has_header_below-requires
has_header_below-requires t c =
    let below = child_read c.args.tree.now c.args.node c.children-child-items.result.now c.loop-child.child-index
    c.child-item.result c.children-child-items.ensures.tree c.requires c.children-child-items.ensures.value
    c.loop-child-test.true c.child-item.is in
    let behind : c.args.node < c.child-item.result = below.0 in
    let within : c.child-item.result < length c.args.tree.now = below.1 in
    (search rules, within)

pub returns-then-is_header : goal.returns-then-is_header
returns-then-is_header t c =
    let items = c.args.tree.now in
    let ids = c.children-child-items in
    let w = child_within c.args.tree.now c.args.node ids.result.now c.loop-child.child-index c.child-item.result
    ids.ensures.tree c.requires ids.ensures.value c.loop-child-test.true c.child-item.is in
    sym (header_below-any items ids.ensures.tree c.args.node ids.result.now c.requires ids.ensures.value
    ∙ any_here (shows_header_deeper items) ids.result.now c.loop-child.child-index c.child-item.result
    c.loop-child-test.true c.child-item.is (shown_deeper items ids.ensures.tree c.child-item.result w
    (sym c.is_header.ensures ∙ c.if-is_header.true)))

pub loop-child-preserved-then-has_tag : goal.loop-child-preserved-then-has_tag
loop-child-preserved-then-has_tag t c =
    let items = c.args.tree.now in
    let ids = c.children-child-items in
    let w = child_within c.args.tree.now c.args.node ids.result.now c.loop-child.child-index c.child-item.result
    ids.ensures.tree c.requires ids.ensures.value c.loop-child-test.true c.child-item.is in
    none_more (shows_header_deeper items) ids.result.now c.loop-child.child-index c.child-item.result
    c.loop-child-test.true c.child-item.is c.loop-child.invariant (table_shown items ids.ensures.tree
    c.child-item.result w (sym c.is_header.ensures ∙ c.if-is_header.false)
    (sym c.has_tag.ensures ∙ c.if-has_tag.true))

pub returns-then-has_header_below : goal.returns-then-has_header_below
returns-then-has_header_below t c =
    let items = c.args.tree.now in
    let ids = c.children-child-items in
    let w = child_within c.args.tree.now c.args.node ids.result.now c.loop-child.child-index c.child-item.result
    ids.ensures.tree c.requires ids.ensures.value c.loop-child-test.true c.child-item.is in
    sym (header_below-any items ids.ensures.tree c.args.node ids.result.now c.requires ids.ensures.value
    ∙ any_here (shows_header_deeper items) ids.result.now c.loop-child.child-index c.child-item.result
    c.loop-child-test.true c.child-item.is (other_shown items ids.ensures.tree c.child-item.result w
    (sym c.is_header.ensures ∙ c.if-is_header.false) (sym c.has_tag.ensures ∙ c.if-has_tag.false)
    ∙ sym c.has_header_below.ensures ∙ c.if-has_header_below.true))

pub loop-child-preserved : goal.loop-child-preserved
loop-child-preserved t c =
    let items = c.args.tree.now in
    let ids = c.children-child-items in
    let w = child_within c.args.tree.now c.args.node ids.result.now c.loop-child.child-index c.child-item.result
    ids.ensures.tree c.requires ids.ensures.value c.loop-child-test.true c.child-item.is in
    none_more (shows_header_deeper items) ids.result.now c.loop-child.child-index c.child-item.result
    c.loop-child-test.true c.child-item.is c.loop-child.invariant (other_shown items ids.ensures.tree
    c.child-item.result w (sym c.is_header.ensures ∙ c.if-is_header.false)
    (sym c.has_tag.ensures ∙ c.if-has_tag.false)
    ∙ sym c.has_header_below.ensures ∙ c.if-has_header_below.false)

pub returns : goal.returns
returns t c =
    let items = c.args.tree.now in
    let ids = c.children-child-items in
    sym (header_below-any items ids.ensures.tree c.args.node ids.result.now c.requires ids.ensures.value
    ∙ none_all (shows_header_deeper items) ids.result.now c.loop-child.child-index c.loop-child.invariant
    c.loop-child-test.false)
