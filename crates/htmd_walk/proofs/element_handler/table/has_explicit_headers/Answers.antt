use Rattle.std.proofs.Common.{sym, ◌∙◌}
use Rattle.htmd_walk.proofs.ChildListsLemmas.{any_here, none_more, none_all, child_within}
use Rattle.htmd_walk.proofs.TableHeadersLemmas.{shows_header, explicit_headers-any, shown, not_shown}
use Rattle.htmd_walk.proofs.element_handler.table.has_explicit_headers.Goals as goal

pub is_header-requires : goal.is_header-requires
is_header-requires c =
    let ids = c.children-child-items in
    child_within c.args.tree.now c.args.table ids.result.now c.loop-child.child-index c.child-item.result
    ids.ensures.tree c.requires ids.ensures.value c.loop-child-test.true c.child-item.is

pub has_header_below-requires : goal.has_header_below-requires
has_header_below-requires c =
    let ids = c.children-child-items in
    child_within c.args.tree.now c.args.table ids.result.now c.loop-child.child-index c.child-item.result
    ids.ensures.tree c.requires ids.ensures.value c.loop-child-test.true c.child-item.is

pub returns-then-is_header : goal.returns-then-is_header
returns-then-is_header c =
    let items = c.args.tree.now in
    let ids = c.children-child-items in
    let w = (child_within c.args.tree.now c.args.table ids.result.now c.loop-child.child-index c.child-item.result
    ids.ensures.tree c.requires ids.ensures.value c.loop-child-test.true c.child-item.is) in
    sym (explicit_headers-any items ids.ensures.tree c.args.table ids.result.now ids.ensures.value
    ∙ any_here (shows_header items) ids.result.now c.loop-child.child-index c.child-item.result c.loop-child-test.true
    c.child-item.is (shown items ids.ensures.tree c.child-item.result w
    (sym c.is_header.ensures ∙ c.if-is_header.true)))

pub returns-then-has_header_below : goal.returns-then-has_header_below
returns-then-has_header_below c =
    let items = c.args.tree.now in
    let ids = c.children-child-items in
    let w = (child_within c.args.tree.now c.args.table ids.result.now c.loop-child.child-index c.child-item.result
    ids.ensures.tree c.requires ids.ensures.value c.loop-child-test.true c.child-item.is) in
    sym (explicit_headers-any items ids.ensures.tree c.args.table ids.result.now ids.ensures.value
    ∙ any_here (shows_header items) ids.result.now c.loop-child.child-index c.child-item.result c.loop-child-test.true
    c.child-item.is (not_shown items ids.ensures.tree c.child-item.result w (sym c.is_header.ensures
    ∙ c.if-is_header.false) ∙ sym c.has_header_below.ensures ∙ c.if-has_header_below.true))

pub loop-child-preserved : goal.loop-child-preserved
loop-child-preserved c =
    let items = c.args.tree.now in
    let ids = c.children-child-items in
    let w = (child_within c.args.tree.now c.args.table ids.result.now c.loop-child.child-index c.child-item.result
    ids.ensures.tree c.requires ids.ensures.value c.loop-child-test.true c.child-item.is) in
    none_more (shows_header items) ids.result.now c.loop-child.child-index c.child-item.result c.loop-child-test.true
    c.child-item.is c.loop-child.invariant (not_shown items ids.ensures.tree c.child-item.result w
    (sym c.is_header.ensures ∙ c.if-is_header.false) ∙ sym c.has_header_below.ensures
    ∙ c.if-has_header_below.false)

pub returns : goal.returns
returns c =
    let items = c.args.tree.now in
    let ids = c.children-child-items in
    sym (explicit_headers-any items ids.ensures.tree c.args.table ids.result.now ids.ensures.value
    ∙ none_all (shows_header items) ids.result.now c.loop-child.child-index c.loop-child.invariant
    c.loop-child-test.false)
