use Rattle.std.proofs.Common.{rules, ◌<◌, ◌∷◌, [], ◌++◌, ℕ, sym, ap, ◌∙◌, map, length}
use Rattle.std.specs.Borrow.{Bor}
use Rattle.std.proofs.lemmas.List.{map_push}
use Rattle.std.proofs.lemmas.Iterator.{YieldsList-from_slice, YieldsList-from_zip}
use Rattle.std.proofs.lemmas.Iterator.Adapters.{YieldsList-from_vec}
use Rattle.std.proofs.lemmas.Iterator.Consumers.{YieldsList-turn, YieldsList-end}
use Rattle.htmd_markdown.specs.Lists.{Block, block_of}
use Rattle.htmd_nodes.specs.Items.{tag_of, data_at}
use Rattle.htmd_walk.specs.declared.element_handler.HandlerResult.{HandlerResult}
use Rattle.htmd_walk.specs.Handling.{ResultView}
use Rattle.htmd_walk.specs.Lists.{block_of_child}
use Rattle.htmd_walk.specs.Views.{result_view}
use Rattle.std.proofs.lemmas.Simd.{map-map}
use Rattle.htmd_walk.proofs.ChildListsLemmas.{zip-map, zip_first_all}
use Rattle.htmd_walk.proofs.element_handler.list.list_blocks.Goals as goal

pub list_block-requires : goal.list_block-requires
list_block-requires c =
    let yields = YieldsList-from_zip {s = c.into_iter-child-iterator.result}
    (YieldsList-from_slice c.args.children.now (search rules))
    (YieldsList-from_vec c.args.contents.items (search rules) (search rules)) in
    let turn = YieldsList-turn yields c.loop-child.yielded _ c.loop-child.yielded_by c.next.result c.next.new.self
    (c.in-Some.child, c.in-Some.content) c.in-Some.is c.next.ensures.steps in
    zip_first_all (λ child. child < length c.args.tree.now) c.args.children.now c.args.contents.items
    (length c.loop-child.yielded) c.in-Some.child.now c.in-Some.content c.requires turn.0 turn.1

pub loop-child-preserved : goal.loop-child-preserved
loop-child-preserved c =
    let f : Bor ℕ × HandlerResult → Block = λ p. block_of_child (tag_of (data_at c.args.tree.now p.0.now))
    (result_view p.1).content in
    ap (map block_of) c.in_ok-push.ensures.items
    ∙ map_push block_of c.loop-child.blocks.items c.list_block.result
    ∙ ap (λ ys. ys ++ block_of c.list_block.result ∷ []) c.loop-child.invariant
    ∙ ap (λ y. map f c.loop-child.yielded ++ y ∷ []) c.list_block.ensures
    ∙ sym (map_push f c.loop-child.yielded (c.in-Some.child, c.in-Some.content))

pub returns : goal.returns
returns c =
    let yields = YieldsList-from_zip {s = c.into_iter-child-iterator.result}
    (YieldsList-from_slice c.args.children.now (search rules))
    (YieldsList-from_vec c.args.contents.items (search rules) (search rules)) in
    let all = YieldsList-end yields c.loop-child.yielded _ c.loop-child.yielded_by c.next.result c.next.new.self
    c.in-None.is c.next.ensures.steps in
    let g : ℕ × HandlerResult → Block = λ p. block_of_child (tag_of (data_at c.args.tree.now p.0))
    (result_view p.1).content in
    let h : ℕ × ResultView → Block = λ p. block_of_child (tag_of (data_at c.args.tree.now p.0)) p.1.content in
    c.loop-child.invariant
    ∙ sym (map-map g (λ (p : Bor ℕ × HandlerResult). (p.0.now, p.1)) c.loop-child.yielded)
    ∙ ap (map g) all.0
    ∙ sym (zip-map h result_view c.args.children.now c.args.contents.items)
