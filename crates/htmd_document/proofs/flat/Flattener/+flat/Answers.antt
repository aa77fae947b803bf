-- What is left to prove of `push_element`, `push_around` and `push_all`.
use Rattle.std.proofs.Common.{◌≡◌, ◌∙◌, sym, map, None, Some, ap}
use Rattle.htmd_document.specs.DocumentViews.{attribute_of, blocks_of}
use Rattle.htmd_document.specs.FlatViews.{flat_in}
use Rattle.htmd_document.proofs.FlatLemmas.{whole-pushed, around-pushed, element-pushed, on-ok}
use Rattle.htmd_document.proofs.FlatLemmas.{pushed-more, pushed-all}
use Rattle.htmd_document.proofs.flat.Flattener.+flat.Goals as goal

pub push_around-returns : goal.push_around-returns
push_around-returns n c =
    on-ok c.push_end.result c.push_end.ensures
    (around-pushed (flat_in c.args.self.now) (flat_in c.push_tag.new.self) (flat_in c.push_all.new.self)
    (flat_in c.push_end.new.self) c.args.name (map attribute_of c.args.attributes.now) (blocks_of c.args.content.now)
    c.in_ok-push_tag.ensures c.in_ok-push_all.ensures)

pub push_all-loop-block-preserved : goal.push_all-loop-block-preserved
push_all-loop-block-preserved n c =
    pushed-more (flat_in c.args.self.now) (flat_in c.loop-block.self) (flat_in c.push.new.self) c.args.blocks.now
    c.loop-block.block-index c.block-item.result c.loop-block-test.true c.block-item.is c.in_ok-push.ensures
    (blocks_of c.args.blocks.now) c.loop-block.invariant

pub push_all-returns : goal.push_all-returns
push_all-returns n c =
    pushed-all (flat_in c.args.self.now) (flat_in c.loop-block.self) c.args.blocks.now c.loop-block.block-index
    (blocks_of c.args.blocks.now) c.loop-block-test.false c.loop-block.invariant
