-- What is left to prove of the functions of the cycle `written`.
use Rattle.std.proofs.Common.{◌≡◌, ◌+◌, ◌++◌, length, drop, sym, ap, ◌∙◌}
use Rattle.htmd_nodes.specs.Items.{Item, depth_at}
use Rattle.htmd_nodes.specs.Layout.{forest_items}
use Rattle.htmd_article.specs.PartViews.{part_of, parts_of}
use Rattle.htmd_article.specs.Writing.{written, written_part}
use Rattle.htmd_article.proofs.LaidLemmas.{laid-next, item_at-kept, within-kept}
use Rattle.htmd_article.proofs.TurnsLemmas.{rest-next}
use Rattle.htmd_article.proofs.WritingLemmas.{laid, part_over}
use Rattle.htmd_article.proofs.writing.+written.Goals as goal

pub push_parts-loop-part-preserved : goal.push_parts-loop-part-preserved
push_parts-loop-part-preserved t c =
    let out = c.loop-part.out in
    let new = c.push_part.new.out in
    let ps = c.args.parts.now in
    let p = part_of c.part-item.result in
    let depth = depth_at c.args.out.now c.args.under + 1 in
    let same_depth : depth_at out c.args.under + 1 ≡ depth =
    ap (λ (x : Item). x.depth + 1) c.loop-part.invariant.same in
    let pushed = c.in_ok-push_part.ensures in
    record {
      within = within-kept out new _ c.args.under pushed c.loop-part.invariant.within;
      same = item_at-kept out new _ c.args.under pushed c.loop-part.invariant.within ∙ c.loop-part.invariant.same;
      rest =
          laid-next out new depth c.args.under c.args.in_title p
          (written c.args.in_title (parts_of (drop (c.loop-part.part-index + 1) ps)))
          (pushed ∙ ap (λ n. out ++ forest_items n c.args.under (length out) (written_part c.args.in_title p))
          same_depth)
          ∙ (ap (λ xs. out ++ forest_items depth c.args.under (length out) (written c.args.in_title (parts_of xs)))
          (sym (rest-next ps c.loop-part.part-index c.part-item.result c.loop-part-test.true c.part-item.is))
          ∙ c.loop-part.invariant.rest);
    }

pub push_part-returns-in_ok-push_parts : goal.push_part-returns-in_ok-push_parts
push_part-returns-in_ok-push_parts t c =
    part_over c.args.out.now c.args.under c.args.in_title c.args.part.now c.add_node.new.out c.push_parts.new.out
    c.in-Some.id c.in_title_below-in_title.result (sym c.goes.ensures ∙ c.if-goes.false)
    (sym c.in-Some.is ∙ c.in_ok-id.ensures.id) c.in_ok-id.ensures.out c.in_title_below-in_title.ensures
    (c.in_ok-push_parts.ensures
    ∙ ap (λ ps. laid c.add_node.new.out c.in-Some.id (written c.in_title_below-in_title.result (parts_of ps)))
    c.as_slice.ensures.value)
