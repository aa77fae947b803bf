-- What is left to prove of `push_outermost`.
use Rattle.std.proofs.Common.{◌≡◌, ◌+◌, ◌++◌, length, drop, sym, ap, ◌∙◌}
use Rattle.std.proofs.lemmas.List.{append-nil, drop_all}
use Rattle.htmd_nodes.specs.Items.{Item, depth_at}
use Rattle.htmd_nodes.specs.Layout.{forest_items}
use Rattle.htmd_article.specs.Outermost.{outermost, all_outermost}
use Rattle.htmd_article.specs.PartViews.{part_of, parts_of}
use Rattle.htmd_article.specs.Writing.{all_written}
use Rattle.htmd_article.proofs.LaidLemmas.{laid-more, item_at-kept, within-kept}
use Rattle.htmd_article.proofs.OutermostLemmas.{all-next, within-all}
use Rattle.htmd_article.proofs.WritingLemmas.{laid}
use Rattle.htmd_article.proofs.writing.+push_outermost.Goals as goal

pub loop-inner-preserved : goal.loop-inner-preserved
loop-inner-preserved t c =
    let out = c.loop-inner.out in
    let new = c.push_outermost.new.out in
    let under = c.args.under in
    let xs = c.deref-inner-items.result.now in
    let x = c.inner-item.result in
    let depth = depth_at c.args.out.now under + 1 in
    let same_depth : depth_at out under + 1 ≡ depth = ap (λ (y : Item). y.depth + 1) c.loop-inner.invariant.same in
    let pushed = c.in_ok-push_outermost.ensures in
    let here = outermost c.args.mark (part_of x) in
    let later = all_outermost c.args.mark (parts_of (drop (c.loop-inner.inner-index + 1) xs)) in
    record {
      within = within-kept out new _ under pushed c.loop-inner.invariant.within;
      same = item_at-kept out new _ under pushed c.loop-inner.invariant.within ∙ c.loop-inner.invariant.same;
      rest =
          laid-more out new depth under here later
          (pushed ∙ ap (λ n. out ++ forest_items n under (length out) (all_written here)) same_depth)
          ∙ (ap (λ ys. out ++ forest_items depth under (length out) (all_written ys))
          (sym (all-next c.args.mark xs c.loop-inner.inner-index x c.loop-inner-test.true c.inner-item.is))
          ∙ c.loop-inner.invariant.rest);
    }

pub returns : goal.returns
returns t c =
    let out = c.loop-inner.out in
    let under = c.args.under in
    let xs = c.deref-inner-items.result.now in
    let depth = depth_at c.args.out.now under + 1 in
    sym (append-nil out)
    ∙ (ap (λ ys. out ++ forest_items depth under (length out)
    (all_written (all_outermost c.args.mark (parts_of ys))))
    (sym (drop_all c.loop-inner.inner-index xs c.loop-inner-test.false))
    ∙ (c.loop-inner.invariant.rest
    ∙ ap (λ ys. laid c.args.out.now under (all_written ys))
    (within-all c.args.mark c.args.part.now xs c.deref-inner-items.ensures.value
    (sym c.is_landmark.ensures ∙ c.if-is_landmark.false) (sym c.is_entered.ensures ∙ c.if-not-is_entered.false))))
