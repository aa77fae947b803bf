-- What is left to prove of `large_within`.
use Rattle.std.proofs.Common.{sym, ap, ◌∙◌}
use Rattle.std.proofs.lemmas.List.{at_drop_all}
use Rattle.htmd_article.specs.Choices.{large_article}
use Rattle.htmd_article.specs.Outermost.{all_outermost}
use Rattle.htmd_article.specs.PartViews.{parts_of}
use Rattle.htmd_article.proofs.OutermostLemmas.{large_some, large_none, walk_some, walk_none, within-all}
use Rattle.htmd_article.proofs.outermost.+large_within.Goals as goal

pub returns-in-Some : goal.returns-in-Some
returns-in-Some t c =
    walk_some c.args.mark c.deref-inner-items.result.now c.loop-inner.inner-index c.inner-item.result
    c.loop-inner-test.true c.inner-item.is (large_article c.args.whole) (large_some c.args.whole)
    (large_none c.args.whole)
    c.large_within.result c.large_within.ensures c.loop-inner.invariant c.in-Some.found c.in-Some.is
    ∙ ap (large_article c.args.whole) (within-all c.args.mark c.args.part.now c.deref-inner-items.result.now
    c.deref-inner-items.ensures.value (sym c.is_landmark.ensures ∙ c.if-is_landmark.false)
    (sym c.is_entered.ensures ∙ c.if-not-is_entered.false))

pub loop-inner-preserved : goal.loop-inner-preserved
loop-inner-preserved t c =
    walk_none c.args.mark c.deref-inner-items.result.now c.loop-inner.inner-index c.inner-item.result
    c.loop-inner-test.true c.inner-item.is (large_article c.args.whole) (large_some c.args.whole)
    (large_none c.args.whole)
    c.large_within.result c.large_within.ensures c.loop-inner.invariant c.in_default.not-Some

pub returns : goal.returns
returns t c =
    sym (at_drop_all (λ ys. large_article c.args.whole (all_outermost c.args.mark (parts_of ys)))
    c.deref-inner-items.result.now c.loop-inner.inner-index c.loop-inner-test.false) ∙ c.loop-inner.invariant
    ∙ ap (large_article c.args.whole) (within-all c.args.mark c.args.part.now c.deref-inner-items.result.now
    c.deref-inner-items.ensures.value (sym c.is_landmark.ensures ∙ c.if-is_landmark.false)
    (sym c.is_entered.ensures ∙ c.if-not-is_entered.false))
