-- What is left to prove of `large_in`.
use Rattle.std.proofs.Common.{sym, ap, ◌∙◌}
use Rattle.std.proofs.lemmas.List.{at_drop_all}
use Rattle.htmd_article.specs.declared.outermost.Landmark.TheVariants as landmark
use Rattle.htmd_article.specs.Choices.{first_large}
use Rattle.htmd_article.specs.Outermost.{all_outermost}
use Rattle.htmd_article.specs.PartViews.{parts_of}
use Rattle.htmd_article.proofs.OutermostLemmas.{first_some, first_none, walk_some, walk_none, within-all}
use Rattle.htmd_article.proofs.outermost.+large_in.Goals as goal

pub returns-in-Some : goal.returns-in-Some
returns-in-Some t c =
    walk_some landmark.Article c.deref-inner-items.result.now c.loop-inner.inner-index c.inner-item.result
    c.loop-inner-test.true c.inner-item.is (first_large c.args.whole) (first_some c.args.whole)
    (first_none c.args.whole)
    c.large_in.result c.large_in.ensures c.loop-inner.invariant c.in-Some.found c.in-Some.is
    ∙ ap (first_large c.args.whole) (within-all landmark.Article c.args.part.now c.deref-inner-items.result.now
    c.deref-inner-items.ensures.value (sym c.is_landmark.ensures ∙ c.if-is_landmark.false)
    (sym c.is_entered.ensures ∙ c.if-not-is_entered.false))

pub loop-inner-preserved : goal.loop-inner-preserved
loop-inner-preserved t c =
    walk_none landmark.Article c.deref-inner-items.result.now c.loop-inner.inner-index c.inner-item.result
    c.loop-inner-test.true c.inner-item.is (first_large c.args.whole) (first_some c.args.whole)
    (first_none c.args.whole)
    c.large_in.result c.large_in.ensures c.loop-inner.invariant c.in_default.not-Some

pub returns : goal.returns
returns t c =
    sym (at_drop_all (λ ys. first_large c.args.whole (all_outermost landmark.Article (parts_of ys)))
    c.deref-inner-items.result.now c.loop-inner.inner-index c.loop-inner-test.false) ∙ c.loop-inner.invariant
    ∙ ap (first_large c.args.whole) (within-all landmark.Article c.args.part.now c.deref-inner-items.result.now
    c.deref-inner-items.ensures.value (sym c.is_landmark.ensures ∙ c.if-is_landmark.false)
    (sym c.is_entered.ensures ∙ c.if-not-is_entered.false))
