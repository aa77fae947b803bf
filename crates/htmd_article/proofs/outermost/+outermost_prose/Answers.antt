-- What is left to prove of `outermost_prose`.
use Rattle.std.proofs.Common.{◌≡◌, sym, ap, ◌∙◌, arith, drop}
use Rattle.std.proofs.lemmas.List.{at_drop_all}
use Rattle.htmd_article.specs.Choices.{prose_in}
use Rattle.htmd_article.specs.Outermost.{all_outermost}
use Rattle.htmd_article.specs.PartViews.{parts_of}
use Rattle.htmd_article.proofs.OutermostLemmas.{prose_turn, within-all}
use Rattle.htmd_article.proofs.outermost.+outermost_prose.Goals as goal

pub loop-inner-preserved : goal.loop-inner-preserved
loop-inner-preserved t c =
    prose_turn c.args.mark c.deref-inner-items.result.now c.loop-inner.inner-index c.inner-item.result
    c.loop-inner-test.true c.inner-item.is c.loop-inner.prose c.in_ok-outermost_prose.field-0
    c.in_ok-outermost_prose.ensures c.in_ok-prose.prose c.in_ok-prose.ensures c.loop-inner.invariant

pub returns : goal.returns
returns t c =
    let xs = c.deref-inner-items.result.now in
    let none : prose_in (all_outermost c.args.mark (parts_of (drop c.loop-inner.inner-index xs))) ≡ 0 =
    at_drop_all (λ ys. prose_in (all_outermost c.args.mark (parts_of ys))) xs c.loop-inner.inner-index
    c.loop-inner-test.false in
    let all : c.loop-inner.prose ≡ prose_in (all_outermost c.args.mark (parts_of xs)) =
    omega (arith, none, c.loop-inner.invariant) in
    all ∙ ap prose_in (within-all c.args.mark c.args.part.now xs c.deref-inner-items.ensures.value
    (sym c.is_landmark.ensures ∙ c.if-is_landmark.false) (sym c.is_entered.ensures ∙ c.if-not-is_entered.false))
