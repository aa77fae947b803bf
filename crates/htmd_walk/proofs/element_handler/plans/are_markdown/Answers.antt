use Rattle.std.proofs.Common.{◌+◌, sym, ap, ◌∙◌, ◌&&◌, drop}
use Rattle.htmd_walk.specs.ElementPlans.{are_markdown}
use Rattle.htmd_walk.specs.Views.{results_view}
use Rattle.htmd_walk.proofs.ChildListsLemmas.{markdown_at, markdown_end}
use Rattle.htmd_walk.proofs.element_handler.plans.are_markdown.Goals as goal

pub returns-then-not-content : goal.returns-then-not-content
returns-then-not-content c =
    let rest = are_markdown (results_view (drop (c.loop-content.content-index + 1) c.args.contents.now)) in
    sym (sym c.loop-content.invariant
    ∙ markdown_at c.args.contents.now c.loop-content.content-index c.content-item.result c.loop-content-test.true
    c.content-item.is
    ∙ ap (λ b. b && rest) c.if-not-content.true)

pub loop-content-preserved : goal.loop-content-preserved
loop-content-preserved c =
    let rest = are_markdown (results_view (drop (c.loop-content.content-index + 1) c.args.contents.now)) in
    sym (markdown_at c.args.contents.now c.loop-content.content-index c.content-item.result c.loop-content-test.true
    c.content-item.is
    ∙ ap (λ b. b && rest) c.if-not-content.false)
    ∙ c.loop-content.invariant

pub returns : goal.returns
returns c =
    sym (sym c.loop-content.invariant
    ∙ markdown_end c.args.contents.now c.loop-content.content-index c.loop-content-test.false)
