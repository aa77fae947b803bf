-- What the handlers of an element make of it, one arm of their plans after another.
use Rattle.std.proofs.Common.{◌≡◌, rules, ◌∙◌, ℕ, sym, ap, arith}
use Rattle.htmd_walk.specs.Handling.{nothing, this_result, raw_html, content_of_children, content_of_descendant}
use Rattle.htmd_walk.specs.Handling.{content_of_fallback, contents_of_each, final_result, children_too}
use Rattle.htmd_walk.specs.Choice.{handler_at}
use Rattle.htmd_walk.specs.Outputs.{conversion_of, is_markdown_alone}
use Rattle.htmd_walk.specs.Elements.{Occurrence, Answer, answer_after, answer_of, content_of, contents_alone}
use Rattle.htmd_walk.specs.Elements.{raw_answer, finish_answer, with_finish, after_fallback, without_handler}
use Rattle.htmd_walk.specs.Elements.{each_answer}
use Rattle.htmd_walk.specs.Views.{answer_view, result_view, optional_result, contents_view, plan_view, element_view}
use Rattle.htmd_walk.specs.Walking.{AtElement, occurrence_of, request_view, outcome_view}
use Rattle.htmd_walk.proofs.ElementsLemmas.{answer-pure, answer-faithful, answer-none, answer-some, each-outcome}
use Rattle.htmd_walk.proofs.WalkingLemmas.{at-ok, now-ok, asked_lower}
use Rattle.htmd_walk.proofs.dom_walker.Walk.+walk.Goals as goal

pub without_handler-returns-then-is_markdown_alone : goal.without_handler-returns-then-is_markdown_alone
without_handler-returns-then-is_markdown_alone g t c =
    let v = conversion_of (g.R.Registry.config c.args.self.now.registry.now) c.args.self.now.tree.now in
    let at : ℕ → Occurrence = λ n. occurrence_of n v c.args.element.now in
    λ n l. ap answer_of (c.in_ok-content.ensures n l)
    ∙ answer-pure (at n) c.args.links.now (ap is_markdown_alone (sym c.options.ensures.value)
    ∙ sym c.is_markdown_alone.ensures ∙ c.if-is_markdown_alone.true)

pub without_handler-returns : goal.without_handler-returns
without_handler-returns g t c =
    let v = conversion_of (g.R.Registry.config c.args.self.now.registry.now) c.args.self.now.tree.now in
    let e = c.args.element.now in
    let at : ℕ → Occurrence = λ n. occurrence_of n v e in
    at-ok (λ r. answer_view r c.raw_html.new.links) v e (λ o. raw_answer o c.args.links.now)
    (λ o. without_handler o c.args.links.now) c.raw_html.result
    (λ n l. answer-faithful (at n) c.args.links.now (ap is_markdown_alone (sym c.options.ensures.value)
    ∙ sym c.is_markdown_alone.ensures ∙ c.if-is_markdown_alone.false))
    c.raw_html.ensures

pub handle-returns-in_default : goal.handle-returns-in_default
handle-returns-in_default g t c =
    let v = conversion_of (g.R.Registry.config c.args.self.now.registry.now) c.args.self.now.tree.now in
    let e = c.args.element.now in
    let at : ℕ → Occurrence = λ n. occurrence_of n v e in
    at-ok (λ r. answer_view r c.without_handler.new.links) v e (λ o. without_handler o c.args.links.now)
    (λ o. answer_after c.args.skipped c.args.element.now.tag.now o c.args.links.now) c.without_handler.result
    (λ n l. sym (answer-none c.args.element.now.tag.now (at n) c.args.skipped c.args.links.now
    c.in_default.ensures.value)) c.without_handler.ensures

pub handle-walk_descendant-requires : goal.handle-walk_descendant-requires
handle-walk_descendant-requires g t c κs within =
    let low = asked_lower c.args.self.now.tree.now c.args.element.now.tree.now c.args.element.now.node
    c.in-Descendant.below (request_view c.in_ok-plan.field-0) c.args.self.now.is_tree c.requires.here.tree
    c.args.element.now.within c.in_ok-plan.ensures.proper (ap request_view c.in-OfPlan.is
    ∙ ap plan_view c.in-Descendant.is) in
    (search rules, (within, (search rules, (low.0, low.1))))

pub handle-returns-in-Skip : goal.handle-returns-in-Skip
handle-returns-in-Skip g t c =
    let v = conversion_of (g.R.Registry.config c.args.self.now.registry.now) c.args.self.now.tree.now in
    let e = c.args.element.now in
    let at : ℕ → Occurrence = λ n. occurrence_of n v e in
    λ n l. sym (answer-some c.args.element.now.tag.now (at n) c.args.skipped c.args.links.now c.in-Some.index nothing
    c.in-Some.ensures.value (sym (ap request_view c.in-OfPlan.is ∙ ap plan_view c.in-Skip.is)
    ∙ c.in_ok-plan.ensures.plan))

pub handle-returns-in-Text : goal.handle-returns-in-Text
handle-returns-in-Text g t c =
    let v = conversion_of (g.R.Registry.config c.args.self.now.registry.now) c.args.self.now.tree.now in
    let e = c.args.element.now in
    let at : ℕ → Occurrence = λ n. occurrence_of n v e in
    λ n l. sym (answer-some c.args.element.now.tag.now (at n) c.args.skipped c.args.links.now c.in-Some.index
    (this_result (result_view c.in-Text.result)) c.in-Some.ensures.value
    (sym (ap request_view c.in-OfPlan.is ∙ ap plan_view c.in-Text.is) ∙ c.in_ok-plan.ensures.plan))

pub handle-returns-in-RawHtml : goal.handle-returns-in-RawHtml
handle-returns-in-RawHtml g t c =
    let v = conversion_of (g.R.Registry.config c.args.self.now.registry.now) c.args.self.now.tree.now in
    let e = c.args.element.now in
    let at : ℕ → Occurrence = λ n. occurrence_of n v e in
    at-ok (λ r. answer_view r c.raw_html.new.links) v e (λ o. raw_answer o c.args.links.now)
    (λ o. answer_after c.args.skipped c.args.element.now.tag.now o c.args.links.now) c.raw_html.result
    (λ n l. sym (answer-some c.args.element.now.tag.now (at n) c.args.skipped c.args.links.now c.in-Some.index raw_html
    c.in-Some.ensures.value (sym (ap request_view c.in-OfPlan.is ∙ ap plan_view c.in-RawHtml.is)
    ∙ c.in_ok-plan.ensures.plan))) c.raw_html.ensures

pub handle-returns-in_ok-content-in-Children : goal.handle-returns-in_ok-content-in-Children
handle-returns-in_ok-content-in-Children g t c =
    let v = conversion_of (g.R.Registry.config c.args.self.now.registry.now) c.args.self.now.tree.now in
    let e = c.args.element.now in
    let at : ℕ → Occurrence = λ n. occurrence_of n v e in
    now-ok (λ r. answer_view r c.finish.new.links) v e
    (finish_answer ((handler_at v.config.handlers c.in-Some.index).finish (element_view e)
    (result_view c.in_ok-content-in-Children.content) c.content.new.links) c.content.new.links)
    (λ o. answer_after c.args.skipped c.args.element.now.tag.now o c.args.links.now) c.finish.result
    (λ n l. ap (with_finish (handler_at v.config.handlers c.in-Some.index) (element_view e))
    (c.in_ok-content-in-Children.ensures n l)
    ∙ sym (answer-some c.args.element.now.tag.now (at n) c.args.skipped c.args.links.now c.in-Some.index
    content_of_children c.in-Some.ensures.value
    (sym (ap request_view c.in-OfPlan.is ∙ ap plan_view c.in-Children.is) ∙ c.in_ok-plan.ensures.plan)))
    c.finish.ensures

pub handle-returns-in_ok-content-in-Descendant : goal.handle-returns-in_ok-content-in-Descendant
handle-returns-in_ok-content-in-Descendant g t c =
    let v = conversion_of (g.R.Registry.config c.args.self.now.registry.now) c.args.self.now.tree.now in
    let e = c.args.element.now in
    let at : ℕ → Occurrence = λ n. occurrence_of n v e in
    let low = asked_lower c.args.self.now.tree.now c.args.element.now.tree.now c.args.element.now.node
    c.in-Descendant.below (request_view c.in_ok-plan.field-0) c.args.self.now.is_tree c.requires.here.tree
    c.args.element.now.within c.in_ok-plan.ensures.proper (ap request_view c.in-OfPlan.is
    ∙ ap plan_view c.in-Descendant.is) in
    now-ok (λ r. answer_view r c.finish-in-Descendant.new.links) v e
    (finish_answer ((handler_at v.config.handlers c.in-Some.index).finish (element_view e)
    (result_view c.in_ok-content-in-Descendant.content) c.walk_descendant.new.links) c.walk_descendant.new.links)
    (λ o. answer_after c.args.skipped c.args.element.now.tag.now o c.args.links.now) c.finish-in-Descendant.result
    (λ n l. ap (with_finish (handler_at v.config.handlers c.in-Some.index) (element_view e))
    (c.in_ok-content-in-Descendant.ensures n (omega (arith, low.2, l)))
    ∙ sym (answer-some c.args.element.now.tag.now (at n) c.args.skipped c.args.links.now c.in-Some.index
    (content_of_descendant c.in-Descendant.below) c.in-Some.ensures.value
    (sym (ap request_view c.in-OfPlan.is ∙ ap plan_view c.in-Descendant.is) ∙ c.in_ok-plan.ensures.plan)))
    c.finish-in-Descendant.ensures

pub handle-returns-in-None : goal.handle-returns-in-None
handle-returns-in-None g t c =
    let v = conversion_of (g.R.Registry.config c.args.self.now.registry.now) c.args.self.now.tree.now in
    let e = c.args.element.now in
    let at : ℕ → Occurrence = λ n. occurrence_of n v e in
    λ n l. ap (λ (a : Answer). after_fallback (handler_at v.config.handlers c.in-Some.index) (element_view e) a.result
    a.definitions) (ap (λ x. answer_view x c.handle.new.links) (sym c.in-None.is)
    ∙ c.in_ok-handle-in-Fallback.ensures n l)
    ∙ sym (answer-some c.args.element.now.tag.now (at n) c.args.skipped c.args.links.now c.in-Some.index
    content_of_fallback c.in-Some.ensures.value
    (sym (ap request_view c.in-OfPlan.is ∙ ap plan_view c.in-Fallback.is) ∙ c.in_ok-plan.ensures.plan))

pub handle-returns-in-Some-2 : goal.handle-returns-in-Some-2
handle-returns-in-Some-2 g t c =
    let v = conversion_of (g.R.Registry.config c.args.self.now.registry.now) c.args.self.now.tree.now in
    let e = c.args.element.now in
    let at : ℕ → Occurrence = λ n. occurrence_of n v e in
    now-ok (λ r. answer_view r c.finish-in-Some-2.new.links) v e
    (finish_answer ((handler_at v.config.handlers c.in-Some.index).finish (element_view e)
    (result_view c.in-Some-2.content) c.handle.new.links) c.handle.new.links)
    (λ o. answer_after c.args.skipped c.args.element.now.tag.now o c.args.links.now) c.finish-in-Some-2.result
    (λ n l. ap (λ (a : Answer). after_fallback (handler_at v.config.handlers c.in-Some.index) (element_view e)
    a.result
    a.definitions) (ap (λ x. answer_view x c.handle.new.links) (sym c.in-Some-2.is)
    ∙ c.in_ok-handle-in-Fallback.ensures n l)
    ∙ sym (answer-some c.args.element.now.tag.now (at n) c.args.skipped c.args.links.now c.in-Some.index
    content_of_fallback c.in-Some.ensures.value
    (sym (ap request_view c.in-OfPlan.is ∙ ap plan_view c.in-Fallback.is) ∙ c.in_ok-plan.ensures.plan)))
    c.finish-in-Some-2.ensures

pub handle-returns-in-Each : goal.handle-returns-in-Each
handle-returns-in-Each g t c =
    let v = conversion_of (g.R.Registry.config c.args.self.now.registry.now) c.args.self.now.tree.now in
    let e = c.args.element.now in
    let at : ℕ → Occurrence = λ n. occurrence_of n v e in
    let nodes = c.in-Each.descendants.nodes.items in
    let handler = handler_at v.config.handlers c.in-Some.index in
    at-ok (λ r. answer_view r c.handle_each.new.links) v e
    (λ o. each_answer handler o (contents_alone o nodes c.args.links.now))
    (λ o. answer_after c.args.skipped c.args.element.now.tag.now o c.args.links.now) c.handle_each.result
    (λ n l. sym (answer-some c.args.element.now.tag.now (at n) c.args.skipped c.args.links.now c.in-Some.index
    (contents_of_each nodes) c.in-Some.ensures.value
    (sym (ap request_view c.in-Each.is) ∙ c.in_ok-plan.ensures.plan)))
    c.handle_each.ensures

pub handle_each-returns-in-Final : goal.handle_each-returns-in-Final
handle_each-returns-in-Final g t c =
    let v = conversion_of (g.R.Registry.config c.args.self.now.registry.now) c.args.self.now.tree.now in
    let at : ℕ → Occurrence = λ n. occurrence_of n v c.args.element.now in
    let contents = contents_view c.in_ok-contents.contents.items c.walk_each.new.links in
    let asked : AtElement v c.args.element.now (λ o. contents
    ≡ contents_alone o c.args.descendants.now.nodes.items c.args.links.now) =
    λ n l. c.in_ok-contents.ensures.ok n l
    ∙ ap (λ xs. contents_alone (at n) xs c.args.links.now) c.deref.ensures.value in
    λ n l. each-outcome (handler_at v.config.handlers c.args.index) (at n) contents c.args.descendants.now.nodes.items
    c.args.links.now (final_result (optional_result c.in-Final.result)) (asked n l)
    (sym (ap outcome_view c.in-Final.is) ∙ c.in_ok-result.ensures)

pub handle_each-returns : goal.handle_each-returns
handle_each-returns g t c =
    let v = conversion_of (g.R.Registry.config c.args.self.now.registry.now) c.args.self.now.tree.now in
    let e = c.args.element.now in
    let at : ℕ → Occurrence = λ n. occurrence_of n v e in
    let handler = handler_at v.config.handlers c.args.index in
    let links = c.walk_each.new.links in
    let nodes = c.args.descendants.now.nodes.items in
    let contents = contents_view c.in_ok-contents.contents.items links in
    let asks : AtElement v e (λ o. with_finish handler o.view (content_of o links)
    ≡ each_answer handler o (contents_alone o nodes c.args.links.now)) =
    λ n l. each-outcome handler (at n) contents nodes c.args.links.now children_too
    (c.in_ok-contents.ensures.ok n l ∙ ap (λ xs. contents_alone (at n) xs c.args.links.now) c.deref.ensures.value)
    (sym (ap outcome_view c.in-ChildrenToo.is) ∙ c.in_ok-result.ensures) in
    now-ok (λ r. answer_view r c.finish.new.links) v e
    (finish_answer (handler.finish (element_view e) (result_view c.in_ok-content-in-ChildrenToo.content)
    c.content.new.links) c.content.new.links)
    (λ o. each_answer handler o (contents_alone o nodes c.args.links.now)) c.finish.result
    (λ n l. ap (with_finish handler (element_view e)) (c.in_ok-content-in-ChildrenToo.ensures n l) ∙ asks n l)
    c.finish.ensures
