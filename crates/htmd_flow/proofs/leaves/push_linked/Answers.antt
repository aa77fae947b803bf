-- The link to what is embedded, or its text in a link.
use Rattle.std.proofs.Common.{◌≡◌, ◌∙◌, sym, ap, map, string_bytes, None, true, false, arith}
use Rattle.std.specs.List.{list_any}
use Rattle.htmd_flow.specs.Contexts.{Context, is_link, run_in, with_around}
use Rattle.htmd_flow.specs.FlowViews.{context_in}
use Rattle.htmd_flow.specs.ParagraphViews.{writing_in}
use Rattle.htmd_flow.specs.Paragraphs.{fed}
use Rattle.htmd_flow.specs.Parts.{linked}
use Rattle.htmd_flow.specs.PartViews.{around_of}
use Rattle.htmd_flow.proofs.AroundLemmas.{around_pushed}
use Rattle.htmd_flow.proofs.FeedLemmas.{on_ok}
use Rattle.htmd_flow.proofs.LeavesLemmas.{link_held, link_new}
use Rattle.htmd_flow.proofs.RowsLemmas.{put_and_taken}
use Rattle.htmd_flow.proofs.leaves.push_linked.Goals as goal

pub returns-then-holds_link-clause-out : goal.returns-then-holds_link-clause-out
returns-then-holds_link-clause-out c =
    let w = writing_in c.args.out.now in
    let found = c.args.found.now in
    let title = string_bytes found.title in
    let context = context_in c.args.place.now c.args.around.now.items in
    let held : list_any is_link context.around ≡ true =
    sym (c.holds_link.ensures ∙ ap (λ xs. list_any is_link (map around_of xs)) c.deref.ensures.value)
    ∙ c.if-holds_link.true in
    on_ok c.run.result c.run.ensures (λ e. e
    ∙ ap (λ s. fed w (run_in (context_in c.args.place.now c.deref-then-holds_link.result.now) s))
    c.as_str.ensures.value
    ∙ ap (λ xs. fed w (run_in (context_in c.args.place.now xs) title)) c.deref-then-holds_link.ensures.value
    ∙ ap (λ (x : Context). fed w (run_in x title)) (link_held found.node (string_bytes found.address) None context
    held))

pub returns-clause-out : goal.returns-clause-out
returns-clause-out c =
    let w = writing_in c.args.out.now in
    let found = c.args.found.now in
    let place = c.args.place.now in
    let title = string_bytes found.title in
    let context = context_in place c.args.around.now.items in
    let none : list_any is_link context.around ≡ false =
    sym (c.holds_link.ensures ∙ ap (λ xs. list_any is_link (map around_of xs)) c.deref.ensures.value)
    ∙ c.if-holds_link.false in
    let address = c.in_ok-from_str.ensures.ok ∙ c.as_str-2.ensures.value in
    c.in_ok-run.ensures
    ∙ ap (λ s. fed w (run_in (context_in place c.deref-2.result.now) s)) c.as_str-3.ensures.value
    ∙ ap (λ xs. fed w (run_in (context_in place xs) title)) (c.deref-2.ensures.value ∙ c.in_ok-push.ensures.items)
    ∙ ap (λ (x : Context). fed w (run_in x title)) (around_pushed place c.args.around.now.items _)
    ∙ ap (λ a. fed w (run_in (with_around context (linked found.node a None)) title)) address
    ∙ ap (λ (x : Context). fed w (run_in x title))
    (link_new found.node (string_bytes found.address) None context none)

pub returns-clause-around : goal.returns-clause-around
returns-clause-around c =
    put_and_taken c.args.around.now.items c.push.new.self.items c.pop.new.self.items _ c.pop.result
    c.in_ok-push.ensures.items c.pop.ensures.items
    (λ more. c.pop.ensures.variant.1 (omega (arith, more, c.push.new.self.ok.0)))
