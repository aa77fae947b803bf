-- What is embedded, between its sides.
use Rattle.std.proofs.Common.{◌∙◌, ◌∷◌, [], sym, ap, map, string_bytes}
use Rattle.htmd_flow.specs.Flows.{embed_edge}
use Rattle.htmd_flow.specs.FlowViews.{context_in, embedded_run}
use Rattle.htmd_flow.specs.Paragraphs.{fed, fed_all}
use Rattle.htmd_flow.specs.ParagraphViews.{writing_in}
use Rattle.htmd_flow.specs.Parts.{place}
use Rattle.htmd_flow.proofs.FeedLemmas.{on_ok, fed-append}
use Rattle.htmd_flow.proofs.leaves.push_embedded.Goals as goal

pub returns-clause-out : goal.returns-clause-out
returns-clause-out c =
    let w = writing_in c.args.out.now in
    let found = c.args.found.now in
    let context = context_in c.args.place.now c.args.around.now.items in
    let side = embed_edge context in
    let linked = embedded_run found context in
    let anchors = map place (map string_bytes found.anchors.items) in
    on_ok c.push_side-2.result c.push_side-2.ensures (λ e. e
    ∙ ap (λ a. fed (writing_in c.push_linked.new.out) (embed_edge (context_in c.args.place.now a)))
    (c.deref-2.ensures.value ∙ c.in_ok-push_linked.ensures.around)
    ∙ ap (λ x. fed x side) c.in_ok-push_linked.ensures.out
    ∙ ap (λ x. fed (fed x linked) side)
    (c.in_ok-push_anchors.ensures
    ∙ ap (λ ids. fed_all (writing_in c.push_side.new.out) (map place (map string_bytes ids)))
    c.as_slice.ensures.value)
    ∙ ap (λ x. fed (fed (fed_all x anchors) linked) side)
    (c.in_ok-push_side.ensures
    ∙ ap (λ a. fed w (embed_edge (context_in c.args.place.now a))) c.deref.ensures.value)
    ∙ sym (fed-append w (side ∷ anchors) (linked ∷ side ∷ [])))
