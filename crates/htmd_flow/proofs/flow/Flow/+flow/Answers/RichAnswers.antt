-- What elements of rich documents give, tables aside.
use Rattle.std.proofs.Common.{◌+◌, ◌-◌, [], true, false, length, drop, take, map, refl, sym, ap}
use Rattle.std.proofs.Common.{◌∙◌, ◌&&◌, arith, fold}
use Rattle.std.specs.List.{list_any}
use Rattle.std.proofs.lemmas.List.{drop_all, length-drop, length-take-le}
use Rattle.htmd_document.specs.declared.document.BlockElement.TheVariants as name
use Rattle.htmd_document.specs.DocumentViews.{attribute_of, blocks_of}
use Rattle.htmd_lexical.specs.Attributes.{pairs_of}
use Rattle.htmd_shown.specs.Showings.{show_usual_sign}
use Rattle.htmd_shown.specs.SimpleViews.{simple_of, simples_of}
use Rattle.htmd_flow.specs.Contexts.{apart, has_elements, leads_to_part}
use Rattle.htmd_flow.specs.Flows as spec
use Rattle.htmd_flow.specs.FlowViews.{context_in, node_at, nodes_at}
use Rattle.htmd_flow.specs.ParagraphViews.{writing_in}
use Rattle.htmd_flow.specs.Paragraphs.{fed_all, begun, blocks_in}
use Rattle.htmd_flow.specs.PartViews.{around_of}
use Rattle.htmd_flow.specs.TitleViews.{is_no_title}
use Rattle.std.specs.List.{prefix_len}
use Rattle.htmd_flow.proofs.FeedLemmas.{on_ok, if_ok, fed_apart, fed_step, fed_list}
use Rattle.htmd_flow.proofs.LevelsLemmas.{highest_at, highest_slice}
use Rattle.htmd_flow.proofs.LoopsLemmas.{slice_rest}
use Rattle.htmd_flow.proofs.TitlesLemmas.{title_step, run_step, run_some, any_at, within_title, within_other, title_unlinked}
use Rattle.htmd_flow.proofs.TitlesLemmas.{title_linked, details_content, details_element, figure_content}
use Rattle.htmd_flow.proofs.TitlesLemmas.{figure_captioned, no_caption_shown, caption_shown}
use Rattle.htmd_flow.proofs.flow.Flow.+flow.Goals as goal

-- ---- titles

pub title_content-returns-then-is_title_unlinked-clause-out :
    goal.title_content-returns-then-is_title_unlinked-clause-out
title_content-returns-then-is_title_unlinked-clause-out t c =
    let ns = nodes_at c.args.nodes.now in
    let context = context_in c.args.place.now c.args.around.now.items in
    on_ok c.unlinked.result c.unlinked.ensures.out (λ e. e
    ∙ ap (λ x. fed_all (writing_in c.args.out.now) (spec.flow_all ns x))
    (title_unlinked (simples_of c.args.nodes.now) context
    (sym (c.is_title_unlinked.ensures
    ∙ ap (λ xs. has_elements context && list_any leads_to_part (map around_of xs)
    && show_usual_sign (simples_of c.args.nodes.now)) c.deref.ensures.value)
    ∙ c.if-is_title_unlinked.true)))

pub title_content-returns-clause-out : goal.title_content-returns-clause-out
title_content-returns-clause-out t c =
    let ns = nodes_at c.args.nodes.now in
    let context = context_in c.args.place.now c.args.around.now.items in
    on_ok c.among.result c.among.ensures.out (λ e. e
    ∙ ap (λ x. fed_all (writing_in c.args.out.now) (spec.flow_all ns x))
    (title_linked (simples_of c.args.nodes.now) context
    (sym (c.is_title_unlinked.ensures
    ∙ ap (λ xs. has_elements context && list_any leads_to_part (map around_of xs)
    && show_usual_sign (simples_of c.args.nodes.now)) c.deref.ensures.value)
    ∙ c.if-is_title_unlinked.false)))

pub title-returns-clause-out : goal.title-returns-clause-out
title-returns-clause-out t c = on_ok c.edge-2.result c.edge-2.ensures (λ e.
    fed_apart (writing_in c.args.out.now) (writing_in c.edge.new.self) (writing_in c.title_content.new.out)
    (writing_in c.edge-2.new.self)
    (spec.flow_all (nodes_at c.args.nodes.now) (spec.around_title (simples_of c.args.nodes.now)
    (context_in c.args.place.now c.args.around.now.items)))
    c.in_ok-edge.ensures c.in_ok-title_content.ensures.out e)

pub within-returns-then-is_title-clause-out : goal.within-returns-then-is_title-clause-out
within-returns-then-is_title-clause-out t c =
    on_ok c.title_content.result c.title_content.ensures.out (λ e. e
    ∙ ap (fed_all (writing_in c.args.out.now))
    (within_title c.args.node.now c.content_of.result.now (context_in c.args.place.now c.args.around.now.items)
    c.content_of.ensures (sym c.is_title.ensures ∙ c.if-is_title.true)))

pub within-returns-clause-out : goal.within-returns-clause-out
within-returns-clause-out t c =
    on_ok c.among.result c.among.ensures.out (λ e. e
    ∙ ap (fed_all (writing_in c.args.out.now))
    (within_other c.args.node.now c.content_of-2.result.now (context_in c.args.place.now c.args.around.now.items)
    c.content_of-2.ensures (sym c.is_title.ensures ∙ c.if-is_title.false)))

pub blocks_within-returns-clause-blocks : goal.blocks_within-returns-clause-blocks
blocks_within-returns-clause-blocks t c =
    let parts = spec.within (node_at c.args.node.now) (context_in c.args.place.now c.args.around.now.items) in
    if_ok c.finish.result _ _ c.finish.ensures (λ blocks e. e
    ∙ ap blocks_in (c.in_ok-within.ensures.out ∙ ap (λ w. fed_all w parts) c.new-content.ensures))

pub title_element-returns-clause-out : goal.title_element-returns-clause-out
title_element-returns-clause-out t c = on_ok c.edge-2.result c.edge-2.ensures (λ e.
    fed_apart (writing_in c.args.out.now) (writing_in c.edge.new.self) (writing_in c.push_element.new.out)
    (writing_in c.edge-2.new.self)
    (spec.element_part c.args.title (map attribute_of c.new.result.items) (blocks_of c.in_ok-content.content.items))
    c.in_ok-edge.ensures c.in_ok-push_element.ensures e
    ∙ ap (λ bs. fed_all (writing_in c.args.out.now) (apart (spec.element_part c.args.title
    (map attribute_of c.new.result.items) bs))) c.in_ok-content.ensures.blocks
    ∙ ap (λ xs. fed_all (writing_in c.args.out.now) (apart (spec.element_part c.args.title (map attribute_of xs)
    (spec.blocks_within (node_at c.args.node.now) (context_in c.args.place.now c.args.around.now.items)))))
    c.new.ensures.items)

pub titled-loop-at-preserved-then-is_title_of : goal.titled-loop-at-preserved-then-is_title_of
titled-loop-at-preserved-then-is_title_of t c =
    let ts = c.args.nodes.now in
    let context = context_in c.args.place.now c.args.around.now.items in
    let k = c.loop-at.at in
    let n = c.index-nodes-at.result in
    record {
      out = fed_step (writing_in c.loop-at.out) (writing_in c.title_element.new.out)
          (spec.titled c.args.title (nodes_at (drop k ts)) context)
          (spec.title_element c.args.title (node_at n) context)
          (spec.titled c.args.title (nodes_at (drop (k + 1) ts)) context)
          (c.in_ok-title_element.ensures.out
          ∙ ap (λ a. fed_all (writing_in c.loop-at.out) (spec.title_element c.args.title (node_at n)
          (context_in c.args.place.now a))) c.loop-at.invariant.around)
          (title_step c.args.title ts k n context (omega arith) c.index-nodes-at.is
          (sym c.is_title_of.ensures ∙ c.if-is_title_of.true))
          ∙ c.loop-at.invariant.out;
      around = c.in_ok-title_element.ensures.around ∙ c.loop-at.invariant.around;
      bound = omega arith;
    }

pub titled-loop-at-preserved : goal.titled-loop-at-preserved
titled-loop-at-preserved t c =
    let ts = c.args.nodes.now in
    let context = context_in c.args.place.now c.args.around.now.items in
    let k = c.loop-at.at in
    let len = c.before_title_len-len.result in
    let value = c.before_title_len-len.ensures.value
    ∙ ap (λ xs. prefix_len (is_no_title c.args.title) (map simple_of xs)) (slice_rest ts k) in
    record {
      out = fed_step (writing_in c.loop-at.out) (writing_in c.among.new.out)
          (spec.titled c.args.title (nodes_at (drop k ts)) context)
          (spec.flow_all (nodes_at (take ((k + len) - k) (drop k ts))) context)
          (spec.titled c.args.title (nodes_at (drop (k + len) ts)) context)
          (c.in_ok-among.ensures.out
          ∙ ap (λ a. fed_all (writing_in c.loop-at.out) (spec.flow_all (nodes_at (take ((k + len) - k) (drop k ts)))
          (context_in c.args.place.now a))) c.loop-at.invariant.around)
          (run_step c.args.title ts k len ((k + len) - k) context value (omega arith))
          ∙ c.loop-at.invariant.out;
      around = c.in_ok-among.ensures.around ∙ c.loop-at.invariant.around;
      bound = let size = length-drop k ts in let cut = length-take-le (length ts - k) (drop k ts)
          (omega (arith, size)) in
          omega (arith, size, cut, c.before_title_len-len.ensures.bound);
    }

pub titled-loop-at-smaller : goal.titled-loop-at-smaller
titled-loop-at-smaller t c =
    let ts = c.args.nodes.now in
    let k = c.loop-at.at in
    let value = c.before_title_len-len.ensures.value
    ∙ ap (λ xs. prefix_len (is_no_title c.args.title) (map simple_of xs)) (slice_rest ts k) in
    let some = run_some c.args.title ts k c.index-nodes-at.result c.before_title_len-len.result (omega arith)
    c.index-nodes-at.is (sym c.is_title_of.ensures ∙ c.if-is_title_of.false) value in
    omega (arith, some)

pub titled-among-requires : goal.titled-among-requires
titled-among-requires t c =
    let k = c.loop-at.at in
    let h = highest_slice c.args.nodes.now ((k + c.before_title_len-len.result) - k) k in
    omega (arith, h, c.decreases)

pub titled-title_element-requires : goal.titled-title_element-requires
titled-title_element-requires t c =
    let h = highest_at c.args.nodes.now c.loop-at.at c.index-nodes-at.result (omega arith) c.index-nodes-at.is in
    omega (arith, h, c.decreases)

pub titled-returns-clause-out : goal.titled-returns-clause-out
titled-returns-clause-out t c =
    sym (ap (λ xs. fed_all (writing_in c.loop-at.out)
    (spec.titled c.args.title (nodes_at xs) (context_in c.args.place.now c.args.around.now.items)))
    (drop_all c.loop-at.at c.args.nodes.now (omega arith)))
    ∙ c.loop-at.invariant.out

pub titled_blocks-returns-clause-blocks : goal.titled_blocks-returns-clause-blocks
titled_blocks-returns-clause-blocks t c =
    let parts = spec.titled c.args.title (nodes_at c.args.nodes.now)
    (context_in c.args.place.now c.args.around.now.items) in
    if_ok c.finish.result _ _ c.finish.ensures (λ blocks e. e
    ∙ ap blocks_in (c.in_ok-titled.ensures.out ∙ ap (λ w. fed_all w parts) c.new-content.ensures))

-- ---- details and figures

pub details-returns-then-not-has_elements-clause-out : goal.details-returns-then-not-has_elements-clause-out
details-returns-then-not-has_elements-clause-out t c = on_ok c.apart.result c.apart.ensures.out (λ e. e
    ∙ ap (fed_all (writing_in c.args.out.now)) (details_content (nodes_at c.args.element.now.content.now)
    (context_in c.args.place.now c.args.around.now.items) (pairs_of c.args.element.now.attrs.now)
    (sym c.has_elements.ensures ∙ c.if-not-has_elements.true)))

pub details-returns-clause-out : goal.details-returns-clause-out
details-returns-clause-out t c =
    let ns = nodes_at c.args.element.now.content.now in
    let context = context_in c.args.place.now c.args.around.now.items in
    let attributes = pairs_of c.args.element.now.attrs.now in
    on_ok c.edge-2.result c.edge-2.ensures (λ e.
    fed_apart (writing_in c.args.out.now) (writing_in c.edge.new.self) (writing_in c.push_element.new.out)
    (writing_in c.edge-2.new.self)
    (spec.element_part name.Details (map attribute_of c.in_ok-attributes.attributes.items)
    (blocks_of c.in_ok-content.content.items))
    c.in_ok-edge.ensures c.in_ok-push_element.ensures e
    ∙ ap (λ xs. fed_all (writing_in c.args.out.now) (apart (spec.element_part name.Details xs
    (blocks_of c.in_ok-content.content.items)))) c.in_ok-attributes.ensures
    ∙ ap (λ bs. fed_all (writing_in c.args.out.now) (apart (spec.element_part name.Details
    (spec.open_attribute attributes) bs))) c.in_ok-content.ensures.blocks
    ∙ ap (fed_all (writing_in c.args.out.now)) (details_element ns context attributes
    (sym c.has_elements.ensures ∙ c.if-not-has_elements.false)))

pub figure-returns-then-not-has_elements-clause-out : goal.figure-returns-then-not-has_elements-clause-out
figure-returns-then-not-has_elements-clause-out t c =
    let ns = nodes_at c.args.element.now.content.now in
    let around = c.args.around.now.items in
    on_ok c.apart.result c.apart.ensures.out (λ e. e
    ∙ ap (fed_all (writing_in c.args.out.now)) (figure_content ns (context_in c.beside_code-inner.result around)
    (sym c.has_elements.ensures ∙ c.if-not-has_elements.true))
    ∙ ap (λ x. fed_all (writing_in c.args.out.now) (spec.figure_parts ns x)) (c.beside_code-inner.ensures around))

pub figure-returns-clause-out : goal.figure-returns-clause-out
figure-returns-clause-out t c =
    let ns = nodes_at c.args.element.now.content.now in
    let around = c.args.around.now.items in
    on_ok c.edge-2.result c.edge-2.ensures (λ e.
    fed_apart (writing_in c.args.out.now) (writing_in c.edge.new.self) (writing_in c.captioned.new.out)
    (writing_in c.edge-2.new.self) (spec.captioned ns (context_in c.beside_code-inner.result around))
    c.in_ok-edge.ensures c.in_ok-captioned.ensures.out e
    ∙ ap (fed_all (writing_in c.args.out.now)) (figure_captioned ns (context_in c.beside_code-inner.result around)
    (sym c.has_elements.ensures ∙ c.if-not-has_elements.false))
    ∙ ap (λ x. fed_all (writing_in c.args.out.now) (spec.figure_parts ns x)) (c.beside_code-inner.ensures around))

pub captioned-returns-then-not-show_title-clause-out : goal.captioned-returns-then-not-show_title-clause-out
captioned-returns-then-not-show_title-clause-out t c = on_ok c.titled.result c.titled.ensures.out (λ e. e
    ∙ ap (fed_all (writing_in c.args.out.now)) (no_caption_shown (nodes_at c.args.nodes.now)
    (context_in c.args.place.now c.args.around.now.items)
    (sym (any_at (spec.shows_title name.FigureCaption) c.args.nodes.now) ∙ sym c.show_title.ensures
    ∙ c.if-not-show_title.true)))

pub captioned-returns-clause-out : goal.captioned-returns-clause-out
captioned-returns-clause-out t c =
    let ns = nodes_at c.args.nodes.now in
    let context = context_in c.args.place.now c.args.around.now.items in
    on_ok c.push_element.result c.push_element.ensures (λ e. e
    ∙ ap (λ w. fed_all w (spec.element_part name.Figure (map attribute_of c.new.result.items)
    (blocks_of c.in_ok-content.content.items))) refl
    ∙ ap (λ bs. fed_all (writing_in c.args.out.now) (spec.element_part name.Figure
    (map attribute_of c.new.result.items) bs)) c.in_ok-content.ensures.blocks
    ∙ ap (λ xs. fed_all (writing_in c.args.out.now) (spec.element_part name.Figure (map attribute_of xs)
    (spec.blocks_of false (spec.titled name.FigureCaption ns context)))) c.new.ensures.items
    ∙ ap (fed_all (writing_in c.args.out.now)) (caption_shown ns context
    (sym (any_at (spec.shows_title name.FigureCaption) c.args.nodes.now) ∙ sym c.show_title.ensures
    ∙ c.if-not-show_title.false)))

-- ---- terms and what they mean

pub described-returns-clause-out : goal.described-returns-clause-out
described-returns-clause-out t c =
    let context = context_in c.args.place.now c.args.around.now.items in
    let all = fold (spec.with_description context) spec.no_descriptions (spec.terms_of (simples_of c.args.nodes.now)) in
    let so = c.in_ok-descriptions.ensures.begun (writing_in c.edge.new.self) spec.no_descriptions
    (record { out = refl; begun = c.new-begun.ensures }) in
    on_ok c.edge-3.result c.edge-3.ensures (λ e.
    fed_list (writing_in c.args.out.now) (writing_in c.edge.new.self) (writing_in c.descriptions.new.out)
    (writing_in c.edge-2.new.self) (writing_in c.finish.new.out) (writing_in c.edge-3.new.self)
    all.before (spec.element_of_descriptions all.begun)
    c.in_ok-edge.ensures so.out c.in_ok-edge-2.ensures
    (c.in_ok-finish.ensures
    ∙ ap (λ ds. fed_all (writing_in c.edge-2.new.self) (spec.element_of_descriptions ds)) so.begun)
    e)
