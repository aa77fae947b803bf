-- What nodes and blocks give.
use Rattle.std.proofs.Common.{◌≡◌, ◌+◌, ◌-◌, ◌≤◌, ◌∷◌, true, false, length, drop, take, map, sym, subst, ap}
use Rattle.std.proofs.Common.{◌∙◌, ◌&&◌, arith, rules, cond}
use Rattle.std.specs.Prelude.{Some, None, pos, string_bytes}
use Rattle.std.specs.Option.{option_copied, unwrap_or}
use Rattle.std.proofs.lemmas.Int.{to_z-of_z}
use mir.Syntax.{w64}
use mir.Val.{SFits}
use Rattle.htmd_document.specs.DocumentViews.{inlines_of, blocks_of}
use Rattle.htmd_document.specs.Formats.{of_format, of_element}
use Rattle.htmd_lexical.specs.Attributes.{pairs_of}
use Rattle.htmd_shown.specs.Attributes.{title_of}
use Rattle.htmd_shown.specs.ShownTexts.{shown_text}
use Rattle.htmd_shown.specs.SimpleViews.{simple_of, simples_of}
use Rattle.htmd_flow.specs.Contexts.{apart, in_one_line, inside_format, inside_title}
use Rattle.htmd_flow.specs.Flows as spec
use Rattle.htmd_flow.specs.FlowViews as views
use Rattle.htmd_flow.specs.FlowViews.{context_in, node_at, nodes_at, with_option}
use Rattle.htmd_flow.specs.ItemViews.{row_len}
use Rattle.htmd_flow.specs.Levels.{highest, list_of}
use Rattle.htmd_flow.specs.ParagraphViews.{writing_in}
use Rattle.htmd_flow.specs.Paragraphs.{fed, fed_all, begun, blocks_in}
use Rattle.htmd_flow.specs.Parts.{run, place, whole}
use Rattle.htmd_flow.specs.PartViews.{around_of}
use Rattle.std.proofs.lemmas.List.{drop_all, length-drop, length-take-le}
use Rattle.htmd_flow.proofs.AroundLemmas.{context_deeper, around_pushed}
use Rattle.htmd_flow.proofs.BlocksLemmas.{block-break}
use Rattle.htmd_flow.proofs.ElementsLemmas.{parts_of_block, other_parts}
use Rattle.htmd_flow.proofs.FeedLemmas.{on_ok, any_ok, if_ok, fed_after, fed_both, fed_apart, fed_step}
use Rattle.htmd_flow.proofs.LevelsLemmas.{highest_at, highest_slice}
use Rattle.htmd_flow.proofs.LoopsLemmas.{at_place, slice_rest}
use Rattle.htmd_flow.proofs.NodesLemmas.{trees_are, element_lower, whole_text}
use Rattle.htmd_flow.proofs.NodesLemmas.{whole_image, whole_formula, whole_embedded, whole_anchor, whole_element}
use Rattle.htmd_flow.proofs.PartsLemmas.{heading_flat, heading_line, heading_unlinked}
use Rattle.htmd_flow.proofs.PartsLemmas.{heading_linked, quote_lined, quote_filled, anchors_flat, anchors_alone}
use Rattle.htmd_flow.proofs.RowsLemmas.{one_step, row_step}
use Rattle.htmd_flow.proofs.RowsLemmas.{put_and_taken}
use Rattle.std.specs.Prelude.{IfSome}
use Rattle.htmd_flow.specs.Contexts.{leads_to_part}
use Rattle.htmd_flow.specs.FlowViews.{with_taken}
use Rattle.htmd_flow.specs.Paragraphs.{line_in}
use Rattle.std.specs.List.{list_any}
use Rattle.htmd_flow.proofs.flow.Flow.+flow.Goals as goal

pub apart-returns : goal.apart-returns
apart-returns t c = record {
  out = on_ok c.edge-2.result c.edge-2.ensures (λ e. fed_apart (writing_in c.args.out.now) (writing_in c.edge.new.self)
      (writing_in c.among.new.out) (writing_in c.edge-2.new.self)
      (spec.flow_all (nodes_at c.args.nodes.now) (context_in c.args.place.now c.args.around.now.items))
      c.in_ok-edge.ensures c.in_ok-among.ensures.out e);
  around = any_ok c.edge-2.result c.in_ok-among.ensures.around;
}

pub each-loop-node-preserved : goal.each-loop-node-preserved
each-loop-node-preserved t c =
    let ns = c.args.nodes.now in
    let context = context_in c.args.place.now c.args.around.now.items in
    let k = c.loop-node.node-index in
    let n = c.node-item.result in
    record {
      out = fed_step (writing_in c.loop-node.out) (writing_in c.whole.new.out)
          (spec.each_whole (nodes_at (drop k ns)) context) ((node_at n).whole context)
          (spec.each_whole (nodes_at (drop (k + 1) ns)) context)
          (c.in_ok-whole.ensures.out
          ∙ ap (λ a. fed_all (writing_in c.loop-node.out) ((node_at n).whole (context_in c.args.place.now a)))
          c.loop-node.invariant.around)
          (ap (λ xs. spec.each_whole (nodes_at xs) context) (at_place ns k n c.loop-node-test.true c.node-item.is))
          ∙ c.loop-node.invariant.out;
      around = c.in_ok-whole.ensures.around ∙ c.loop-node.invariant.around;
    }

pub each-returns : goal.each-returns
each-returns t c = record {
  out = sym (ap (λ xs. fed_all (writing_in c.loop-node.out) (spec.each_whole (nodes_at xs)
      (context_in c.args.place.now c.args.around.now.items)))
      (drop_all c.loop-node.node-index c.args.nodes.now c.loop-node-test.false))
      ∙ c.loop-node.invariant.out;
  around = c.loop-node.invariant.around;
}

pub heading-returns-then-place-clause-out : goal.heading-returns-then-place-clause-out
heading-returns-then-place-clause-out t c = on_ok c.apart.result c.apart.ensures.out (λ e. e
    ∙ ap (fed_all (writing_in c.args.out.now)) (heading_flat (nodes_at c.args.nodes.now)
    (context_in c.args.place.now c.args.around.now.items) c.args.facts c.args.level c.if-place.true))

pub heading-returns-clause-out : goal.heading-returns-clause-out
heading-returns-clause-out t c = on_ok c.edge-2.result c.edge-2.ensures (λ e.
    fed_apart (writing_in c.args.out.now) (writing_in c.edge.new.self) (writing_in c.push_heading.new.out)
    (writing_in c.edge-2.new.self)
    (spec.heading_of c.args.level (inlines_of c.in_ok-content.content.items)) c.in_ok-edge.ensures
    c.in_ok-push_heading.ensures e
    ∙ ap (λ x. fed_all (writing_in c.args.out.now) (apart (spec.heading_of c.args.level x)))
    c.in_ok-content.ensures.content
    ∙ ap (fed_all (writing_in c.args.out.now)) (heading_line (nodes_at c.args.nodes.now)
    (context_in c.args.place.now c.args.around.now.items) c.args.facts c.args.level c.if-place.false))

pub headed_line-returns-then-is_unlinked-clause-content : goal.headed_line-returns-then-is_unlinked-clause-content
headed_line-returns-then-is_unlinked-clause-content t c =
    if_ok c.unlinked_line.result _ _ c.unlinked_line.ensures.content (λ line e. e
    ∙ ap (λ x. spec.line_of (spec.flow_all (nodes_at c.args.nodes.now) (in_one_line x)))
    (heading_unlinked (nodes_at c.args.nodes.now) (context_in c.args.place.now c.args.around.now.items) c.args.facts
    (sym (c.is_unlinked.ensures
    ∙ ap (λ xs. c.args.facts.shows_sign && list_any leads_to_part (map around_of xs)) c.deref.ensures.value)
    ∙ c.if-is_unlinked.true)))

pub headed_line-returns-clause-content : goal.headed_line-returns-clause-content
headed_line-returns-clause-content t c =
    if_ok c.line.result _ _ c.line.ensures.content (λ line e. e
    ∙ ap (λ x. spec.line_of (spec.flow_all (nodes_at c.args.nodes.now) (in_one_line x)))
    (heading_linked (nodes_at c.args.nodes.now) (context_in c.args.place.now c.args.around.now.items) c.args.facts
    (sym (c.is_unlinked.ensures
    ∙ ap (λ xs. c.args.facts.shows_sign && list_any leads_to_part (map around_of xs)) c.deref.ensures.value)
    ∙ c.if-is_unlinked.false)))

pub quote-returns-then-is_lined-clause-out : goal.quote-returns-then-is_lined-clause-out
quote-returns-then-is_lined-clause-out t c = on_ok c.apart.result c.apart.ensures.out (λ e. e
    ∙ ap (fed_all (writing_in c.args.out.now)) (quote_lined (nodes_at c.args.nodes.now)
    (context_in c.args.place.now c.args.around.now.items) (sym c.is_lined.ensures ∙ c.if-is_lined.true)))

pub quote-returns-clause-out : goal.quote-returns-clause-out
quote-returns-clause-out t c =
    let around = c.args.around.now.items in
    let ns = nodes_at c.args.nodes.now in
    on_ok c.edge-2.result c.edge-2.ensures (λ e.
    fed_apart (writing_in c.args.out.now) (writing_in c.edge.new.self) (writing_in c.push_quote.new.out)
    (writing_in c.edge-2.new.self)
    (spec.quote_of (blocks_of c.in_ok-finish.field-0.items)) c.in_ok-edge.ensures c.in_ok-push_quote.ensures e
    ∙ ap (λ x. fed_all (writing_in c.args.out.now) (apart (spec.quote_of x)))
    (c.in_ok-finish.ensures ∙ ap blocks_in (c.in_ok-among.ensures.out
    ∙ ap (λ v. fed_all v (spec.flow_all ns (context_in c.deeper.result around))) c.new-content.ensures
    ∙ ap (λ p. fed_all (begun false false) (spec.flow_all ns (context_in p around))) c.deeper.ensures
    ∙ ap (λ x. fed_all (begun false false) (spec.flow_all ns x)) (context_deeper c.args.place.now around)))
    ∙ ap (fed_all (writing_in c.args.out.now)) (quote_filled ns (context_in c.args.place.now around)
    (sym c.is_lined.ensures ∙ c.if-is_lined.false)))

pub anchors-returns-then-place-clause-out : goal.anchors-returns-then-place-clause-out
anchors-returns-then-place-clause-out t c = on_ok c.among.result c.among.ensures.out (λ e. e
    ∙ ap (fed_all (writing_in c.args.out.now)) (anchors_flat (nodes_at c.args.nodes.now)
    (context_in c.args.place.now c.args.around.now.items) c.if-place.true))

pub anchors-returns-clause-out : goal.anchors-returns-clause-out
anchors-returns-clause-out t c = on_ok c.apart.result c.apart.ensures.out (λ e. e
    ∙ ap (fed_all (writing_in c.args.out.now)) (anchors_alone (nodes_at c.args.nodes.now)
    (context_in c.args.place.now c.args.around.now.items) c.if-place.false))

pub whole-returns-in-Text-clause-out : goal.whole-returns-in-Text-clause-out
whole-returns-in-Text-clause-out t c =
    let context = context_in c.args.place.now c.args.around.now.items in
    on_ok c.text.result c.text.ensures (λ e. e
    ∙ ap (λ a. fed (writing_in c.args.out.now) (run (shown_text c.in-Text.text.now) (map around_of a)
    c.args.place.now.is_code)) c.deref.ensures.value
    ∙ ap (fed_all (writing_in c.args.out.now)) (sym (ap (λ n. (node_at n).whole context) c.in-Text.is
    ∙ whole_text c.in-Text.text context)))

pub whole-returns-in-Image-clause-out : goal.whole-returns-in-Image-clause-out
whole-returns-in-Image-clause-out t c =
    let context = context_in c.args.place.now c.args.around.now.items in
    on_ok c.push_image.result c.push_image.ensures (λ e. e
    ∙ ap (λ a. fed_all (writing_in c.args.out.now) (spec.image_parts (option_copied c.in-Image.address)
    (pairs_of c.in-Image.attrs.now) (context_in c.args.place.now a))) c.deref-in-Image.ensures.value
    ∙ ap (fed_all (writing_in c.args.out.now)) (sym (ap (λ n. (node_at n).whole context) c.in-Image.is
    ∙ whole_image c.in-Image.address c.in-Image.attrs context)))

pub whole-returns-in-Formula-clause-out : goal.whole-returns-in-Formula-clause-out
whole-returns-in-Formula-clause-out t c =
    let context = context_in c.args.place.now c.args.around.now.items in
    on_ok c.push_formula.result c.push_formula.ensures (λ e. e
    ∙ ap (λ s. fed_all (writing_in c.args.out.now) (spec.formula_parts s c.in-Formula.is_alone
    (context_in c.args.place.now c.deref-in-Formula.result.now))) c.as_str.ensures.value
    ∙ ap (λ a. fed_all (writing_in c.args.out.now) (spec.formula_parts (string_bytes c.in-Formula.tex)
    c.in-Formula.is_alone (context_in c.args.place.now a))) c.deref-in-Formula.ensures.value
    ∙ ap (fed_all (writing_in c.args.out.now)) (sym (ap (λ n. (node_at n).whole context) c.in-Formula.is
    ∙ whole_formula c.in-Formula.tex c.in-Formula.is_alone c.in-Formula.attrs context)))

pub whole-returns-in-Embedded-clause-out : goal.whole-returns-in-Embedded-clause-out
whole-returns-in-Embedded-clause-out t c =
    let context = context_in c.args.place.now c.args.around.now.items in
    on_ok c.push_embedded.result c.push_embedded.ensures.out (λ e. e
    ∙ ap (λ found. fed_all (writing_in c.args.out.now) (views.embedded_parts found context))
    c.deref-in-Embedded.ensures
    ∙ ap (fed_all (writing_in c.args.out.now)) (sym (ap (λ n. (node_at n).whole context) c.in-Embedded.is
    ∙ whole_embedded c.in-Embedded.found context)))

pub whole-returns-in-Anchor-clause-out : goal.whole-returns-in-Anchor-clause-out
whole-returns-in-Anchor-clause-out t c =
    let context = context_in c.args.place.now c.args.around.now.items in
    on_ok c.anchor.result c.anchor.ensures (λ e. e
    ∙ ap (λ s. fed (writing_in c.args.out.now) (place s)) c.as_str-in-Anchor.ensures.value
    ∙ ap (fed_all (writing_in c.args.out.now)) (sym (ap (λ n. (node_at n).whole context) c.in-Anchor.is
    ∙ whole_anchor c.in-Anchor.id context)))

pub whole-returns-in-Element-clause-out : goal.whole-returns-in-Element-clause-out
whole-returns-in-Element-clause-out t c =
    let context = context_in c.args.place.now c.args.around.now.items in
    on_ok c.element.result c.element.ensures.out (λ e. e
    ∙ ap (fed_all (writing_in c.args.out.now))
    (whole_element c.in-Element.node c.in-Element.role c.in-Element.facts c.in-Element.attrs c.in-Element.content
    context
    c.as_slice.result.now c.as_slice.ensures.value
    ∙ sym (ap (λ n. (node_at n).whole context) c.in-Element.is)))

pub whole-element-requires : goal.whole-element-requires
whole-element-requires t c =
    let low = element_lower c.in-Element.node c.in-Element.role c.in-Element.facts c.in-Element.attrs
    c.in-Element.content c.args.node.now c.in-Element.is in
    let same = ap (λ ts. highest (map simple_of ts)) c.as_slice.ensures.value in
    omega (arith, low, same, c.decreases)

pub element-returns-in-Plain-clause-out : goal.element-returns-in-Plain-clause-out
element-returns-in-Plain-clause-out t c =
    on_ok c.among.result c.among.ensures.out (λ e. e
    ∙ ap (λ r. fed_all (writing_in c.args.out.now) (spec.parts_of r (views.element_in c.args.element.now)
    (context_in c.args.place.now c.args.around.now.items))) (sym c.in-Plain.is))

pub element-returns-in-Target-clause-out : goal.element-returns-in-Target-clause-out
element-returns-in-Target-clause-out t c =
    on_ok c.among-in-Target.result c.among-in-Target.ensures.out (λ e. e
    ∙ ap (λ r. fed_all (writing_in c.args.out.now) (spec.parts_of r (views.element_in c.args.element.now)
    (context_in c.args.place.now c.args.around.now.items))) (sym c.in-Target.is))

pub element-returns-in-Unlinked-clause-out : goal.element-returns-in-Unlinked-clause-out
element-returns-in-Unlinked-clause-out t c =
    on_ok c.unlinked.result c.unlinked.ensures.out (λ e. e
    ∙ ap (λ r. fed_all (writing_in c.args.out.now) (spec.parts_of r (views.element_in c.args.element.now)
    (context_in c.args.place.now c.args.around.now.items))) (sym c.in-Unlinked.is))

pub element-returns-in-Apart-clause-out : goal.element-returns-in-Apart-clause-out
element-returns-in-Apart-clause-out t c =
    on_ok c.between.result c.between.ensures.out (λ e. e
    ∙ ap (λ r. fed_all (writing_in c.args.out.now) (spec.parts_of r (views.element_in c.args.element.now)
    (context_in c.args.place.now c.args.around.now.items))) (sym c.in-Apart.is))

pub element-returns-in-Anchors-clause-out : goal.element-returns-in-Anchors-clause-out
element-returns-in-Anchors-clause-out t c =
    on_ok c.anchors.result c.anchors.ensures.out (λ e. e
    ∙ ap (λ r. fed_all (writing_in c.args.out.now) (spec.parts_of r (views.element_in c.args.element.now)
    (context_in c.args.place.now c.args.around.now.items))) (sym c.in-Anchors.is))

pub element-returns-in-Code-clause-out : goal.element-returns-in-Code-clause-out
element-returns-in-Code-clause-out t c =
    on_ok c.among-in-Code.result c.among-in-Code.ensures.out (λ e. e
    ∙ ap (λ p. fed_all (writing_in c.args.out.now) (spec.flow_all (nodes_at c.args.element.now.content.now)
    (context_in p c.args.around.now.items)))
    c.in_code.ensures
    ∙ ap (λ r. fed_all (writing_in c.args.out.now) (spec.parts_of r (views.element_in c.args.element.now)
    (context_in c.args.place.now c.args.around.now.items))) (sym c.in-Code.is))

pub element-returns-in-Typed-clause-out : goal.element-returns-in-Typed-clause-out
element-returns-in-Typed-clause-out t c =
    on_ok c.among-in-Typed.result c.among-in-Typed.ensures.out (λ e. e
    ∙ ap (λ p. fed_all (writing_in c.args.out.now) (spec.flow_all (nodes_at c.args.element.now.content.now)
    (context_in p c.args.around.now.items)))
    c.in_code-in-Typed.ensures
    ∙ ap (λ r. fed_all (writing_in c.args.out.now) (spec.parts_of r (views.element_in c.args.element.now)
    (context_in c.args.place.now c.args.around.now.items))) (sym c.in-Typed.is))

pub element-returns-in-Format-clause-out : goal.element-returns-in-Format-clause-out
element-returns-in-Format-clause-out t c =
    let context = context_in c.args.place.now c.args.around.now.items in
    on_ok c.inside.result c.inside.ensures.out (λ e. e
    ∙ ap (λ x. fed_all (writing_in c.args.out.now) (spec.flow_all (nodes_at c.args.element.now.content.now) x))
    (subst (λ a. with_option (context_in c.args.place.now a) c.new_format-format.result
    ≡ inside_format (of_format c.in-Format.format) (context_in c.args.place.now a)) c.deref.ensures.value
    (c.new_format-format.ensures c.args.place.now))
    ∙ ap (λ r. fed_all (writing_in c.args.out.now) (spec.parts_of r (views.element_in c.args.element.now) context))
    (sym c.in-Format.is))

pub element-returns-in-Element-clause-out : goal.element-returns-in-Element-clause-out
element-returns-in-Element-clause-out t c =
    let context = context_in c.args.place.now c.args.around.now.items in
    on_ok c.inside-in-Element.result c.inside-in-Element.ensures.out (λ e. e
    ∙ ap (λ x. fed_all (writing_in c.args.out.now) (spec.flow_all (nodes_at c.args.element.now.content.now) x))
    (subst (λ a. with_option (context_in c.args.place.now a) c.new_element-kind.result
    ≡ inside_format (of_element c.in-Element.kind) (context_in c.args.place.now a)) c.deref-in-Element.ensures.value
    (c.new_element-kind.ensures c.args.place.now))
    ∙ ap (λ r. fed_all (writing_in c.args.out.now) (spec.parts_of r (views.element_in c.args.element.now) context))
    (sym c.in-Element.is))

pub element-returns-in_ok-title-in-Abbreviation-clause-out : goal.element-returns-in_ok-title-in-Abbreviation-clause-out
element-returns-in_ok-title-in-Abbreviation-clause-out t c =
    let context = context_in c.args.place.now c.args.around.now.items in
    let attributes = pairs_of c.args.element.now.attrs.now in
    on_ok c.inside-in-Abbreviation.result c.inside-in-Abbreviation.ensures.out (λ e. e
    ∙ ap (λ x. fed_all (writing_in c.args.out.now) (spec.flow_all (nodes_at c.args.element.now.content.now) x))
    (subst (λ a. with_option (context_in c.args.place.now a) c.in_ok-title-in-Abbreviation.title
    ≡ inside_title (title_of attributes) (context_in c.args.place.now a)) c.deref-in-Abbreviation.ensures.value
    (c.in_ok-title-in-Abbreviation.ensures c.args.place.now))
    ∙ ap (λ r. fed_all (writing_in c.args.out.now) (spec.parts_of r (views.element_in c.args.element.now) context))
    (sym c.in-Abbreviation.is))

pub element-returns-in_ok-link-in-Link-clause-out : goal.element-returns-in_ok-link-in-Link-clause-out
element-returns-in_ok-link-in-Link-clause-out t c =
    let context = context_in c.args.place.now c.args.around.now.items in
    let attributes = pairs_of c.args.element.now.attrs.now in
    on_ok c.inside-in-Link.result c.inside-in-Link.ensures.out (λ e. e
    ∙ ap (λ x. fed_all (writing_in c.args.out.now) (spec.flow_all (nodes_at c.args.element.now.content.now) x))
    (subst (λ a. with_option (context_in c.args.place.now a) c.in_ok-link-in-Link.link
    ≡ spec.linked_by c.args.element.now.node attributes (context_in c.args.place.now a)) c.deref-in-Link.ensures.value
    (c.in_ok-link-in-Link.ensures c.args.place.now))
    ∙ ap (λ r. fed_all (writing_in c.args.out.now) (spec.parts_of r (views.element_in c.args.element.now) context))
    (sym c.in-Link.is))

pub element-returns-in-LineBreak-clause-out : goal.element-returns-in-LineBreak-clause-out
element-returns-in-LineBreak-clause-out t c =
    c.line_break.ensures
    ∙ ap (λ r. fed_all (writing_in c.args.out.now) (spec.parts_of r (views.element_in c.args.element.now)
    (context_in c.args.place.now c.args.around.now.items))) (sym c.in-LineBreak.is)

pub element-returns-in_ok-push_box-in-Input-clause-out : goal.element-returns-in_ok-push_box-in-Input-clause-out
element-returns-in_ok-push_box-in-Input-clause-out t c =
    on_ok c.among-in-Input.result c.among-in-Input.ensures.out (λ e.
    fed_both (writing_in c.args.out.now) (writing_in c.push_box.new.out) (writing_in c.among-in-Input.new.out)
    (spec.box_parts (pairs_of c.args.element.now.attrs.now))
    (spec.flow_all (nodes_at c.args.element.now.content.now) (context_in c.args.place.now c.args.around.now.items))
    c.in_ok-push_box-in-Input.ensures e
    ∙ ap (λ r. fed_all (writing_in c.args.out.now) (spec.parts_of r (views.element_in c.args.element.now)
    (context_in c.args.place.now c.args.around.now.items))) (sym c.in-Input.is))

pub element-returns-in_default-clause-out : goal.element-returns-in_default-clause-out
element-returns-in_default-clause-out t c =
    on_ok c.block.result c.block.ensures.out (λ e. e
    ∙ ap (fed_all (writing_in c.args.out.now)) (parts_of_block (views.element_in c.args.element.now)
    (context_in c.args.place.now c.args.around.now.items) c.args.role (record {
      format = c.in_default.not-Format;
      element = c.in_default.not-Element;
      abbreviation = c.in_default.not-Abbreviation;
      code = c.in_default.not-Code;
      typed = c.in_default.not-Typed;
      link = c.in_default.not-Link;
      target = c.in_default.not-Target;
      set_apart = c.in_default.not-Apart;
      line_break = c.in_default.not-LineBreak;
      input = c.in_default.not-Input;
      plain = c.in_default.not-Plain;
      anchors = c.in_default.not-Anchors;
      unlinked = c.in_default.not-Unlinked;
    })))

pub block-returns-in-Heading-clause-out : goal.block-returns-in-Heading-clause-out
block-returns-in-Heading-clause-out t c =
    on_ok c.heading.result c.heading.ensures.out (λ e. e
    ∙ ap (λ r. fed_all (writing_in c.args.out.now) (spec.block_parts r (views.element_in c.args.element.now)
    (context_in c.args.place.now c.args.around.now.items))) (sym c.in-Heading.is))

pub block-returns-in-BlockQuote-clause-out : goal.block-returns-in-BlockQuote-clause-out
block-returns-in-BlockQuote-clause-out t c =
    on_ok c.quote.result c.quote.ensures.out (λ e. e
    ∙ ap (λ r. fed_all (writing_in c.args.out.now) (spec.block_parts r (views.element_in c.args.element.now)
    (context_in c.args.place.now c.args.around.now.items))) (sym c.in-BlockQuote.is))

pub block-returns-in-BulletList-clause-out : goal.block-returns-in-BulletList-clause-out
block-returns-in-BulletList-clause-out t c =
    on_ok c.list.result c.list.ensures.out (λ e. e
    ∙ ap (λ r. fed_all (writing_in c.args.out.now) (spec.block_parts r (views.element_in c.args.element.now)
    (context_in c.args.place.now c.args.around.now.items))) (sym c.in-BulletList.is))

pub block-returns-in-Division-clause-out : goal.block-returns-in-Division-clause-out
block-returns-in-Division-clause-out t c =
    on_ok c.near.result c.near.ensures.out (λ e. e
    ∙ ap (λ r. fed_all (writing_in c.args.out.now) (spec.block_parts r (views.element_in c.args.element.now)
    (context_in c.args.place.now c.args.around.now.items))) (sym c.in-Division.is))

pub block-returns-in-Figure-clause-out : goal.block-returns-in-Figure-clause-out
block-returns-in-Figure-clause-out t c =
    on_ok c.figure.result c.figure.ensures.out (λ e. e
    ∙ ap (λ r. fed_all (writing_in c.args.out.now) (spec.block_parts r (views.element_in c.args.element.now)
    (context_in c.args.place.now c.args.around.now.items))) (sym c.in-Figure.is))

pub block-returns-in-Details-clause-out : goal.block-returns-in-Details-clause-out
block-returns-in-Details-clause-out t c =
    on_ok c.details.result c.details.ensures.out (λ e. e
    ∙ ap (λ r. fed_all (writing_in c.args.out.now) (spec.block_parts r (views.element_in c.args.element.now)
    (context_in c.args.place.now c.args.around.now.items))) (sym c.in-Details.is))

pub block-returns-in-Term-clause-out : goal.block-returns-in-Term-clause-out
block-returns-in-Term-clause-out t c =
    on_ok c.title.result c.title.ensures.out (λ e. e
    ∙ ap (λ r. fed_all (writing_in c.args.out.now) (spec.block_parts r (views.element_in c.args.element.now)
    (context_in c.args.place.now c.args.around.now.items))) (sym c.in-Term.is))

pub block-returns-in-Caption-clause-out : goal.block-returns-in-Caption-clause-out
block-returns-in-Caption-clause-out t c =
    on_ok c.title-in-Caption.result c.title-in-Caption.ensures.out (λ e. e
    ∙ ap (λ r. fed_all (writing_in c.args.out.now) (spec.block_parts r (views.element_in c.args.element.now)
    (context_in c.args.place.now c.args.around.now.items))) (sym c.in-Caption.is))

pub block-returns-in-FigureCaption-clause-out : goal.block-returns-in-FigureCaption-clause-out
block-returns-in-FigureCaption-clause-out t c =
    on_ok c.title-in-FigureCaption.result c.title-in-FigureCaption.ensures.out (λ e. e
    ∙ ap (λ r. fed_all (writing_in c.args.out.now) (spec.block_parts r (views.element_in c.args.element.now)
    (context_in c.args.place.now c.args.around.now.items))) (sym c.in-FigureCaption.is))

pub block-returns-in-Summary-clause-out : goal.block-returns-in-Summary-clause-out
block-returns-in-Summary-clause-out t c =
    on_ok c.title-in-Summary.result c.title-in-Summary.ensures.out (λ e. e
    ∙ ap (λ r. fed_all (writing_in c.args.out.now) (spec.block_parts r (views.element_in c.args.element.now)
    (context_in c.args.place.now c.args.around.now.items))) (sym c.in-Summary.is))

pub block-returns-in-Cell-clause-out : goal.block-returns-in-Cell-clause-out
block-returns-in-Cell-clause-out t c =
    on_ok c.near-in-Cell.result c.near-in-Cell.ensures.out (λ e. e
    ∙ ap (λ r. fed_all (writing_in c.args.out.now) (spec.block_parts r (views.element_in c.args.element.now)
    (context_in c.args.place.now c.args.around.now.items))) (sym c.in-Cell.is))

pub block-returns-in-Terms-clause-out : goal.block-returns-in-Terms-clause-out
block-returns-in-Terms-clause-out t c =
    on_ok c.terms_at.result c.terms_at.ensures.out (λ e. e
    ∙ ap (λ r. fed_all (writing_in c.args.out.now) (spec.block_parts r (views.element_in c.args.element.now)
    (context_in c.args.place.now c.args.around.now.items))) (sym c.in-Terms.is))

pub block-returns-in-Table-clause-out : goal.block-returns-in-Table-clause-out
block-returns-in-Table-clause-out t c =
    on_ok c.table_at.result c.table_at.ensures.out (λ e. e
    ∙ ap (λ r. fed_all (writing_in c.args.out.now) (spec.block_parts r (views.element_in c.args.element.now)
    (context_in c.args.place.now c.args.around.now.items))) (sym c.in-Table.is))

pub block-returns-in-Preformatted-clause-out : goal.block-returns-in-Preformatted-clause-out
block-returns-in-Preformatted-clause-out t c =
    on_ok c.push_verbatim.result c.push_verbatim.ensures (λ e. e
    ∙ ap (λ a. fed_all (writing_in c.args.out.now) (spec.verbatim_parts (pairs_of c.args.element.now.attrs.now)
    (simples_of c.args.element.now.content.now) (context_in c.args.place.now a))) c.deref.ensures.value
    ∙ ap (λ r. fed_all (writing_in c.args.out.now) (spec.block_parts r (views.element_in c.args.element.now)
    (context_in c.args.place.now c.args.around.now.items))) (sym c.in-Preformatted.is))

pub block-returns-in-Verbatim-clause-out : goal.block-returns-in-Verbatim-clause-out
block-returns-in-Verbatim-clause-out t c =
    on_ok c.push_verbatim-in-Verbatim.result c.push_verbatim-in-Verbatim.ensures (λ e. e
    ∙ ap (λ a. fed_all (writing_in c.args.out.now) (spec.verbatim_parts (pairs_of c.args.element.now.attrs.now)
    (simples_of c.args.element.now.content.now) (context_in c.args.place.now a))) c.deref-in-Verbatim.ensures.value
    ∙ ap (λ r. fed_all (writing_in c.args.out.now) (spec.block_parts r (views.element_in c.args.element.now)
    (context_in c.args.place.now c.args.around.now.items))) (sym c.in-Verbatim.is))

pub block-returns-in-ThematicBreak-clause-out : goal.block-returns-in-ThematicBreak-clause-out
block-returns-in-ThematicBreak-clause-out t c =
    on_ok c.block.result c.block.ensures (λ e. e
    ∙ ap (λ b. fed (writing_in c.args.out.now) (whole b)) block-break
    ∙ ap (λ r. fed_all (writing_in c.args.out.now) (spec.block_parts r (views.element_in c.args.element.now)
    (context_in c.args.place.now c.args.around.now.items))) (sym c.in-ThematicBreak.is))

pub block-returns-in-NumberedList-clause-out : goal.block-returns-in-NumberedList-clause-out
block-returns-in-NumberedList-clause-out t c =
    let context = context_in c.args.place.now c.args.around.now.items in
    let ns = nodes_at c.args.element.now.content.now in
    let start : c.unwrap_or-start.result ≡ spec.start_of (pairs_of c.args.element.now.attrs.now) =
    c.unwrap_or-start.ensures ∙ ap (λ n. unwrap_or n (pos 1)) c.number_at.ensures in
    let fits : SFits w64 c.unwrap_or-start.result = search rules in
    on_ok c.list-in-NumberedList.result c.list-in-NumberedList.ensures.out (λ e. e
    ∙ ap (λ z. fed_all (writing_in c.args.out.now) (spec.list_parts (Some z) ns context))
    (to_z-of_z w64 c.unwrap_or-start.result fits ∙ start)
    ∙ ap (λ r. fed_all (writing_in c.args.out.now)
    (spec.block_parts r (views.element_in c.args.element.now) context))
    (sym c.in-NumberedList.is))

pub block-returns-in_default-clause-out : goal.block-returns-in_default-clause-out
block-returns-in_default-clause-out t c =
    on_ok c.apart.result c.apart.ensures.out (λ e. e
    ∙ ap (fed_all (writing_in c.args.out.now)) (other_parts (views.element_in c.args.element.now)
    (context_in c.args.place.now c.args.around.now.items) c.args.role (record {
      heading = c.in_default.not-Heading;
      preformatted = c.in_default.not-Preformatted;
      verbatim = c.in_default.not-Verbatim;
      block_quote = c.in_default.not-BlockQuote;
      thematic_break = c.in_default.not-ThematicBreak;
      bullet_list = c.in_default.not-BulletList;
      numbered_list = c.in_default.not-NumberedList;
      terms = c.in_default.not-Terms;
      table = c.in_default.not-Table;
      division = c.in_default.not-Division;
      details = c.in_default.not-Details;
      figure = c.in_default.not-Figure;
      term = c.in_default.not-Term;
      caption = c.in_default.not-Caption;
      figure_caption = c.in_default.not-FigureCaption;
      summary = c.in_default.not-Summary;
      cell = c.in_default.not-Cell;
    })))

pub among-loop-at-preserved-then-not-is_item : goal.among-loop-at-preserved-then-not-is_item
among-loop-at-preserved-then-not-is_item t c =
    let ts = c.args.nodes.now in
    let context = context_in c.args.place.now c.args.around.now.items in
    let k = c.loop-at.at in
    let n = c.index-nodes-at.result in
    record {
      out = fed_step (writing_in c.loop-at.out) (writing_in c.whole.new.out)
          (spec.flow_all (nodes_at (drop k ts)) context) ((node_at n).whole context)
          (spec.flow_all (nodes_at (drop (k + 1) ts)) context)
          (c.in_ok-whole.ensures.out
          ∙ ap (λ a. fed_all (writing_in c.loop-at.out) ((node_at n).whole (context_in c.args.place.now a)))
          c.loop-at.invariant.around)
          (one_step ts k n context (omega arith) c.index-nodes-at.is
          (sym c.is_item.ensures ∙ c.if-not-is_item.true))
          ∙ c.loop-at.invariant.out;
      around = c.in_ok-whole.ensures.around ∙ c.loop-at.invariant.around;
      bound = omega arith;
    }

pub among-loop-at-preserved : goal.among-loop-at-preserved
among-loop-at-preserved t c =
    let ts = c.args.nodes.now in
    let context = context_in c.args.place.now c.args.around.now.items in
    let k = c.loop-at.at in
    let n = c.index-nodes-at.result in
    let len = c.row_len-len.result in
    let value = c.row_len-len.ensures.value ∙ ap (λ xs. row_len (map simple_of xs)) (slice_rest ts k) in
    record {
      out = fed_step (writing_in c.loop-at.out) (writing_in c.list.new.out)
          (spec.flow_all (nodes_at (drop k ts)) context)
          (spec.list_parts None (nodes_at (take ((k + len) - k) (drop k ts))) context)
          (spec.flow_all (nodes_at (drop (k + len) ts)) context)
          (c.in_ok-list.ensures.out
          ∙ ap (λ a. fed_all (writing_in c.loop-at.out) (spec.list_parts None
          (nodes_at (take ((k + len) - k) (drop k ts))) (context_in c.args.place.now a)))
          c.loop-at.invariant.around)
          (row_step ts k n len ((k + len) - k) context (omega arith) c.index-nodes-at.is
          (sym c.is_item.ensures ∙ c.if-not-is_item.false) value (omega arith))
          ∙ c.loop-at.invariant.out;
      around = c.in_ok-list.ensures.around ∙ c.loop-at.invariant.around;
      bound = let size = length-drop k ts in let cut = length-take-le (length ts - k) (drop k ts)
          (omega (arith, size)) in
          omega (arith, size, cut, c.row_len-len.ensures.bound);
    }

pub among-list-requires : goal.among-list-requires
among-list-requires t c =
    let h = highest_slice c.args.nodes.now ((c.loop-at.at + c.row_len-len.result) - c.loop-at.at) c.loop-at.at in
    omega (arith, h, c.decreases)

pub among-whole-requires : goal.among-whole-requires
among-whole-requires t c =
    let h = highest_at c.args.nodes.now c.loop-at.at c.index-nodes-at.result (omega arith) c.index-nodes-at.is in
    omega (arith, h, c.decreases)

pub among-returns-clause-out : goal.among-returns-clause-out
among-returns-clause-out t c =
    sym (ap (λ xs. fed_all (writing_in c.loop-at.out)
    (spec.flow_all (nodes_at xs) (context_in c.args.place.now c.args.around.now.items)))
    (drop_all c.loop-at.at c.args.nodes.now (omega arith)))
    ∙ c.loop-at.invariant.out

pub near-returns-clause-out : goal.near-returns-clause-out
near-returns-clause-out t c =
    let ns = nodes_at c.args.element.now.content.now in
    on_ok c.apart.result c.apart.ensures.out (λ e. e
    ∙ ap (λ x. fed_all (writing_in c.args.out.now) (apart (spec.flow_all ns x)))
    (c.beside_code-inner.ensures c.args.around.now.items))

pub unlinked-returns : goal.unlinked-returns
unlinked-returns t c =
    let ns = nodes_at c.args.nodes.now in
    let context = context_in c.args.place.now c.args.around.now.items in
    record {
      out = any_ok c.put_back.result (c.in_ok-among.ensures.out
          ∙ ap (λ xs. fed_all (writing_in c.args.out.now) (spec.flow_all ns (record context { around = xs })))
          c.take_link-taken.ensures.without);
      around = on_ok c.put_back.result c.put_back.ensures (λ e. e
          ∙ ap (λ xs. with_taken xs c.take_link-taken.result) c.in_ok-among.ensures.around
          ∙ c.take_link-taken.ensures.back);
    }

pub unlinked-put_back-requires : goal.unlinked-put_back-requires
unlinked-put_back-requires t c =
    subst (λ xs. IfSome c.take_link-taken.result (λ taken. taken.len ≤ length xs))
    (sym c.in_ok-among.ensures.around)
    c.take_link-taken.ensures.bound

pub unlinked_line-returns : goal.unlinked_line-returns
unlinked_line-returns t c =
    let ns = nodes_at c.args.nodes.now in
    let context = context_in c.args.place.now c.args.around.now.items in
    record {
      content = c.in_ok-line.ensures.content
          ∙ ap (λ xs. spec.line_of (spec.flow_all ns (in_one_line (record context { around = xs }))))
          c.take_link-taken.ensures.without;
      around = c.in_ok-put_back.ensures
          ∙ ap (λ xs. with_taken xs c.take_link-taken.result) c.in_ok-line.ensures.around
          ∙ c.take_link-taken.ensures.back;
    }

pub unlinked_line-put_back-requires : goal.unlinked_line-put_back-requires
unlinked_line-put_back-requires t c =
    subst (λ xs. IfSome c.take_link-taken.result (λ taken. taken.len ≤ length xs)) (sym c.in_ok-line.ensures.around)
    c.take_link-taken.ensures.bound

pub inside-returns-clause-around : goal.inside-returns-clause-around
inside-returns-clause-around t c =
    put_and_taken c.args.around.now.items c.among-2.new.around.items c.pop.new.self.items c.in-Some.format c.pop.result
    (c.in_ok-among.ensures.around ∙ c.in_ok-push.ensures.items) c.pop.ensures.items
    (λ l. c.pop.ensures.variant.1 (omega (arith, l, c.among-2.new.around.ok.0)))

pub inside-returns-clause-out : goal.inside-returns-clause-out
inside-returns-clause-out t c =
    let ns = nodes_at c.args.nodes.now in
    let context = context_in c.args.place.now c.args.around.now.items in
    c.in_ok-among.ensures.out
    ∙ ap (λ xs. fed_all (writing_in c.args.out.now) (spec.flow_all ns (context_in c.args.place.now xs)))
    c.in_ok-push.ensures.items
    ∙ ap (λ x. fed_all (writing_in c.args.out.now) (spec.flow_all ns x))
    (around_pushed c.args.place.now c.args.around.now.items c.in-Some.format
    ∙ ap (with_option context) (sym c.in-Some.is))

pub between-returns-clause-out : goal.between-returns-clause-out
between-returns-clause-out t c =
    let ns = nodes_at c.args.nodes.now in
    let context = context_in c.args.place.now c.args.around.now.items in
    let s = c.args.text.now in
    on_ok c.run-2.result c.run-2.ensures (λ e.
    fed_after (writing_in c.args.out.now) (writing_in c.among.new.out) (writing_in c.run-2.new.self)
    (run s context.around context.is_code ∷ spec.flow_all ns context) (run s context.around context.is_code)
    (c.in_ok-among.ensures.out
    ∙ ap (λ w. fed_all w (spec.flow_all ns context)) (c.in_ok-run.ensures
    ∙ ap (λ a. fed (writing_in c.args.out.now) (run s (map around_of a) context.is_code)) c.deref.ensures.value))
    (e ∙ ap (λ a. fed (writing_in c.among.new.out) (run s (map around_of a) context.is_code))
    (c.deref-2.ensures.value ∙ c.in_ok-among.ensures.around)))

pub line-returns-clause-content : goal.line-returns-clause-content
line-returns-clause-content t c =
    let ns = nodes_at c.args.nodes.now in
    let around = c.args.around.now.items in
    if_ok c.finish_line.result _ _ c.finish_line.ensures (λ line e. e
    ∙ ap line_in (c.in_ok-among.ensures.out
    ∙ ap (λ w. fed_all w (spec.flow_all ns (context_in c.in_one_line.result around))) c.new-line.ensures
    ∙ ap (λ p. fed_all (begun false true) (spec.flow_all ns (context_in p around))) c.in_one_line.ensures))

pub terms_at-returns-then-has_elements-clause-out : goal.terms_at-returns-then-has_elements-clause-out
terms_at-returns-then-has_elements-clause-out t c =
    let context = context_in c.args.place.now c.args.around.now.items in
    let parts = spec.terms_of (simples_of c.args.content.now) in
    on_ok c.described.result c.described.ensures.out (λ e. e
    ∙ ap (fed_all (writing_in c.args.out.now)) (sym (ap (λ b. cond b (spec.described_parts parts context)
    (spec.term_parts parts (nodes_at c.args.content.now) context))
    (sym c.has_elements.ensures ∙ c.if-has_elements.true))))

pub terms_at-returns-clause-out : goal.terms_at-returns-clause-out
terms_at-returns-clause-out t c =
    let context = context_in c.args.place.now c.args.around.now.items in
    let parts = spec.terms_of (simples_of c.args.content.now) in
    on_ok c.terms.result c.terms.ensures.out (λ e. e
    ∙ ap (fed_all (writing_in c.args.out.now)) (sym (ap (λ b. cond b (spec.described_parts parts context)
    (spec.term_parts parts (nodes_at c.args.content.now) context))
    (sym c.has_elements.ensures ∙ c.if-has_elements.false))))

pub table_at-returns-then-has_elements-clause-out : goal.table_at-returns-then-has_elements-clause-out
table_at-returns-then-has_elements-clause-out t c =
    let context = context_in c.args.place.now c.args.around.now.items in
    let e = views.element_in c.args.element.now in
    on_ok c.rich_table.result c.rich_table.ensures.out (λ out. out
    ∙ ap (fed_all (writing_in c.args.out.now)) (sym (ap (λ b. cond b (spec.rich_table_at e context)
    (spec.table_parts (list_of e.content) e.nodes e.rows context))
    (sym c.has_elements.ensures ∙ c.if-has_elements.true))))

pub table_at-returns-clause-out : goal.table_at-returns-clause-out
table_at-returns-clause-out t c =
    let context = context_in c.args.place.now c.args.around.now.items in
    let e = views.element_in c.args.element.now in
    on_ok c.table.result c.table.ensures.out (λ out. out
    ∙ ap (λ ts. fed_all (writing_in c.args.out.now) (spec.table_parts ts e.nodes e.rows context))
    (sym (trees_are c.args.element.now.content.now))
    ∙ ap (fed_all (writing_in c.args.out.now)) (sym (ap (λ b. cond b (spec.rich_table_at e context)
    (spec.table_parts (list_of e.content) e.nodes e.rows context))
    (sym c.has_elements.ensures ∙ c.if-has_elements.false))))
