-- What lists and lists of terms give.
use Rattle.std.proofs.Common.{◌≡◌, ◌+◌, ◌-◌, ◌∷◌, ◌++◌, [], true, false, length, drop, take, map, refl, sym, subst}
use Rattle.std.proofs.Common.{ap}
use Rattle.std.proofs.Common.{◌∙◌, arith}
use Rattle.std.specs.Prelude.{None, codes}
use Rattle.std.specs.List.{prefix_len}
use Rattle.htmd_document.specs.DocumentViews.{blocks_of}
use Rattle.htmd_shown.specs.SimpleViews.{simple_of, simples_of}
use Rattle.htmd_flow.specs.Contexts.{apart, deeper}
use Rattle.htmd_flow.specs.Flows as spec
use Rattle.htmd_flow.specs.TermViews.{AreAdded, parts_at}
use Rattle.htmd_flow.specs.FlowViews.{context_in, node_at, nodes_at}
use Rattle.htmd_flow.specs.ItemViews.{is_no_item}
use Rattle.htmd_flow.specs.Lists as lists
use Rattle.htmd_flow.specs.ListViews as list_views
use Rattle.htmd_flow.specs.ParagraphViews.{writing_in}
use Rattle.htmd_flow.specs.Paragraphs.{fed, fed_all, begun}
use Rattle.htmd_flow.specs.Parts.{edge}
use Rattle.std.proofs.lemmas.List.{append-nil, drop_all, take_all, take-map, drop-map, length-drop, length-take-le}
use Rattle.htmd_flow.proofs.AroundLemmas.{context_deeper}
use Rattle.htmd_flow.proofs.FeedLemmas.{on_ok, all_ok, fed_list, fed_step}
use Rattle.htmd_flow.proofs.LevelsLemmas.{highest_at, highest_take, highest_slice}
use Rattle.htmd_flow.proofs.LoopsLemmas.{at_place, slice_rest, rest_stops, passes_at}
use Rattle.htmd_flow.proofs.NodesLemmas.{content_lower, content_is}
use Rattle.htmd_flow.proofs.PartsLemmas.{list_filled}
use Rattle.htmd_flow.proofs.RowsLemmas.{is_other, other_len, before_first, from_first, behind_at}
use Rattle.htmd_flow.proofs.RowsLemmas.{items_begin, items_before, items_more, item_made, item_written, not_true}
use Rattle.htmd_flow.proofs.RowsLemmas.{not_false}
use Rattle.htmd_shown.specs.Attributes.{number_at}
use Rattle.htmd_flow.proofs.TermsLemmas.{added_as, added_both, added_none, added_no_terms, terms_taken, nodes_taken}
use Rattle.htmd_flow.proofs.TermsLemmas.{parts_of_other, meaning_beside, item_beside, other_beside, meaning_within}
use Rattle.htmd_flow.proofs.TermsLemmas.{other_within, terms_lined, terms_none, terms_listed, all_terms, all_begun}
use Rattle.htmd_flow.proofs.TermsLemmas.{term_added, beside_added, within_added, parts_of_group, added_gap}
use Rattle.std.proofs.lemmas.List.{map_push, append_assoc}
use Rattle.htmd_flow.proofs.flow.Flow.+flow.Goals as goal

pub list-returns-clause-out : goal.list-returns-clause-out
list-returns-clause-out t c =
    let ts = c.args.nodes.now in
    let place = c.args.place.now in
    let around = c.args.around.now.items in
    let context = context_in place around in
    let len = c.before_item_len-len.result in
    let count : len ≡ prefix_len is_other (nodes_at ts) =
    c.before_item_len-len.ensures.value ∙ sym (other_len ts) in
    on_ok c.edge-3.result c.edge-3.ensures (λ e.
    fed_list (writing_in c.args.out.now) (writing_in c.edge.new.self) (writing_in c.each-2.new.out)
    (writing_in c.edge-2.new.self) (writing_in c.push_lists.new.out) (writing_in c.edge-3.new.self)
    (spec.before_items (nodes_at ts) context)
    (lists.lists_if_filled context.nested c.args.start (spec.items_of (nodes_at ts) (deeper context)))
    c.in_ok-edge.ensures
    (c.in_ok-each-2.ensures.out
    ∙ ap (λ ns. fed_all (writing_in c.edge.new.self) (spec.each_whole ns context))
    (sym (take-map node_at len ts) ∙ ap (λ k. take k (nodes_at ts)) count)
    ∙ ap (fed_all (writing_in c.edge.new.self)) (sym (before_first (nodes_at ts) context)))
    c.in_ok-edge-2.ensures
    (c.in_ok-push_lists.ensures
    ∙ ap (λ xs. fed_all (writing_in c.edge-2.new.self) (lists.lists_if_filled context.nested c.args.start xs))
    (c.in_ok-items.ensures.items
    ∙ ap (λ xs. spec.items_of (nodes_at xs) (context_in c.deeper.result c.each-2.new.around.items))
    (slice_rest ts len)
    ∙ ap (λ a. spec.items_of (nodes_at (drop len ts)) (context_in c.deeper.result a)) c.in_ok-each-2.ensures.around
    ∙ ap (λ p. spec.items_of (nodes_at (drop len ts)) (context_in p around)) c.deeper.ensures
    ∙ ap (spec.items_of (nodes_at (drop len ts))) (context_deeper place around)
    ∙ ap (λ ns. spec.items_of ns (deeper context))
    (sym (drop-map node_at len ts) ∙ ap (λ k. drop k (nodes_at ts)) count)
    ∙ sym (from_first (nodes_at ts) (deeper context))))
    e
    ∙ ap (fed_all (writing_in c.args.out.now)) (list_filled c.args.start (nodes_at ts) context
    (sym c.is_lined.ensures ∙ c.if-is_lined.false)))

pub list-items-requires : goal.list-items-requires
list-items-requires t c =
    let ts = c.args.nodes.now in
    let len = c.before_item_len-len.result in
    let h = highest_slice ts (length ts - len) len in (
      omega (arith, h, c.decreases),
      ap (λ xs. prefix_len is_no_item (map simple_of xs)) (slice_rest ts len)
          ∙ ap (prefix_len is_no_item) (sym (drop-map simple_of len ts))
          ∙ ap (λ k. prefix_len is_no_item (drop k (map simple_of ts))) c.before_item_len-len.ensures.value
          ∙ rest_stops is_no_item (map simple_of ts),
    )

pub list-each-requires-2 : goal.list-each-requires-2
list-each-requires-2 t c =
    let h = highest_take c.args.nodes.now c.before_item_len-len.result in omega (arith, h, c.decreases)

pub item-loop-node-preserved : goal.item-loop-node-preserved
item-loop-node-preserved t c =
    let ts = c.args.behind.now in
    let context = context_in c.args.place.now c.among.new.around.items in
    let k = c.loop-node.node-index in
    let n = c.node-item.result in
    record {
      content = fed_step (writing_in c.loop-node.content) (writing_in c.whole.new.out)
          (spec.behind_item (nodes_at (drop k ts)) context) (edge ∷ (node_at n).whole context)
          (spec.behind_item (nodes_at (drop (k + 1) ts)) context)
          (c.in_ok-whole.ensures.out
          ∙ ap (λ w. fed_all w ((node_at n).whole (context_in c.args.place.now c.loop-node.around.items)))
          c.in_ok-edge.ensures
          ∙ ap (λ a. fed_all (fed (writing_in c.loop-node.content) edge) ((node_at n).whole
          (context_in c.args.place.now a))) c.loop-node.invariant.around)
          (ap (λ xs. spec.behind_item (nodes_at xs) context) (at_place ts k n c.loop-node-test.true c.node-item.is)
          ∙ behind_at n (nodes_at (drop (k + 1) ts)) context
          (passes_at is_no_item simple_of ts k n c.requires.no_items c.loop-node-test.true c.node-item.is))
          ∙ c.loop-node.invariant.content;
      around = c.in_ok-whole.ensures.around ∙ c.loop-node.invariant.around;
    }

pub items-item-requires : goal.items-item-requires
items-item-requires t c =
    let ts = c.args.nodes.now in
    let k = c.loop-at.at in
    let len = c.before_item_len-len.result in
    let n = c.index-nodes-at.result in
    let h = highest_at ts k n (omega arith) c.index-nodes-at.is in
    let i = highest_slice ts (((k + 1) + len) - (k + 1)) (k + 1) in (
      omega (arith, h, i, c.decreases),
      items_before ts (k + 1) len (((k + 1) + len) - (k + 1))
          (c.before_item_len-len.ensures.value
          ∙ ap (λ xs. prefix_len is_no_item (map simple_of xs)) (slice_rest ts (k + 1))) (omega arith),
    )

pub items-loop-at-preserved : goal.items-loop-at-preserved
items-loop-at-preserved t c =
    let ts = c.args.nodes.now in
    let context = context_in c.args.place.now c.args.around.now.items in
    let k = c.loop-at.at in
    let n = c.index-nodes-at.result in
    let len = c.before_item_len-len.result in
    let value = c.before_item_len-len.ensures.value
    ∙ ap (λ xs. prefix_len is_no_item (map simple_of xs)) (slice_rest ts (k + 1)) in
    record {
      items = items_more c.loop-at.items.items c.push.new.self.items c.in_ok-item.item ts k n len
          (((k + 1) + len) - (k + 1)) context (omega arith) c.index-nodes-at.is c.loop-at.invariant.first value
          (omega arith) c.in_ok-push.ensures.items
          (c.in_ok-item.ensures.item
          ∙ ap (λ a. spec.item_of (node_at n) ((node_at n).content (context_in c.args.place.now a)
          ++ spec.behind_item (nodes_at (take (((k + 1) + len) - (k + 1)) (drop (k + 1) ts)))
          (context_in c.args.place.now a)))
          c.loop-at.invariant.around)
          ∙ c.loop-at.invariant.items;
      around = c.in_ok-item.ensures.around ∙ c.loop-at.invariant.around;
      first = items_begin ts k len value;
      bound = let size = length-drop (k + 1) ts in
          let cut = length-take-le (length ts - (k + 1)) (drop (k + 1) ts) (omega (arith, size)) in
          omega (arith, size, cut, c.before_item_len-len.ensures.bound);
    }

pub items-returns-clause-items : goal.items-returns-clause-items
items-returns-clause-items t c =
    sym (append-nil (map list_views.item_of c.loop-at.items.items))
    ∙ sym (ap (λ xs. map list_views.item_of c.loop-at.items.items ++ spec.items_of (nodes_at xs)
    (context_in c.args.place.now c.args.around.now.items))
    (drop_all c.loop-at.at c.args.nodes.now (omega arith)))
    ∙ c.loop-at.invariant.items

pub item-among-requires : goal.item-among-requires
item-among-requires t c =
    let h = content_lower (simple_of c.args.item.now) c.content_of.result.now c.content_of.ensures in
    omega (arith, h, c.decreases)

pub beside_terms-returns-then-is_meaning-clause-out : goal.beside_terms-returns-then-is_meaning-clause-out
beside_terms-returns-then-is_meaning-clause-out t c =
    let context = context_in c.args.place.now c.args.around.now.items in
    on_ok c.apart.result c.apart.ensures.out (λ e. e
    ∙ ap (λ ps. fed_all (writing_in c.args.out.now) (apart ps))
    (content_is (simple_of c.args.node.now) c.content_of.result.now context c.content_of.ensures)
    ∙ ap (fed_all (writing_in c.args.out.now)) (meaning_beside context c.args.node.now
    (sym c.is_meaning.ensures ∙ c.if-is_meaning.true)))

pub beside_terms-returns-then-is_item-clause-out : goal.beside_terms-returns-then-is_item-clause-out
beside_terms-returns-then-is_item-clause-out t c =
    let context = context_in c.args.place.now c.args.around.now.items in
    on_ok c.among.result c.among.ensures.out (λ e. e
    ∙ ap (fed_all (writing_in c.args.out.now))
    (content_is (simple_of c.args.node.now) c.content_of-then-is_item.result.now context
    c.content_of-then-is_item.ensures)
    ∙ ap (fed_all (writing_in c.args.out.now)) (item_beside context c.args.node.now
    (sym c.is_meaning.ensures ∙ c.if-is_meaning.false) (sym c.is_item.ensures ∙ c.if-is_item.true)))

pub beside_terms-returns-clause-out : goal.beside_terms-returns-clause-out
beside_terms-returns-clause-out t c =
    on_ok c.whole.result c.whole.ensures.out (λ e. e
    ∙ ap (fed_all (writing_in c.args.out.now)) (other_beside (context_in c.args.place.now c.args.around.now.items)
    c.args.node.now
    (sym c.is_meaning.ensures ∙ c.if-is_meaning.false) (sym c.is_item.ensures ∙ c.if-is_item.false)))

pub within_item-returns-then-is_meaning-clause-out : goal.within_item-returns-then-is_meaning-clause-out
within_item-returns-then-is_meaning-clause-out t c =
    on_ok c.beside_terms.result c.beside_terms.ensures.out (λ e. e
    ∙ ap (fed_all (writing_in c.args.out.now)) (meaning_within (context_in c.args.place.now c.args.around.now.items)
    c.args.node.now
    (sym c.is_meaning.ensures ∙ c.if-is_meaning.true)))

pub within_item-returns-clause-out : goal.within_item-returns-clause-out
within_item-returns-clause-out t c =
    on_ok c.beside_terms-2.result c.beside_terms-2.ensures.out (λ e. e
    ∙ ap (λ w. fed_all w (spec.beside_terms (node_at c.args.node.now)
    (context_in c.args.place.now c.args.around.now.items))) c.in_ok-edge.ensures
    ∙ ap (fed_all (writing_in c.args.out.now)) (other_within (context_in c.args.place.now c.args.around.now.items)
    c.args.node.now
    (sym c.is_meaning.ensures ∙ c.if-is_meaning.false)))

pub term_parts-loop-node-preserved : goal.term_parts-loop-node-preserved
term_parts-loop-node-preserved t c =
    let ts = c.args.nodes.now in
    let k = c.loop-node.node-index in
    let n = c.node-item.result in
    let context = context_in c.args.place.now c.args.around.now.items in
    record {
      terms = added_as context (spec.terms_of (simples_of (take k ts)) ++ parts_at (simple_of n))
          (spec.terms_of (simples_of (take (k + 1) ts))) (writing_in c.args.out.now) (writing_in c.term_part.new.out)
          c.args.items.now c.term_part.new.items (terms_taken ts k n c.loop-node-test.true c.node-item.is)
          (added_both context (spec.terms_of (simples_of (take k ts))) (parts_at (simple_of n))
          (writing_in c.args.out.now) (writing_in c.loop-node.out) (writing_in c.term_part.new.out)
          c.args.items.now c.loop-node.items c.term_part.new.items c.loop-node.invariant.terms
          (subst (λ a. AreAdded (context_in c.args.place.now a) (parts_at (simple_of n)) (writing_in c.loop-node.out)
          c.loop-node.items (writing_in c.term_part.new.out) c.term_part.new.items) c.loop-node.invariant.around
          c.in_ok-term_part.ensures.terms));
      around = c.in_ok-term_part.ensures.around ∙ c.loop-node.invariant.around;
    }

pub term_parts-loop-node-init : goal.term_parts-loop-node-init
term_parts-loop-node-init t c = record {
  terms = added_no_terms (context_in c.args.place.now c.args.around.now.items) (writing_in c.args.out.now)
      c.args.items.now;
  around = refl;
}

pub term_parts-returns-clause-terms : goal.term_parts-returns-clause-terms
term_parts-returns-clause-terms t c =
    added_as (context_in c.args.place.now c.args.around.now.items) _ (spec.terms_of (simples_of c.args.nodes.now)) _ _
    _ _
    (ap (λ xs. spec.terms_of (simples_of xs))
    (take_all c.loop-node.node-index c.args.nodes.now c.loop-node-test.false))
    c.loop-node.invariant.terms

pub term_nodes-loop-node-preserved : goal.term_nodes-loop-node-preserved
term_nodes-loop-node-preserved t c =
    let ts = c.args.nodes.now in
    let k = c.loop-node.node-index in
    let n = c.node-item.result in
    let context = context_in c.args.place.now c.args.around.now.items in
    record {
      terms = added_as context (map spec.of_node (nodes_at (take k ts)) ++ spec.of_node (node_at n) ∷ [])
          (map spec.of_node (nodes_at (take (k + 1) ts))) (writing_in c.args.out.now) (writing_in c.term_node.new.out)
          c.args.items.now c.term_node.new.items (nodes_taken ts k n c.loop-node-test.true c.node-item.is)
          (added_both context (map spec.of_node (nodes_at (take k ts))) (spec.of_node (node_at n) ∷ [])
          (writing_in c.args.out.now) (writing_in c.loop-node.out) (writing_in c.term_node.new.out)
          c.args.items.now c.loop-node.items c.term_node.new.items c.loop-node.invariant.terms
          (subst (λ a. AreAdded (context_in c.args.place.now a) (spec.of_node (node_at n) ∷ [])
          (writing_in c.loop-node.out) c.loop-node.items (writing_in c.term_node.new.out) c.term_node.new.items)
          c.loop-node.invariant.around c.in_ok-term_node.ensures.terms));
      around = c.in_ok-term_node.ensures.around ∙ c.loop-node.invariant.around;
    }

pub term_nodes-loop-node-init : goal.term_nodes-loop-node-init
term_nodes-loop-node-init t c = record {
  terms = added_none (context_in c.args.place.now c.args.around.now.items) (writing_in c.args.out.now) c.args.items.now;
  around = refl;
}

pub term_nodes-returns-clause-terms : goal.term_nodes-returns-clause-terms
term_nodes-returns-clause-terms t c =
    added_as (context_in c.args.place.now c.args.around.now.items) _ (map spec.of_node (nodes_at c.args.nodes.now)) _
    _ _ _
    (ap (λ xs. map spec.of_node (nodes_at xs))
    (take_all c.loop-node.node-index c.args.nodes.now c.loop-node-test.false))
    c.loop-node.invariant.terms

pub term_part-returns-then-not-is_group-clause-terms : goal.term_part-returns-then-not-is_group-clause-terms
term_part-returns-then-not-is_group-clause-terms t c =
    on_ok c.term_node.result c.term_node.ensures.terms (λ added.
    added_as (context_in c.args.place.now c.args.around.now.items) (spec.of_node (node_at c.args.node.now) ∷ [])
    (parts_at (simple_of c.args.node.now)) _ _ _ _
    (sym (parts_of_other (simple_of c.args.node.now) (sym c.is_group.ensures ∙ c.if-not-is_group.true))) added)

pub terms-returns-then-is_lined-clause-out : goal.terms-returns-then-is_lined-clause-out
terms-returns-then-is_lined-clause-out t c = on_ok c.apart.result c.apart.ensures.out (λ e. e
    ∙ ap (fed_all (writing_in c.args.out.now)) (terms_lined (spec.terms_of (simples_of c.args.nodes.now))
    (nodes_at c.args.nodes.now) (context_in c.args.place.now c.args.around.now.items)
    (sym c.is_lined.ensures ∙ c.if-is_lined.true)))

pub term_node-returns-then-is_term-clause-terms : goal.term_node-returns-then-is_term-clause-terms
term_node-returns-then-is_term-clause-terms t c =
    let context = context_in c.args.place.now c.args.around.now.items in
    let n = c.args.node.now in
    let taken = c.take_for_term-item.new.self in
    let parts = apart (spec.flow_all (nodes_at c.content_of.result.now)
    (context_in c.deeper.result c.args.around.now.items)) in
    let inner = ap (λ p. context_in p c.args.around.now.items) c.deeper.ensures
    ∙ context_deeper c.args.place.now c.args.around.now.items in
    all_ok c.put.result c.put.ensures.open c.put.ensures.goes_on c.put.ensures.has_meanings (λ put goes means.
    term_added context n (writing_in c.args.out.now) c.args.items.now c.put.new.self parts
    (sym c.is_term.ensures ∙ c.if-is_term.true)
    (ap apart (ap (spec.flow_all (nodes_at c.content_of.result.now)) inner
    ∙ content_is (simple_of n) c.content_of.result.now (deeper context) c.content_of.ensures))
    (ap (map writing_in) put ∙ map_push writing_in taken.open.items c.apart.new.out
    ∙ ap (λ w. map writing_in taken.open.items ++ w ∷ []) c.in_ok-apart.ensures.out
    ∙ c.take_for_term-item.ensures.items parts)
    (goes ∙ c.take_for_term-item.ensures.goes_on)
    (means ∙ c.take_for_term-item.ensures.has_meanings))

pub term_node-returns-in_default-clause-terms : goal.term_node-returns-in_default-clause-terms
term_node-returns-in_default-clause-terms t c =
    on_ok c.beside_terms.result c.beside_terms.ensures.out (λ e.
    beside_added (context_in c.args.place.now c.args.around.now.items) c.args.node.now (writing_in c.args.out.now)
    (writing_in c.beside_terms.new.out) c.args.items.now c.take_for_node.new.self
    (sym c.is_term.ensures ∙ c.if-is_term.false)
    (c.in_default.ensures.items ∙ append-nil c.take_for_node.new.self.open.items ∙ c.in_default.ensures.empty)
    c.in_default.ensures.empty e c.take_for_node.ensures.goes_on c.take_for_node.ensures.has_meanings)

pub term_node-returns-clause-terms : goal.term_node-returns-clause-terms
term_node-returns-clause-terms t c =
    let context = context_in c.args.place.now c.args.around.now.items in
    let n = c.args.node.now in
    let inner = ap (λ p. context_in p c.args.around.now.items) c.deeper-2.ensures
    ∙ context_deeper c.args.place.now c.args.around.now.items in
    all_ok c.put-2.result c.put-2.ensures.open c.put-2.ensures.goes_on c.put-2.ensures.has_meanings (λ put goes means.
    within_added context n (writing_in c.args.out.now) c.args.items.now c.put-2.new.self
    c.take_for_node.new.self.open.items c.in-Some.item c.within_item.new.out
    (sym c.is_term.ensures ∙ c.if-is_term.false) c.in-Some.ensures.items put
    (c.in_ok-within_item.ensures.out
    ∙ ap (λ x. fed_all (writing_in c.in-Some.item) (spec.within_item (node_at n) x)) inner)
    (goes ∙ c.take_for_node.ensures.goes_on) (means ∙ c.take_for_node.ensures.has_meanings))

pub term_part-returns-clause-terms : goal.term_part-returns-clause-terms
term_part-returns-clause-terms t c =
    let context = context_in c.args.place.now c.args.around.now.items in
    let w = writing_in c.args.out.now in
    let content = c.content_of.result.now in
    let closed = record c.args.items.now { goes_on = false } in
    added_as context (spec.gap ∷ map spec.of_node (nodes_at content) ++ spec.gap ∷ [])
    (parts_at (simple_of c.args.node.now)) w (writing_in c.term_nodes.new.out) c.args.items.now
    (record c.term_nodes.new.items { goes_on = false })
    (sym (parts_of_group (simple_of c.args.node.now) content (sym c.is_group.ensures ∙ c.if-not-is_group.false)
    c.content_of.ensures))
    (added_both context (spec.gap ∷ []) (map spec.of_node (nodes_at content) ++ spec.gap ∷ []) w w
    (writing_in c.term_nodes.new.out) c.args.items.now closed (record c.term_nodes.new.items { goes_on = false })
    (added_gap context w c.args.items.now)
    (added_both context (map spec.of_node (nodes_at content)) (spec.gap ∷ []) w (writing_in c.term_nodes.new.out)
    (writing_in c.term_nodes.new.out) closed c.term_nodes.new.items
    (record c.term_nodes.new.items { goes_on = false })
    c.in_ok-term_nodes.ensures.terms
    (added_gap context (writing_in c.term_nodes.new.out) c.term_nodes.new.items)))

pub terms-returns-then-not-kinds-clause-out : goal.terms-returns-then-not-kinds-clause-out
terms-returns-then-not-kinds-clause-out t c = on_ok c.apart-then-not-kinds.result c.apart-then-not-kinds.ensures.out
    (λ e. e
    ∙ ap (fed_all (writing_in c.args.out.now)) (terms_none (spec.terms_of (simples_of c.args.nodes.now))
    (nodes_at c.args.nodes.now) (context_in c.args.place.now c.args.around.now.items)
    (sym c.is_lined.ensures ∙ c.if-is_lined.false)
    (sym (ap (λ k. k.has_terms) c.of-kinds.ensures) ∙ not_true c.of-kinds.result.has_terms c.if-not-kinds.true)))

pub terms-returns-clause-out : goal.terms-returns-clause-out
terms-returns-clause-out t c =
    let ns = nodes_at c.args.nodes.now in
    let parts = spec.terms_of (simples_of c.args.nodes.now) in
    let context = context_in c.args.place.now c.args.around.now.items in
    let all = all_terms parts ns context in
    let made = lists.lists_if_filled context.nested None (spec.items_of_terms all) in
    let started = all_begun parts ns context (writing_in c.edge.new.self) (writing_in c.term_parts.new.out)
    c.new-items.result c.term_parts.new.items c.new-items.ensures.open c.new-items.ensures.goes_on
    (c.new-items.ensures.has_meanings ∙ ap (λ k. k.has_meanings) c.of-kinds.ensures)
    c.in_ok-term_parts.ensures.terms in
    on_ok c.edge-3.result c.edge-3.ensures (λ e.
    fed_list (writing_in c.args.out.now) (writing_in c.edge.new.self) (writing_in c.term_parts.new.out)
    (writing_in c.edge-2.new.self) (writing_in c.push_lists.new.out) (writing_in c.edge-3.new.self)
    all.before made
    c.in_ok-edge.ensures started.out c.in_ok-edge-2.ensures
    (c.in_ok-push_lists.ensures
    ∙ ap (λ xs. fed_all (writing_in c.edge-2.new.self) (lists.lists_if_filled context.nested None xs))
    (c.in_ok-items.ensures ∙ ap (map spec.term_item) started.items))
    e
    ∙ ap (fed_all (writing_in c.args.out.now)) (sym (append_assoc (edge ∷ all.before) (edge ∷ made) (edge ∷ []))
    ∙ terms_listed parts ns context (sym c.is_lined.ensures ∙ c.if-is_lined.false)
    (sym (ap (λ k. k.has_terms) c.of-kinds.ensures) ∙ not_false c.of-kinds.result.has_terms c.if-not-kinds.false)))

pub item-returns-clause-item : goal.item-returns-clause-item
item-returns-clause-item t c =
    let n = c.args.item.now in
    let context = context_in c.args.place.now c.args.around.now.items in
    let behind = spec.behind_item (nodes_at c.args.behind.now) context in
    item_made n ((node_at n).content context ++ behind) c.number_at.result c.has_paragraph.result
    (blocks_of c.in_ok-finish.field-0.items) c.content_of-2.result.now
    (c.number_at.ensures ∙ ap (number_at (codes "value")) c.attributes_of.ensures) c.has_paragraph.ensures
    c.content_of-2.ensures
    (c.in_ok-finish.ensures
    ∙ item_written (writing_in c.loop-node.content) ((node_at n).content context) behind
    (sym (ap (λ xs. fed_all (writing_in c.loop-node.content)
    (spec.behind_item (nodes_at xs) (context_in c.args.place.now c.among.new.around.items)))
    (drop_all c.loop-node.node-index c.args.behind.now c.loop-node-test.false))
    ∙ c.loop-node.invariant.content
    ∙ ap (λ a. fed_all (writing_in c.among.new.out) (spec.behind_item (nodes_at c.args.behind.now)
    (context_in c.args.place.now a))) c.in_ok-among.ensures.around
    ∙ ap (λ w. fed_all w behind)
    (c.in_ok-among.ensures.out
    ∙ ap (λ w. fed_all w (spec.flow_all (nodes_at c.content_of.result.now) context)) c.new-content.ensures
    ∙ ap (fed_all (begun true false))
    (content_is (simple_of n) c.content_of.result.now context c.content_of.ensures))))
