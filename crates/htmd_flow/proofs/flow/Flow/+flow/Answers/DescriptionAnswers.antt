-- What lists of terms give in rich documents.
use Rattle.std.proofs.Common.{◌+◌, ◌-◌, ◌∷◌, ◌++◌, [], true, false, drop, take, map, refl, sym, subst, ap}
use Rattle.std.proofs.Common.{◌∙◌, arith}
use Rattle.std.proofs.lemmas.List.{take_all}
use Rattle.htmd_shown.specs.Showings.{shows}
use Rattle.htmd_shown.specs.SimpleViews.{simple_of, simples_of}
use Rattle.htmd_flow.specs.DescriptionViews.{AreDescribed, AreTaken, begun_in}
use Rattle.htmd_flow.specs.Flows as spec
use Rattle.htmd_flow.specs.FlowViews.{context_in, node_at, nodes_at}
use Rattle.htmd_flow.specs.ParagraphViews.{writing_in}
use Rattle.htmd_flow.specs.Paragraphs.{fed, fed_all}
use Rattle.htmd_flow.specs.Parts.{edge}
use Rattle.htmd_flow.specs.TermViews.{parts_at}
use Rattle.htmd_flow.proofs.DescriptionsLemmas.{described_none, described_both, described_as, described_one}
use Rattle.htmd_flow.proofs.DescriptionsLemmas.{described_before, described_within, described_no_terms, described_group}
use Rattle.htmd_flow.proofs.DescriptionsLemmas.{terms_more, nodes_more, one_alone, alone_is, terms_alone}
use Rattle.htmd_flow.proofs.FeedLemmas.{on_ok}
use Rattle.htmd_flow.proofs.LevelsLemmas.{highest_slice}
use Rattle.htmd_flow.proofs.TermsLemmas.{parts_of_other}
use Rattle.htmd_flow.proofs.flow.Flow.+flow.Goals as goal

pub descriptions-loop-at-init : goal.descriptions-loop-at-init
descriptions-loop-at-init t c = record {
  begun = described_no_terms (context_in c.args.place.now c.args.around.now.items) (writing_in c.args.out.now)
      c.args.begun.now;
  around = refl;
  bound = omega arith;
}

pub descriptions-loop-at-preserved : goal.descriptions-loop-at-preserved
descriptions-loop-at-preserved t c =
    let ts = c.args.nodes.now in
    let k = c.loop-at.at in
    let m = (k + 1) - k in
    let context = context_in c.args.place.now c.args.around.now.items in
    let one = spec.terms_of (simples_of (take m (drop k ts))) in
    record {
      begun = described_as context (spec.terms_of (simples_of (take k ts)) ++ one)
          (spec.terms_of (simples_of (take (k + 1) ts))) (writing_in c.args.out.now)
          (writing_in c.description_part.new.out) c.args.begun.now c.description_part.new.begun
          (terms_more ts k m (omega arith))
          (described_both context (spec.terms_of (simples_of (take k ts))) one (writing_in c.args.out.now)
          (writing_in c.loop-at.out) (writing_in c.description_part.new.out) c.args.begun.now c.loop-at.begun
          c.description_part.new.begun c.loop-at.invariant.begun
          (subst (λ a. AreDescribed (context_in c.args.place.now a) one (writing_in c.loop-at.out) c.loop-at.begun
          (writing_in c.description_part.new.out) c.description_part.new.begun) c.loop-at.invariant.around
          c.in_ok-description_part.ensures.begun));
      around = c.in_ok-description_part.ensures.around ∙ c.loop-at.invariant.around;
      bound = omega arith;
    }

pub descriptions-description_part-requires : goal.descriptions-description_part-requires
descriptions-description_part-requires t c =
    let ts = c.args.nodes.now in
    let m = (c.loop-at.at + 1) - c.loop-at.at in
    let h = highest_slice ts m c.loop-at.at in (
      omega (arith, h, c.decreases),
      one_alone ts c.loop-at.at m (omega arith) (omega arith),
    )

pub descriptions-returns-clause-begun : goal.descriptions-returns-clause-begun
descriptions-returns-clause-begun t c =
    described_as (context_in c.args.place.now c.args.around.now.items) _ (spec.terms_of (simples_of c.args.nodes.now))
    _ _ _ _
    (ap (λ xs. spec.terms_of (simples_of xs)) (take_all c.loop-at.at c.args.nodes.now (omega arith)))
    c.loop-at.invariant.begun

pub described_nodes-loop-at-init : goal.described_nodes-loop-at-init
described_nodes-loop-at-init t c = record {
  begun = described_none (context_in c.args.place.now c.args.around.now.items) (writing_in c.args.out.now)
      c.args.begun.now;
  around = refl;
  bound = omega arith;
}

pub described_nodes-loop-at-preserved : goal.described_nodes-loop-at-preserved
described_nodes-loop-at-preserved t c =
    let ts = c.args.nodes.now in
    let k = c.loop-at.at in
    let m = (k + 1) - k in
    let context = context_in c.args.place.now c.args.around.now.items in
    let one = map spec.of_node (nodes_at (take m (drop k ts))) in
    record {
      begun = described_as context (map spec.of_node (nodes_at (take k ts)) ++ one)
          (map spec.of_node (nodes_at (take (k + 1) ts))) (writing_in c.args.out.now)
          (writing_in c.description.new.out) c.args.begun.now c.description.new.begun
          (nodes_more ts k m (omega arith))
          (described_both context (map spec.of_node (nodes_at (take k ts))) one (writing_in c.args.out.now)
          (writing_in c.loop-at.out) (writing_in c.description.new.out) c.args.begun.now c.loop-at.begun
          c.description.new.begun c.loop-at.invariant.begun
          (subst (λ a. AreDescribed (context_in c.args.place.now a) one (writing_in c.loop-at.out) c.loop-at.begun
          (writing_in c.description.new.out) c.description.new.begun) c.loop-at.invariant.around
          c.in_ok-description.ensures.begun));
      around = c.in_ok-description.ensures.around ∙ c.loop-at.invariant.around;
      bound = omega arith;
    }

pub described_nodes-description-requires : goal.described_nodes-description-requires
described_nodes-description-requires t c =
    let ts = c.args.nodes.now in
    let m = (c.loop-at.at + 1) - c.loop-at.at in
    let h = highest_slice ts m c.loop-at.at in (
      omega (arith, h, c.decreases),
      one_alone ts c.loop-at.at m (omega arith) (omega arith),
    )

pub described_nodes-returns-clause-begun : goal.described_nodes-returns-clause-begun
described_nodes-returns-clause-begun t c =
    described_as (context_in c.args.place.now c.args.around.now.items) _
    (map spec.of_node (nodes_at c.args.nodes.now)) _ _ _ _
    (ap (λ xs. map spec.of_node (nodes_at xs)) (take_all c.loop-at.at c.args.nodes.now (omega arith)))
    c.loop-at.invariant.begun

pub description_part-returns-then-is_group-clause-begun : goal.description_part-returns-then-is_group-clause-begun
description_part-returns-then-is_group-clause-begun t c =
    let n = c.index-alone-0.result in
    let context = context_in c.args.place.now c.args.around.now.items in
    on_ok c.described_nodes.result c.described_nodes.ensures.begun (λ are.
    described_as context (parts_at (simple_of n)) (spec.terms_of (simples_of c.args.alone.now))
    (writing_in c.args.out.now)
    (writing_in c.described_nodes.new.out) c.args.begun.now c.described_nodes.new.begun
    (terms_alone n ∙ ap (λ xs. spec.terms_of (simples_of xs))
    (alone_is c.args.alone.now n c.requires c.index-alone-0.is))
    (described_group context n c.content_of.result.now (writing_in c.args.out.now)
    (writing_in c.described_nodes.new.out)
    c.args.begun.now c.described_nodes.new.begun (sym c.is_group.ensures ∙ c.if-is_group.true) c.content_of.ensures
    are))

pub description_part-returns-clause-begun : goal.description_part-returns-clause-begun
description_part-returns-clause-begun t c =
    let n = c.index-alone-0.result in
    let context = context_in c.args.place.now c.args.around.now.items in
    let alone = alone_is c.args.alone.now n c.requires c.index-alone-0.is in
    on_ok c.description.result c.description.ensures.begun (λ are.
    described_as context (map spec.of_node (nodes_at c.args.alone.now)) (spec.terms_of (simples_of c.args.alone.now))
    (writing_in c.args.out.now) (writing_in c.description.new.out) c.args.begun.now c.description.new.begun
    (ap (λ xs. map spec.of_node (nodes_at xs)) (sym alone)
    ∙ sym (parts_of_other (simple_of n) (sym c.is_group.ensures ∙ c.if-is_group.false))
    ∙ terms_alone n ∙ ap (λ xs. spec.terms_of (simples_of xs)) alone)
    are)

pub description-returns-then-is_term_or_meaning-clause-begun :
    goal.description-returns-then-is_term_or_meaning-clause-begun
description-returns-then-is_term_or_meaning-clause-begun t c =
    let n = c.index-alone-0.result in
    let context = context_in c.args.place.now c.args.around.now.items in
    on_ok c.push.result c.push.ensures (λ e.
    described_as context (map spec.of_node (nodes_at (n ∷ []))) (map spec.of_node (nodes_at c.args.alone.now))
    (writing_in c.args.out.now) (writing_in c.args.out.now) c.args.begun.now c.push.new.self
    (ap (λ xs. map spec.of_node (nodes_at xs)) (alone_is c.args.alone.now n c.requires c.index-alone-0.is))
    (described_one context n c.is_term-is_term.result (writing_in c.args.out.now) c.args.begun.now c.push.new.self
    (record { is_term = c.is_term-is_term.result; content = c.within.new.out })
    (sym c.is_term_or_meaning.ensures ∙ c.if-is_term_or_meaning.true) c.is_term-is_term.ensures refl
    (c.in_ok-within.ensures.out ∙ ap (λ w. fed_all w (spec.within (node_at n) context)) c.new-content.ensures) e))

pub description-returns-in_default-clause-begun : goal.description-returns-in_default-clause-begun
description-returns-in_default-clause-begun t c =
    let n = c.index-alone-0.result in
    let context = context_in c.args.place.now c.args.around.now.items in
    let alone = alone_is c.args.alone.now n c.requires c.index-alone-0.is in
    let taken = subst (AreTaken (shows false (simple_of n)) (begun_in c.args.begun.now) (begun_in c.take_for.new.self))
    c.in_default.is c.in_ok-last.ensures in
    on_ok c.among.result c.among.ensures.out (λ e.
    described_as context (map spec.of_node (nodes_at (n ∷ []))) (map spec.of_node (nodes_at c.args.alone.now))
    (writing_in c.args.out.now) (writing_in c.among.new.out) c.args.begun.now c.take_for.new.self
    (ap (λ xs. map spec.of_node (nodes_at xs)) alone)
    (described_before context n (writing_in c.args.out.now) (writing_in c.among.new.out) c.args.begun.now
    c.take_for.new.self (sym c.is_term_or_meaning.ensures ∙ c.if-is_term_or_meaning.false)
    taken.0 (taken.1 ∙ sym taken.0)
    (e ∙ ap (λ xs. fed_all (writing_in c.args.out.now) (spec.flow_all (nodes_at xs) context)) (sym alone))))

pub description-returns-clause-begun : goal.description-returns-clause-begun
description-returns-clause-begun t c =
    let n = c.index-alone-0.result in
    let context = context_in c.args.place.now c.args.around.now.items in
    let alone = alone_is c.args.alone.now n c.requires c.index-alone-0.is in
    let taken = subst (AreTaken (shows false (simple_of n)) (begun_in c.args.begun.now) (begun_in c.take_for.new.self))
    c.in-Some.is c.in_ok-last.ensures in
    on_ok c.push-2.result c.push-2.ensures (λ e.
    described_as context (map spec.of_node (nodes_at (n ∷ []))) (map spec.of_node (nodes_at c.args.alone.now))
    (writing_in c.args.out.now) (writing_in c.args.out.now) c.args.begun.now c.push-2.new.self
    (ap (λ xs. map spec.of_node (nodes_at xs)) alone)
    (described_within context n (writing_in c.args.out.now) c.args.begun.now c.take_for.new.self c.push-2.new.self
    c.in-Some.last (record c.in-Some.last { content = c.among-2.new.out })
    (sym c.is_term_or_meaning.ensures ∙ c.if-is_term_or_meaning.false) taken e refl
    (c.in_ok-among.ensures.out
    ∙ ap (λ w. fed_all w (spec.flow_all (nodes_at c.args.alone.now) context)) c.in_ok-edge.ensures
    ∙ ap (λ xs. fed_all (fed (writing_in c.in-Some.last.content) edge) (spec.flow_all (nodes_at xs) context))
    (sym alone))))
