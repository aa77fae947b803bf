-- Nodes that are handed over by themselves.
use Rattle.std.proofs.Common.{rules, ◌≡◌, ◌<◌, ◌≤◌, ◌+◌, ◌++◌, ◌∙◌, ℕ, List, [], ◌∷◌, Bool}
use Rattle.std.proofs.Common.{true, false, refl, sym, ap, subst, arith, length, drop, suc, Option, Some, None}
use Rattle.std.proofs.Common.{string_bytes}
use Rattle.std.specs.Option.{option_copied, is_some}
use Rattle.std.proofs.lemmas.List.{map-append, length-map}
use Rattle.std.proofs.lemmas.Bool.{eqb-true}
use Rattle.std.proofs.lemmas.Result.{IfOk-weaker}
use Rattle.htmd_nodes.specs.Items.{Item, Data, IsBelow, data_at, element_node}
use Rattle.htmd_lexical.specs.Attributes.{pairs_of}
use Rattle.htmd_nodes.specs.Views.{data_of}
use Rattle.htmd_nodes.specs.NumberedTrees.{tree_of, height}
use Rattle.htmd_nodes.specs.Ancestors.{ancestor_of, ancestors_of}
use Rattle.htmd_nodes.proofs.NumberedTreesLemmas.{height_pos}
use Rattle.htmd_walk.specs.Handling.{ResultView}
use Rattle.htmd_walk.specs.OrdinaryText.{in_pre_or_code, written_text}
use Rattle.htmd_walk.specs.Outputs.{Output, conversion_of, context_of, empty_output}
use Rattle.htmd_walk.specs.Children.{content_alone, descendant_tree}
use Rattle.htmd_walk.specs.Groups.{group_tree, group_children, children_at}
use Rattle.htmd_walk.specs.Elements.{Occurrence, Answer, answer_after, occurrence_at, Contents, contents_alone}
use Rattle.htmd_walk.specs.Rendering.{is_text, written_within, inside_of}
use Rattle.htmd_walk.specs.Views.{output_view, answer_view, optional_result, result_view, results_view}
use Rattle.htmd_walk.specs.Walking.{occurrence_of, shown_occurrence, AtNode}
use Rattle.htmd_walk.proofs.RenderingLemmas.{unpreformatted}
use Rattle.htmd_walk.proofs.RememberingLemmas.{given-always, result_put}
use Rattle.htmd_walk.proofs.WalkingLemmas.{following, contents_more}
use Rattle.htmd_walk.proofs.WalkingLemmas.{text_alone, below_lower}
use Rattle.htmd_walk.proofs.dom_walker.Walk.+walk.Goals as goal
use Rattle.htmd_lexical.proofs.Cases.{test}

pub walk_alone-returns : goal.walk_alone-returns
walk_alone-returns g t c =
    let v = conversion_of (g.R.Registry.config c.args.self.now.registry.now) c.args.self.now.tree.now in
    let put : List ℕ → Bool → Output =
    λ s b. record { text = s; markdown_translated = b; definitions = c.args.links.now } in
    let start : put (string_bytes c.empty_result-out.result.content) c.empty_result-out.result.markdown_translated
    ≡ empty_output c.args.links.now =
    ap (λ s. put s c.empty_result-out.result.markdown_translated) c.empty_result-out.ensures.content
    ∙ ap (put []) c.empty_result-out.ensures.markdown_translated in
    let items = c.args.self.now.tree.now in
    let visit = c.alone-visit.result in
    let here = c.alone-visit.ensures in
    let there : ℕ → ℕ → Option (List ℕ) → Bool → Bool → Output → Output = λ n id joined p trim out.
    written_within n v (group_tree joined (tree_of items id)) (context_of (ancestors_of items id) p trim) out in
    let plain : (n : ℕ) → height (tree_of items c.args.node) ≤ n
    → there n c.args.node None visit.context.preformatted true (empty_output c.args.links.now)
    ≡ there n c.args.node None false true (empty_output c.args.links.now) =
    λ n h. test (is_text (data_at items c.args.node))
    (λ is. ap (λ p. there n c.args.node None p true (empty_output c.args.links.now)) (here.text is))
    (unpreformatted (g.R.Registry.config c.args.self.now.registry.now) items c.args.self.now.is_tree c.args.node
    c.requires.within n visit.context.preformatted true (empty_output c.args.links.now) h) in
    let begun = put (string_bytes c.empty_result-out.result.content) c.empty_result-out.result.markdown_translated in
    λ n h. c.in_ok-walk_node.ensures n (subst (λ d. height (tree_of items d) ≤ n) (sym here.node) h)
    ∙ ap (λ d. there n d (option_copied visit.joined) visit.context.preformatted visit.context.trim begun) here.node
    ∙ ap (λ j. there n c.args.node j visit.context.preformatted visit.context.trim begun) here.joined
    ∙ ap (λ b. there n c.args.node None visit.context.preformatted b begun) here.trim
    ∙ ap (there n c.args.node None visit.context.preformatted true) start
    ∙ plain n h

pub walk_descendant-returns : goal.walk_descendant-returns
walk_descendant-returns g t c =
    let v = conversion_of (g.R.Registry.config c.args.self.now.registry.now) c.args.self.now.tree.now in
    let put : List ℕ → Bool → Output =
    λ s b. record { text = s; markdown_translated = b; definitions = c.args.links.now } in
    let start : put (string_bytes c.empty_result-out.result.content) c.empty_result-out.result.markdown_translated
    ≡ empty_output c.args.links.now =
    ap (λ s. put s c.empty_result-out.result.markdown_translated) c.empty_result-out.ensures.content
    ∙ ap (put []) c.empty_result-out.ensures.markdown_translated in
    let written : List ℕ → List ℕ = λ s. s ++ written_text false false true s c.in-Some.text.now in
    λ n h.
    ap (λ s. put s c.empty_result-out.result.markdown_translated) (c.in_ok-append_text.ensures
    ∙ ap written c.empty_result-out.ensures.content)
    ∙ ap (put (written [])) c.empty_result-out.ensures.markdown_translated
    ∙ text_alone n v c.args.below c.in-Some.text.now
    (context_of (ancestors_of c.args.self.now.tree.now c.args.below) false true) c.args.links.now
    (let p = height_pos (tree_of c.args.self.now.tree.now c.args.below) in omega arith)
    ∙ (ap (λ j. content_alone (written_within n v) v (descendant_tree c.args.self.now.tree.now j c.args.below)
    c.args.below c.args.links.now) (sym (ap option_copied c.in-Some.is)))

pub walk_each-walk_kept-requires : goal.walk_each-walk_kept-requires
walk_each-walk_kept-requires g t c κs within =
    let low = below_lower c.args.self.now.tree.now c.args.self.now.tree.now c.args.element.now.node c.node-item.result
    c.args.self.now.is_tree refl (subst (λ (x : List Item). c.args.element.now.node < length x) c.requires.here.tree
    c.args.element.now.within)
    (subst (λ d. ∥ IsBelow c.args.self.now.tree.now c.args.element.now.node d ∥₁) (sym c.node-item.is)
    (c.requires.proper c.loop-node.node-index c.node-item.result c.loop-node-test.true)) in (
      search rules,
      (
        within,
        (search rules, (low.0, (low.1, c.loop-node.invariant.remembered))),
      ),
    )

pub walk_each-loop-node-preserved : goal.walk_each-loop-node-preserved
walk_each-loop-node-preserved g t c =
    let v = conversion_of (g.R.Registry.config c.args.self.now.registry.now) c.args.self.now.tree.now in
    let e = c.args.element.now in
    let at : ℕ → Occurrence = λ n. occurrence_of n v e in
    let low = below_lower c.args.self.now.tree.now c.args.self.now.tree.now c.args.element.now.node c.node-item.result
    c.args.self.now.is_tree refl (subst (λ (x : List Item). c.args.element.now.node < length x) c.requires.here.tree
    c.args.element.now.within)
    (subst (λ d. ∥ IsBelow c.args.self.now.tree.now c.args.element.now.node d ∥₁) (sym c.node-item.is)
    (c.requires.proper c.loop-node.node-index c.node-item.result c.loop-node-test.true)) in
    record {
      remembered = c.in_ok-result.ensures.remembered;
      rest = λ n l.
          let rest : List ResultView → Contents =
          λ rs. following rs (contents_alone (at n) (drop (c.loop-node.node-index + 1) c.args.nodes.now)
          c.walk_kept.new.links) in
          ap rest (ap results_view c.in_ok-push.ensures.items ∙ map-append result_view c.loop-node.results.items
          (c.in_ok-result.result ∷ []))
          ∙ contents_more (at n) c.args.nodes.now c.loop-node.node-index c.node-item.result
          (results_view c.loop-node.results.items) (output_view c.in_ok-result.result c.walk_kept.new.links)
          c.loop-node.links c.loop-node-test.true c.node-item.is
          (c.in_ok-result.ensures.ok n (omega (arith, low.2, l)))
          ∙ c.loop-node.invariant.rest n l;
    }

not_some : {A : Type 0} (o : Option A) → is_some o ≡ false → o ≡ None
not_some None e = refl
not_some (Some x) e = cc

pub walk_kept-keep-requires-clause-right : goal.walk_kept-keep-requires-clause-right
walk_kept-keep-requires-clause-right g t c as_many =
    let v = conversion_of (g.R.Registry.config c.args.self.now.registry.now) c.args.self.now.tree.now in
    let items = c.args.self.now.tree.now in
    let name = c.as_str.result.now in
    let attributes = pairs_of c.in-Element.attrs.items in
    let old = c.args.links.now in
    let new = c.walk_element.new.links in
    let is : data_at items c.args.below ≡ element_node name attributes =
    (sym c.data.ensures.value ∙ ap data_of c.in-Element.is)
    ∙ ap (λ s. element_node s attributes) (sym c.as_str.ensures) in
    let here = c.alone-visit.ensures in
    let shown = c.element-child.ensures in
    let answered : ℕ → Answer = λ m. answer_after 0 name (occurrence_at (written_within m v) v c.args.below
    (inside_of items c.args.below) (children_at items c.args.below)) old in
    let made : (m : ℕ) → height (tree_of items c.args.below) ≤ suc m
    → answer_view c.in_ok-given.given new ≡ answered m = λ m k.
    c.in_ok-given.ensures m (subst (λ d. height (tree_of items d) ≤ suc m) (sym (shown.node ∙ here.node)) k)
    ∙ ap (λ tag. answer_after 0 tag (occurrence_of m v c.element-child.result) old) shown.tag
    ∙ ap (λ at. answer_after 0 name at old) (shown.occurrence m
    ∙ ap (λ d. shown_occurrence m v d true (group_children (option_copied c.alone-visit.result.joined)
    (children_at items d))) here.node
    ∙ ap (λ j. shown_occurrence m v c.args.below true (group_children j (children_at items c.args.below)))
    here.joined) in
    let before : c.len-before.result ≡ length old =
    c.len-before.ensures ∙ c.links.inside.lines.ok.0 ∙ sym (length-map c.links.inside.lines.items string_bytes)
    ∙ ap length c.links.view_is in
    let after : c.len.result ≡ length new =
    c.len.ensures ∙ c.links-2.inside.lines.ok.0 ∙ sym (length-map c.links-2.inside.lines.items string_bytes)
    ∙ ap length c.links-2.view_is in
    given-always v c.element-child.ensures.stay c.args.below (optional_result c.in_ok-given.given) old new
    (sym after ∙ eqb-true c.len.result c.len-before.result as_many ∙ before)
    (λ m k. made m k
    ∙ ap (λ (d : Data). answer_after 0 (ancestor_of d).tag (occurrence_at (written_within m v) v c.args.below
    (inside_of items c.args.below) (children_at items c.args.below)) old) (sym is))

pub walk_kept-returns-clause-ok : goal.walk_kept-returns-clause-ok
walk_kept-returns-clause-ok g t c =
    let v = conversion_of (g.R.Registry.config c.args.self.now.registry.now) c.args.self.now.tree.now in
    let items = c.args.self.now.tree.now in
    let name = c.as_str.result.now in
    let attributes = pairs_of c.in-Element.attrs.items in
    let old = c.args.links.now in
    let new = c.walk_element.new.links in
    let is : data_at items c.args.below ≡ element_node name attributes =
    (sym c.data.ensures.value ∙ ap data_of c.in-Element.is)
    ∙ ap (λ s. element_node s attributes) (sym c.as_str.ensures) in
    let here = c.alone-visit.ensures in
    let shown = c.element-child.ensures in
    let answered : ℕ → Answer = λ m. answer_after 0 name (occurrence_at (written_within m v) v c.args.below
    (inside_of items c.args.below) (children_at items c.args.below)) old in
    let made : (m : ℕ) → height (tree_of items c.args.below) ≤ suc m
    → answer_view c.in_ok-given.given new ≡ answered m = λ m k.
    c.in_ok-given.ensures m (subst (λ d. height (tree_of items d) ≤ suc m) (sym (shown.node ∙ here.node)) k)
    ∙ ap (λ tag. answer_after 0 tag (occurrence_of m v c.element-child.result) old) shown.tag
    ∙ ap (λ at. answer_after 0 name at old) (shown.occurrence m
    ∙ ap (λ d. shown_occurrence m v d true (group_children (option_copied c.alone-visit.result.joined)
    (children_at items d))) here.node
    ∙ ap (λ j. shown_occurrence m v c.args.below true (group_children j (children_at items c.args.below)))
    here.joined) in
    let alone : tree_of items c.args.below
    ≡ descendant_tree items (option_copied c.args.element.now.text) c.args.below =
    sym (ap (λ j. descendant_tree items (option_copied j) c.args.below)
    (not_some c.args.element.now.text (sym c.is_some.ensures ∙ c.if-is_some.false))) in
    let inside : c.alone-visit.result.context.preformatted ≡ in_pre_or_code (ancestors_of items c.args.below) =
    here.here.context (ap (λ d. is_text (data_at items d)) here.node ∙ ap is_text is)
    ∙ ap (λ d. in_pre_or_code (ancestors_of items d)) here.node in
    IfOk-weaker c.result_alone.result _ (λ r. AtNode v c.args.below (λ write. output_view r new
    ≡ content_alone write v (descendant_tree items (option_copied c.args.element.now.text) c.args.below) c.args.below
    old)) (λ r p n h. p new
    ∙ result_put (g.R.Registry.config c.args.self.now.registry.now) items None c.data.ensures.tree c.args.below
    c.requires.within name attributes is (empty_output old) (optional_result c.in_ok-given.given) new made n false true
    c.alone-visit.result.context.preformatted h inside
    ∙ ap (λ tree. content_alone (written_within n v) v tree c.args.below old) alone) c.result_alone.ensures
