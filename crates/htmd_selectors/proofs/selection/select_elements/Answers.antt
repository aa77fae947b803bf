use Rattle.std.proofs.Common.{rules, ◌≡◌, eqb, length, replicate, ◌∙◌, ap, sym, List, Some, true, false, []}
use Rattle.htmd_nodes.specs.Items.{Item, children_of}
use Rattle.htmd_nodes.specs.Layout.{document_items}
use Rattle.htmd_nodes.specs.NumberedTrees.{value_at}
use Rattle.htmd_values.specs.ValueTrees.{ValueForest}
use Rattle.htmd_selectors.specs.SelectorStates.{no_state}
use Rattle.htmd_selectors.specs.Rewriting.{children_of_document}
use Rattle.htmd_selectors.specs.SelectedParts.{selected, one_document, outermost}
use Rattle.htmd_selectors.specs.Views.{steps_of}
use Rattle.htmd_selectors.specs.declared.selectors.Step.{Step}
use Rattle.htmd_selectors.proofs.PagesLemmas.{outermost-laid, page-none, page-some}
use Rattle.htmd_selectors.proofs.selection.select_elements.Goals as goal

pub returns-then-is_empty : goal.returns-then-is_empty
returns-then-is_empty c =
    let steps = c.as_slice-steps.result.now in
    let outside : c.in_ok-states.states.items ≡ replicate (length steps) no_state =
    c.in_ok-states.ensures.items_if_clones_equal (λ y k. k) in
    let laid = outermost-laid c.args.tree.now steps c.as_slice.result.now c.root.ensures.tree
    (c.as_slice.ensures.value ∙ outside) c.in_ok-out.out c.push_outermost.new.out c.root.result
    c.in_ok-out.ensures c.root.ensures.value c.in_ok-push_outermost.ensures in
    let forest : ValueForest =
    one_document (outermost (steps_of steps) [] [] (children_of_document (value_at c.args.tree.now 0))) in
    let empty : eqb (length (children_of c.push_outermost.new.out 0)) 0 ≡ true = search rules in
    let none : eqb (length (children_of (document_items forest) 0)) 0 ≡ true =
    ap (λ (x : List Item). eqb (length (children_of x 0)) 0) (sym laid) ∙ empty in
    record {
      ok =
          page-none forest none
          ∙ ap (λ (s : List Step). selected (steps_of s) c.args.tree.now) c.as_slice-steps.ensures.value;
    }

pub returns : goal.returns
returns c =
    let steps = c.as_slice-steps.result.now in
    let outside : c.in_ok-states.states.items ≡ replicate (length steps) no_state =
    c.in_ok-states.ensures.items_if_clones_equal (λ y k. k) in
    let laid = outermost-laid c.args.tree.now steps c.as_slice.result.now c.root.ensures.tree
    (c.as_slice.ensures.value ∙ outside) c.in_ok-out.out c.push_outermost.new.out c.root.result
    c.in_ok-out.ensures c.root.ensures.value c.in_ok-push_outermost.ensures in
    let forest : ValueForest =
    one_document (outermost (steps_of steps) [] [] (children_of_document (value_at c.args.tree.now 0))) in
    let filled : eqb (length (children_of c.push_outermost.new.out 0)) 0 ≡ false = search rules in
    let some : eqb (length (children_of (document_items forest) 0)) 0 ≡ false =
    ap (λ (x : List Item). eqb (length (children_of x 0)) 0) (sym laid) ∙ filled in
    record {
      ok =
          ap (λ (x : List Item). Some x) laid ∙ (page-some forest some
          ∙ ap (λ (s : List Step). selected (steps_of s) c.args.tree.now) c.as_slice-steps.ensures.value);
    }
