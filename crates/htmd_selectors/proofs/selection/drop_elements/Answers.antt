use Rattle.std.proofs.Common.{◌≡◌, length, replicate, ◌∙◌, ap}
use Rattle.htmd_selectors.specs.SelectorStates.{no_state}
use Rattle.htmd_selectors.specs.SelectedParts.{dropped}
use Rattle.htmd_selectors.specs.Views.{steps_of}
use Rattle.htmd_selectors.specs.declared.selectors.Step.{Step}
use Rattle.std.proofs.Common.{List}
use Rattle.htmd_selectors.proofs.PagesLemmas.{dropped-is}
use Rattle.htmd_selectors.proofs.selection.drop_elements.Goals as goal

pub returns : goal.returns
returns c =
    let outside : c.in_ok-states.states.items ≡ replicate (length c.as_slice-steps.result.now) no_state =
    c.in_ok-states.ensures.items_if_clones_equal (λ y k. k) in
    record {
      ok =
          dropped-is c.args.tree.now c.as_slice-steps.result.now c.as_slice.result.now c.root.ensures.tree
          (c.as_slice.ensures.value ∙ outside) c.in_ok-out.out c.push_kept.new.out c.root.result
          c.in_ok-out.ensures c.root.ensures.value c.root-under.result c.root-under.ensures.value
          c.in_ok-push_kept.ensures
          ∙ ap (λ (s : List Step). dropped (steps_of s) c.args.tree.now) c.as_slice-steps.ensures.value;
    }
