use Rattle.std.proofs.Common.{◌∙◌, []}
use Rattle.std.specs.Option.{option_copied}
use Rattle.std.proofs.lemmas.Result.{on_ok_weaker}
use Rattle.htmd_nodes.specs.NumberedTrees.{value_at}
use Rattle.htmd_selectors.specs.Rewriting.{unchanged}
use Rattle.htmd_selectors.specs.SelectedParts.{in_pre, end_of}
use Rattle.htmd_selectors.specs.SelectorStates.{kept_tree, nothing_known}
use Rattle.htmd_selectors.specs.Views.{pre_of}
use Rattle.htmd_selectors.proofs.SelectedPartsLemmas.{laid-next}
use Rattle.htmd_selectors.proofs.selection.push_match.Goals as goal

pub returns : goal.returns
returns c =
    let whole = kept_tree unchanged [] nothing_known 0 (value_at c.args.page.now.tree.now c.args.node) in
    on_ok_weaker c.push_end.result
    (λ e. e
    ∙ laid-next c.args.out.now c.push_in_pre.new.out 1 0 (in_pre (pre_of (option_copied c.args.pre)) whole)
    (end_of c.args.name.now) c.in_ok-push_in_pre.ensures) c.push_end.ensures
