-- A child stands in the tree.
use Rattle.std.proofs.Common.{◌≡◌, ◌∙◌, sym, ap, Some}
use Rattle.std.specs.List.{slice_get}
use Rattle.std.specs.Option.{option_copied}
use Rattle.std.proofs.lemmas.Option.{slice_get_within, get_or_from_slice_get}
use Rattle.htmd_nodes.proofs.ItemsLemmas.{child_read}
use Rattle.htmd_test_converter.proofs.handlers.first_child_or.Goals as goal

pub returns-in-Some-clause-within : goal.returns-in-Some-clause-within
returns-in-Some-clause-within c =
    let ids = c.children.result.now in
    let id = c.in-Some.child.now in
    let e : slice_get ids 0 ≡ Some id = sym c.first.ensures.value ∙ ap option_copied c.in-Some.is in
    (child_read c.args.tree.now c.args.node ids 0 id c.children.ensures.tree c.requires c.children.ensures.value
    (slice_get_within ids 0 id e) (sym (get_or_from_slice_get ids 0 id id e))).1
