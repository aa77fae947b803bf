-- The children so far are texts.
use Rattle.std.proofs.Common.{◌≡◌, drop}
use Rattle.std.specs.List.{list_all}
use Rattle.htmd_nodes.specs.Items.{data_at}
use Rattle.htmd_walk.specs.Rendering.{is_text}
use Rattle.htmd_walk.proofs.element_handler.code.holds_texts_alone.Given as goal

abbrev pub invariant-loop-child : goal.invariant-loop-child
invariant-loop-child l =
    list_all (λ child. is_text (data_at l.element.tree.now child)) (drop l.child-index l.child-items)
    ≡ list_all (λ child. is_text (data_at l.element.tree.now child)) l.child-items
