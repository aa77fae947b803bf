use Rattle.std.proofs.Common.{◌≡◌, map}
use Rattle.htmd_markdown.specs.Lists.{block_of}
use Rattle.htmd_nodes.specs.Items.{tag_of, data_at}
use Rattle.htmd_walk.specs.Lists.{block_of_child}
use Rattle.htmd_walk.specs.Views.{result_view}
use Rattle.htmd_walk.proofs.element_handler.list.list_blocks.Given as goal

abbrev pub invariant-loop-child : goal.invariant-loop-child
invariant-loop-child l =
    map block_of l.blocks.items
    ≡ map (λ p. block_of_child (tag_of (data_at l.tree p.0.now)) (result_view p.1).content) l.yielded
