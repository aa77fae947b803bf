-- What the loop of `first_body` keeps, and what goes down.
use Rattle.std.proofs.Common.{◌≡◌, ◌+◌, ◌-◌, ◌*◌, length, drop}
use Rattle.htmd_nodes.specs.Items.{children_of}
use Rattle.htmd_nodes.specs.NumberedTrees.{tree_of, forest_of, value_forest}
use Rattle.htmd_article.specs.Parts.{first_body}
use Rattle.htmd_article.proofs.parts.+body.Given as goal

-- children come after their parent
abbrev pub decreases-first_body : goal.decreases-first_body
decreases-first_body l = (length l.tree.now - (l.id + 1)) * 2 + 1

abbrev pub decreases-body_in : goal.decreases-body_in
decreases-body_in l = (length l.tree.now - l.id) * 2

abbrev pub invariant-first_body-loop-child : goal.invariant-first_body-loop-child
invariant-first_body-loop-child l = record {
  items : l.child-items ≡ children_of l.tree l.fn.id;
  rest : first_body (value_forest (forest_of (tree_of l.tree) (drop l.child-index l.child-items)))
      ≡ first_body (value_forest (forest_of (tree_of l.tree) l.child-items));
}
