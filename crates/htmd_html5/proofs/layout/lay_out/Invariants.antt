-- What is left to lay out is what was at first.
use Rattle.htmd_nodes.specs.Items.{greatest_depth}
use Rattle.htmd_html5_state.specs.Views.{nodes_of}
use Rattle.htmd_html5.specs.Layout.{first_layout}
use Rattle.htmd_html5.specs.LayoutViews.{layout_of, AllMayHold}
use Rattle.htmd_html5.proofs.LayoutLemmas.{Lays}
use Rattle.htmd_html5.proofs.layout.lay_out.Given as goal

abbrev pub invariant-loop-node : goal.invariant-loop-node
invariant-loop-node l = record {
  lays : Lays greatest_depth (first_layout (nodes_of l.fn.nodes.items)) (layout_of l.layout) l._node l.count;
  holds : AllMayHold l.layout.tree l.layout.coming.items;
}
