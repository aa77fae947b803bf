-- One part of one node is written.
use Rattle.std.proofs.Common.{◌≡◌, ◌∙◌, List, length, refl, ap, arith, rules}
use Rattle.htmd_html5_state.specs.Nodes.{NodeValue, document}
use Rattle.htmd_html5_state.specs.Views.{kind_of, node_of, nodes_of}
use Rattle.htmd_html5_state.specs.declared.document.NodeKind.{NodeKind}
use Rattle.htmd_html5_state.proofs.DocumentLemmas.{written}
use Rattle.htmd_html5.specs.LayoutViews.{layout_of}
use Rattle.htmd_html5.proofs.layout.Layout.take_kind.Goals as goal

pub returns-clause-value : goal.returns-clause-value
returns-clause-value c =
    let ns = c.args.self.now.nodes.items in
    let len : c.len.result ≡ length ns = c.len.ensures ∙ search rules in
    let old = c.index_mut-node.result.now in
    ap (λ (nodes : List NodeValue). record (layout_of c.args.self.now) { nodes = nodes })
    (written ns (nodes_of ns) c.args.node old _ (λ (x : NodeValue). record x { kind = document }) refl (omega arith)
    c.index_mut-node.ensures.value
    (ap (λ (k : NodeKind). record (node_of old) { kind = kind_of k }) c.replace.ensures.after))
