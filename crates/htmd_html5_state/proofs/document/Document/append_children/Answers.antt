-- One part of one node is written.
use Rattle.std.proofs.Common.{◌≡◌, ◌∙◌, ◌++◌, ℕ, List, length, ap, arith, rules}
use Rattle.htmd_html5_state.specs.Nodes.{NodeValue}
use Rattle.htmd_html5_state.specs.Views.{node_of}
use Rattle.htmd_html5_state.proofs.DocumentLemmas.{written}
use Rattle.htmd_html5_state.proofs.document.Document.append_children.Goals as goal

pub returns-in_ok-extend : goal.returns-in_ok-extend
returns-in_ok-extend c =
    let ns = c.self.inside.nodes.items in
    let len : c.len.result ≡ length ns = c.len.ensures ∙ search rules in
    let old = c.index_mut-node.result.now in
    written ns c.args.self.now c.args.node old _
    (λ (x : NodeValue). record x { children = x.children ++ c.args.children.now }) c.self.view_is (omega arith)
    c.index_mut-node.ensures.value
    (ap (λ (cs : List ℕ). record (node_of old) { children = cs }) c.in_ok-extend.ensures)
