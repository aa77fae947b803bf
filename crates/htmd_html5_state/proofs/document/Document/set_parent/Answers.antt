-- One part of one node is written.
use Rattle.std.proofs.Common.{◌≡◌, ◌∙◌, length, refl, arith, rules}
use Rattle.htmd_html5_state.specs.Nodes.{NodeValue}
use Rattle.htmd_html5_state.proofs.DocumentLemmas.{written}
use Rattle.htmd_html5_state.proofs.document.Document.set_parent.Goals as goal

pub returns-then-node-len : goal.returns-then-node-len
returns-then-node-len c =
    let ns = c.self.inside.nodes.items in
    let len : c.len.result ≡ length ns = c.len.ensures ∙ search rules in
    let old = c.index_mut-node.result.now in
    written ns c.args.self.now c.args.node old _
    (λ (x : NodeValue). record x { parent = c.args.parent }) c.self.view_is
    (omega arith) c.index_mut-node.ensures.value refl
