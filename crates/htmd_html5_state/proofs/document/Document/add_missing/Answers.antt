-- One part of one node is written.
use Rattle.std.proofs.Common.{◌≡◌, ◌∙◌, length, ap, arith, rules}
use Rattle.htmd_lexical.specs.Attributes.{pairs_of}
use Rattle.htmd_html5_state.specs.Nodes.{NodeValue, KindValue, kind_with_missing}
use Rattle.htmd_html5_state.specs.Views.{node_of}
use Rattle.htmd_html5_state.proofs.DocumentLemmas.{written}
use Rattle.htmd_html5_state.proofs.document.Document.add_missing.Goals as goal

pub returns-in_ok-add_missing : goal.returns-in_ok-add_missing
returns-in_ok-add_missing c =
    let ns = c.self.inside.nodes.items in
    let len : c.len.result ≡ length ns = c.len.ensures ∙ search rules in
    let old = c.index_mut-node.result.now in
    written ns c.args.self.now c.args.node old _
    (λ (x : NodeValue). record x { kind = kind_with_missing (pairs_of c.args.attributes.items) x.kind })
    c.self.view_is (omega arith) c.index_mut-node.ensures.value
    (ap (λ (k : KindValue). record (node_of old) { kind = k }) c.in_ok-add_missing.ensures)
