-- One part of one node is written.
use Rattle.std.proofs.Common.{◌≡◌, ◌∙◌, ℕ, List, [], length, ap, arith, rules}
use Rattle.htmd_html5_state.specs.Nodes.{NodeValue}
use Rattle.htmd_html5_state.specs.Views.{node_of, numbers_of}
use Rattle.htmd_html5_state.proofs.DocumentLemmas.{written}
use Rattle.htmd_html5_state.proofs.document.Document.take_children.Goals as goal

pub returns-clause-rest : goal.returns-clause-rest
returns-clause-rest c =
    let ns = c.self.inside.nodes.items in
    let len : c.len.result ≡ length ns = c.len.ensures ∙ search rules in
    let old = c.index_mut-node.result.now in
    let children : numbers_of c.replace.new.dest ≡ [] = ap numbers_of c.replace.ensures.after in
    written ns c.args.self.now c.args.node old _ (λ (x : NodeValue). record x { children = [] }) c.self.view_is
    (omega arith) c.index_mut-node.ensures.value
    (ap (λ (cs : List ℕ). record (node_of old) { children = cs }) children)
