-- One part of one node is written.
use Rattle.std.proofs.Common.{◌≡◌, ◌∙◌, ℕ, List, length, sym, ap, arith, rules}
use Rattle.std.specs.Prelude.{remove}
use Rattle.htmd_html5_state.specs.Nodes.{NodeValue, index_of, without_child}
use Rattle.htmd_html5_state.specs.Views.{node_of, numbers_of}
use Rattle.htmd_html5_state.proofs.DocumentLemmas.{written, remove_past}
use Rattle.htmd_html5_state.proofs.document.Document.remove_child.Goals as goal

pub returns-then-index-children : goal.returns-then-index-children
returns-then-index-children c =
    let ns = c.self.inside.nodes.items in
    let len : c.len.result ≡ length ns = c.len.ensures ∙ search rules in
    let old = c.index_mut-node.result.now in
    let index : c.index_of-index.result ≡ index_of c.args.child (numbers_of old.children) =
    c.index_of-index.ensures.place ∙ ap (index_of c.args.child) c.as_slice-children.ensures in
    let children : numbers_of c.remove.new.self ≡ without_child c.args.child (numbers_of old.children) =
    c.remove.ensures ∙ ap (λ i. remove (numbers_of old.children) i) index in
    written ns c.args.self.now c.args.parent old _
    (λ (x : NodeValue). record x { children = without_child c.args.child x.children }) c.self.view_is
    (omega arith) c.index_mut-node.ensures.value
    (ap (λ (cs : List ℕ). record (node_of old) { children = cs }) children)

pub returns-else-index-children : goal.returns-else-index-children
returns-else-index-children c =
    let ns = c.self.inside.nodes.items in
    let len : c.len.result ≡ length ns = c.len.ensures ∙ search rules in
    let old = c.index_mut-node.result.now in
    let index : c.index_of-index.result ≡ index_of c.args.child (numbers_of old.children) =
    c.index_of-index.ensures.place ∙ ap (index_of c.args.child) c.as_slice-children.ensures in
    let many : length c.as_slice-children.result.now ≡ length (numbers_of old.children) =
    ap length c.as_slice-children.ensures in
    let children : numbers_of old.children ≡ without_child c.args.child (numbers_of old.children) =
    sym (remove_past (numbers_of old.children) (index_of c.args.child (numbers_of old.children)) (omega arith)) in
    written ns c.args.self.now c.args.parent old _
    (λ (x : NodeValue). record x { children = without_child c.args.child x.children }) c.self.view_is
    (omega arith) c.index_mut-node.ensures.value
    (ap (λ (cs : List ℕ). record (node_of old) { children = cs }) children)
