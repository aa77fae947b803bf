-- One part of one node is written.
use Rattle.std.proofs.Common.{◌≡◌, ◌∙◌, ℕ, List, length, ap, arith, rules}
use Rattle.std.specs.Prelude.{insert}
use Rattle.htmd_html5_state.specs.Nodes.{NodeValue, place_index}
use Rattle.htmd_html5_state.specs.Views.{node_of, numbers_of}
use Rattle.htmd_html5_state.proofs.DocumentLemmas.{written}
use Rattle.htmd_html5_state.proofs.document.Document.put_child.Goals as goal

pub returns-in_ok-insert_child : goal.returns-in_ok-insert_child
returns-in_ok-insert_child c =
    let ns = c.self.inside.nodes.items in
    let len : c.len.result ≡ length ns = c.len.ensures ∙ search rules in
    let old = c.index_mut-node.result.now in
    let place = c.args.place in
    let child = c.args.child in
    written ns c.args.self.now place.parent old _
    (λ (x : NodeValue). record x { children = insert x.children (place_index place.next x.children) child })
    c.self.view_is
    (omega arith) c.index_mut-node.ensures.value
    (ap (λ (cs : List ℕ). record (node_of old) { children = cs }) (c.in_ok-insert_child.ensures
    ∙ ap (λ (n : ℕ). insert (numbers_of old.children) (place_index place.next (numbers_of old.children)) n)
    c.in_ok-child.ensures))
