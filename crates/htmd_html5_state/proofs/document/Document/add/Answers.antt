-- A node is added with its parent, which then has it as a child.
use Rattle.std.proofs.Common.{◌≡◌, ◌∙◌, ◌<◌, ◌∷◌, ◌++◌, [], List, OnOk, Some, length, sym, subst, ap, arith, rules}
use Rattle.std.proofs.lemmas.List.{length-map}
use Rattle.htmd_html5_state.specs.Nodes.{NodeValue, add, new_node, put_child}
use Rattle.htmd_html5_state.specs.Views.{kind_of, node_of}
use Rattle.htmd_html5_state.proofs.DocumentLemmas.{added_under}
use Rattle.htmd_html5_state.proofs.document.Document.add.Goals as goal

pub returns-clause-ok : goal.returns-clause-ok
returns-clause-ok c =
    let ns = c.self.inside.nodes.items in
    let nodes : List NodeValue = c.args.self.now in
    let place = c.args.place in
    let kind = kind_of c.args.kind in
    let len : c.len-number.result ≡ length ns = c.len-number.ensures ∙ search rules in
    let number : c.len-number.result ≡ length nodes =
    len ∙ (sym (length-map ns node_of) ∙ ap length c.self.view_is) in
    let within : place.parent < length nodes = omega (arith, number) in
    let child : c.put_child.new.self ≡ put_child (length nodes) place nodes =
    c.in_ok-put_child.ensures ∙ ap (λ n. put_child n place nodes) number in
    let same : c.put_child.new.self ++ record (new_node kind) { parent = Some c.in_ok-parent.parent } ∷ []
    ≡ add kind place nodes =
    ap (λ (x : List NodeValue). x ++ record (new_node kind) { parent = Some c.in_ok-parent.parent } ∷ []) child
    ∙ (ap (λ p. put_child (length nodes) place nodes ++ record (new_node kind) { parent = Some p } ∷ [])
    c.in_ok-parent.ensures ∙ added_under nodes kind place within) in
    subst (λ (x : List NodeValue). OnOk c.push_under.result (c.push_under.new.self ≡ x)) same c.push_under.ensures.ok
