-- What is left to prove of `add_leaf`.
use Rattle.std.proofs.Common.{◌∷◌, refl}
use Rattle.htmd_grammar.specs.HtmlDocuments.{above_body}
use Rattle.htmd_grammar.specs.ReaderSteps.{add}
use Rattle.htmd_tree.specs.NewNodes.{data_of_new}
use Rattle.htmd_tree.specs.Advances.{rules_of, leaf}
use Rattle.htmd_tree.proofs.AdvancesLemmas.{leaf_follows, reading_after}
use Rattle.htmd_tree.proofs.reader.Reader.add_leaf.Goals as goal

pub returns-clause-follows : goal.returns-clause-follows
returns-clause-follows c = λ has_doctype fs h.
    leaf_follows c.args.self.now c.add_node.new.self (record c.add_node.new.self { rest = c.args.rest }) has_doctype fs
    (data_of_new c.args.node) c.in_ok-add_node.field-0 c.args.rest.now h c.requires.leaf
    (c.in_ok-add_node.ensures.ok has_doctype fs h) refl c.in_ok-add_node.ensures.stack refl
    c.in_ok-add_node.ensures.scripting

pub returns-clause-reading : goal.returns-clause-reading
returns-clause-reading c =
    let r = c.requires.reading in
    reading_after c.args.self.now (record c.add_node.new.self { rest = c.args.rest }) (r.0)
    (add (rules_of c.args.self.now) above_body (r.1 ∷ r.2) (leaf (data_of_new c.args.node)) c.args.rest.now)
    (leaf_follows c.args.self.now c.add_node.new.self (record c.add_node.new.self { rest = c.args.rest }) (r.0)
    (r.1 ∷ r.2) (data_of_new c.args.node) c.in_ok-add_node.field-0 c.args.rest.now (r.3) c.requires.leaf
    (c.in_ok-add_node.ensures.ok (r.0) (r.1 ∷ r.2) (r.3)) refl c.in_ok-add_node.ensures.stack refl
    c.in_ok-add_node.ensures.scripting)
