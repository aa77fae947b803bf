-- What is left to prove of `open_node`.
use Rattle.std.proofs.Common.{◌∷◌, [], ◌++◌, ◌∙◌, ap, refl}
use Rattle.htmd_grammar.specs.HtmlDocuments.{above_body}
use Rattle.htmd_grammar.specs.ReaderSteps.{names_of}
use Rattle.htmd_lexical.specs.Attributes.{pairs_of}
use Rattle.htmd_tree.specs.declared.reader.OpenNode.{OpenNode}
use Rattle.htmd_tree.proofs.AdvancesLemmas.{opened_follows, top_at}
use Rattle.htmd_tree.proofs.reader.Reader.open_node.Goals as goal

pub returns-clause-follows : goal.returns-clause-follows
returns-clause-follows c = λ has_doctype fs h.
    let old = c.args.self.now in
    let o : OpenNode =
    record { id = c.in_ok-id.id; implied = c.args.implied; surroundings = c.inner-surroundings.result } in
    let flags = c.inner-surroundings.ensures c.args.name.now (names_of above_body fs) c.requires.known
    ((top_at old has_doctype fs c.top.result c.top.ensures.top h).1) in
    opened_follows old c.add_node.new.self (record c.add_node.new.self { stack = c.push.new.self }) has_doctype fs
    c.args.name.now (pairs_of c.args.attrs.items) c.args.implied o h (c.requires.may_open has_doctype fs h)
    (c.in_ok-id.ensures.ok has_doctype fs h) refl flags refl
    (c.in_ok-push.ensures.items ∙ ap (λ y. y ++ o ∷ []) c.in_ok-id.ensures.stack) c.in_ok-id.ensures.rest
    c.in_ok-id.ensures.scripting
