-- The element stands in the `tbody` that it implies.
use Rattle.std.proofs.Common.{◌≡◌, true, refl, sym, ◌∙◌, codes}
use Rattle.std.specs.Str.{bytes_eq}
use Rattle.std.proofs.lemmas.Bool.{and_parts}
use Rattle.htmd_lexical.specs.Attributes.{pairs_of}
use Rattle.htmd_grammar.specs.Nesting.{is_row}
use Rattle.htmd_tree.specs.OpenNodes.{innermost_name}
use Rattle.htmd_tree.proofs.TagAnswersLemmas.{implied_follows}
use Rattle.htmd_tree.proofs.reader.Reader.place_tag.Goals as goal

pub returns-then-implies_body-clause-follows : goal.returns-then-implies_body-clause-follows
returns-then-implies_body-clause-follows c =
    λ has_doctype fs h.
    implied_follows c.args.self.now c.open_implied_body.new.self c.open_tag.new.self has_doctype fs c.open_tag.result
    c.args.name.now (pairs_of c.args.attrs.items) c.args.rest.now
    (sym (c.implies_body.ensures has_doctype fs h) ∙ c.if-implies_body.true)
    (c.in_ok-open_implied_body.ensures.follows has_doctype fs h) c.open_tag.ensures.follows

pub open_implied_body-requires-clause-table : goal.open_implied_body-requires-clause-table
open_implied_body-requires-clause-table c =
    λ has_doctype fs h.
    let e = and_parts (is_row c.args.name.now) (bytes_eq (innermost_name fs) (codes "table"))
    (sym (c.implies_body.ensures has_doctype fs h) ∙ c.if-implies_body.true) in
    let table : bytes_eq (innermost_name fs) (codes "table") ≡ true = e.1 in
    rw table refl
