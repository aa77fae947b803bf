-- What is left to prove of `close_implied_body`.
use Rattle.std.proofs.Common.{◌≡◌, false, ◌&&◌, ◌∙◌, sym, ap}
use Rattle.std.proofs.lemmas.Bool.{not-true, not-false}
use Rattle.htmd_grammar.specs.ReaderSteps.{ends_rows}
use Rattle.htmd_tree.proofs.PiecesLemmas.{settled_open, settled_closed, implied_is_inner}
use Rattle.htmd_tree.proofs.reader.Reader.close_implied_body.Goals as goal

pub returns-then-not-top-clause-implied_is_closed : goal.returns-then-not-top-clause-implied_is_closed
returns-then-not-top-clause-implied_is_closed c = λ has_doctype fs h.
    settled_open c.args.self.now has_doctype fs c.top.result h c.top.ensures.top
    (ap (λ b. b && ends_rows c.args.self.now.rest.now) (not-true c.top.result.implied c.if-not-top.true))

pub close_element-requires-clause-inner : goal.close_element-requires-clause-inner
close_element-requires-clause-inner c =
    implied_is_inner c.args.self.now c.top.result c.requires.reading c.top.ensures.top
    (not-false c.top.result.implied c.if-not-top.false)

pub returns-then-ends_rows-clause-implied_is_closed : goal.returns-then-ends_rows-clause-implied_is_closed
returns-then-ends_rows-clause-implied_is_closed c = λ has_doctype fs h.
    settled_closed c.args.self.now c.close_element.new.self has_doctype fs c.top.result h c.top.ensures.top
    (not-false c.top.result.implied c.if-not-top.false)
    (ap ends_rows (sym c.as_bytes.ensures.value) ∙ (sym c.ends_rows.ensures ∙ c.if-ends_rows.true))
    c.close_element.ensures.holds c.close_element.ensures.scripting

pub returns-else-ends_rows-clause-implied_is_closed : goal.returns-else-ends_rows-clause-implied_is_closed
returns-else-ends_rows-clause-implied_is_closed c = λ has_doctype fs h.
    let e : ends_rows c.args.self.now.rest.now ≡ false =
    ap ends_rows (sym c.as_bytes.ensures.value) ∙ (sym c.ends_rows.ensures ∙ c.if-ends_rows.false) in
    settled_open c.args.self.now has_doctype fs c.top.result h c.top.ensures.top
    (ap (λ b. b && ends_rows c.args.self.now.rest.now) (not-false c.top.result.implied c.if-not-top.false) ∙ e)
