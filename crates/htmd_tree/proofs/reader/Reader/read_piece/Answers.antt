-- What is left to prove of `read_piece`.
use Rattle.std.proofs.Common.{◌∷◌, ◌∙◌, sym}
use Rattle.htmd_tree.specs.OpenNodes.{innermost_name}
use Rattle.htmd_tree.proofs.PiecesLemmas.{markup_begins, markup_advances, raw_text_advances, text_advances}
use Rattle.htmd_tree.proofs.PiecesLemmas.{raw_text_shorter, raw_text_at}
use Rattle.htmd_tree.proofs.reader.Reader.read_piece.Goals as goal

pub read_markup-requires-clause-markup : goal.read_markup-requires-clause-markup
read_markup-requires-clause-markup c =
    let s = c.close_implied_body.new.self in
    let r = c.close_implied_body.ensures.reading in
    markup_begins s.scripting (innermost_name (r.1 ∷ r.2)) s.rest.now
    (sym (c.is_at_markup.ensures (r.0) (r.1 ∷ r.2) (r.3)) ∙ c.if-is_at_markup.true)

pub returns-then-is_at_markup-clause-advances : goal.returns-then-is_at_markup-clause-advances
returns-then-is_at_markup-clause-advances c = λ has_doctype fs h.
    let s = c.close_implied_body.ensures.implied_is_closed has_doctype fs h in
    markup_advances c.args.self.now c.close_implied_body.new.self c.read_markup.new.self has_doctype fs
    c.read_markup.result s c.close_implied_body.ensures.rest c.requires.more
    (sym (c.is_at_markup.ensures has_doctype s.opened s.holds) ∙ c.if-is_at_markup.true)
    (c.read_markup.ensures.follows has_doctype s.opened s.holds)

pub returns-then-top-clause-advances : goal.returns-then-top-clause-advances
returns-then-top-clause-advances c = λ has_doctype fs h.
    let s = c.close_implied_body.ensures.implied_is_closed has_doctype fs h in
    let raw =
    sym (raw_text_at c.close_implied_body.new.self has_doctype s.opened c.top.result c.top.ensures.top s.holds)
    ∙ c.if-top.true in
    raw_text_advances c.args.self.now c.close_implied_body.new.self c.read_raw_text.new.self has_doctype fs
    c.read_raw_text.result s c.close_implied_body.ensures.rest c.requires.more
    (sym (c.is_at_markup.ensures has_doctype s.opened s.holds) ∙ c.if-is_at_markup.false) raw
    (c.read_raw_text.ensures.follows has_doctype s.opened s.holds raw)

pub returns-then-top-clause-shorter : goal.returns-then-top-clause-shorter
returns-then-top-clause-shorter c =
    let r = c.close_implied_body.ensures.reading in
    let raw = sym (raw_text_at c.close_implied_body.new.self (r.0) (r.1 ∷ r.2) c.top.result c.top.ensures.top (r.3))
    ∙ c.if-top.true in
    raw_text_shorter c.args.self.now c.close_implied_body.new.self c.read_raw_text.new.self (r.0) (r.1 ∷ r.2)
    c.read_raw_text.result c.close_implied_body.ensures.rest c.requires.more
    (sym (c.is_at_markup.ensures (r.0) (r.1 ∷ r.2) (r.3)) ∙ c.if-is_at_markup.false)
    (c.read_raw_text.ensures.follows (r.0) (r.1 ∷ r.2) (r.3) raw)

pub returns-else-top-clause-advances : goal.returns-else-top-clause-advances
returns-else-top-clause-advances c = λ has_doctype fs h.
    let s = c.close_implied_body.ensures.implied_is_closed has_doctype fs h in
    text_advances c.args.self.now c.close_implied_body.new.self c.read_text.new.self has_doctype fs
    c.read_text.result s c.close_implied_body.ensures.rest c.requires.more
    (sym (c.is_at_markup.ensures has_doctype s.opened s.holds) ∙ c.if-is_at_markup.false)
    (sym (raw_text_at c.close_implied_body.new.self has_doctype s.opened c.top.result c.top.ensures.top s.holds)
    ∙ c.if-top.false)
    (λ t. c.read_text.ensures.advances has_doctype s.opened s.holds t)
