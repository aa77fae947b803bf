-- The innermost open element has the name and isn't the outermost.
use Rattle.std.proofs.Common.{◌≡◌, ◌≤◌, true, length, sym, ◌∙◌, arith, rules}
use Rattle.std.specs.Str.{bytes_eq}
use Rattle.std.proofs.lemmas.Bool.{not-false}
use Rattle.htmd_tree.proofs.TagAnswersLemmas.{closed_follows}
use Rattle.htmd_tree.proofs.reader.Reader.close_tag.Goals as goal

pub returns-clause-follows : goal.returns-clause-follows
returns-clause-follows c =
    λ has_doctype fs h.
    let m : c.len.result ≡ length c.args.self.now.stack.items = search rules in
    let l : 2 ≤ length c.args.self.now.stack.items = omega arith in
    let e : bytes_eq c.innermost_name.result.now c.args.name.now ≡ true =
    not-false _ (sym c.ne.ensures ∙ c.if-ne.false) in
    closed_follows c.args.self.now c.close_element.new.self has_doctype fs c.innermost_name.result.now
    c.args.name.now c.args.rest.now h l (c.innermost_name.ensures has_doctype fs h) e c.close_element.ensures.holds
    c.close_element.ensures.rest c.close_element.ensures.scripting
