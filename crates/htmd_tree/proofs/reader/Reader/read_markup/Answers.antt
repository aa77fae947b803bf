-- An end tag.
use Rattle.std.proofs.Common.{drop, ◌∙◌, ap}
use Rattle.htmd_grammar.specs.HtmlDocuments.{above_body}
use Rattle.htmd_tree.proofs.TagStepsLemmas.{end_tag_begins}
use Rattle.htmd_tree.proofs.TagAnswersLemmas.{same_follows}
use Rattle.htmd_tree.proofs.reader.Reader.read_markup.Goals as goal

pub returns-in-Some-clause-follows : goal.returns-in-Some-clause-follows
returns-in-Some-clause-follows c =
    λ has_doctype fs h.
    same_follows c.args.self.now c.read_end_tag.new.self has_doctype c.read_end_tag.result _ _
    (end_tag_begins c.args.self.now.scripting above_body fs (drop 1 c.args.self.now.rest.now) c.in-Some.name.now
    (rw c.behind_first-behind.ensures at c.in-Some.ensures.0)
    (c.in-Some.ensures.1 ∙ ap (drop 1) c.behind_first-behind.ensures))
    (c.read_end_tag.ensures.follows has_doctype fs h)
