-- What is left to prove of `read_text`.
use Rattle.std.proofs.Common.{◌≡◌, ◌∙◌, ℕ, List, length, subst, sym}
use Rattle.std.proofs.lemmas.Result.{err_from_is_err_and}
use Rattle.std.specs.String.{string_bytes}
use Rattle.htmd_values.specs.ValueTrees.{text}
use Rattle.htmd_grammar.specs.HtmlDocuments.{above_body}
use Rattle.htmd_grammar.specs.ReaderSteps.{add}
use Rattle.htmd_tree.specs.Advances.{rules_of}
use Rattle.htmd_tree.specs.OpenNodes.{innermost_name}
use Rattle.htmd_tree.specs.TextRuns.{TellsOfText}
use Rattle.htmd_tree.proofs.TagAnswersLemmas.{shorter_follows}
use Rattle.htmd_tree.proofs.TagStepsLemmas.{add_within}
use Rattle.htmd_tree.proofs.TextsLemmas.{text_goes_on, text_read, text_stops}
use Rattle.htmd_tree.proofs.reader.Reader.read_text.Goals as goal

pub returns-in_err-rest-clause-advances : goal.returns-in_err-rest-clause-advances
returns-in_err-rest-clause-advances c = λ has_doctype fs holds there.
    let p = err_from_is_err_and c.from_residual.result c.from_residual.ensures.1 in
    let name : c.as_bytes-name.result.now ≡ innermost_name fs =
    c.as_bytes-name.ensures.value ∙ c.innermost_name.ensures has_doctype fs holds in
    let around =
    subst (λ (n : List ℕ). TellsOfText c.args.self.now.scripting c.text_surroundings-around.result n fs) (sym name)
    (c.text_surroundings-around.ensures has_doctype fs holds there) in
    rw (p.1, p.2) (text_stops c.args.self.now c.args.self.now has_doctype fs c.in_err-rest.field-0.0
    (c.in_err-rest.ensures.steps c.args.self.now.scripting fs around
    (text_goes_on c.args.self.now c.text_surroundings-around.result c.as_bytes-name.result.now fs around there)))

pub returns-clause-advances : goal.returns-clause-advances
returns-clause-advances c = λ has_doctype fs holds there.
    let name : c.as_bytes-name.result.now ≡ innermost_name fs =
    c.as_bytes-name.ensures.value ∙ c.innermost_name.ensures has_doctype fs holds in
    let around =
    subst (λ (n : List ℕ). TellsOfText c.args.self.now.scripting c.text_surroundings-around.result n fs) (sym name)
    (c.text_surroundings-around.ensures has_doctype fs holds there) in
    let read = c.in_ok-rest.ensures.steps c.args.self.now.scripting fs around
    (text_goes_on c.args.self.now c.text_surroundings-around.result c.as_bytes-name.result.now fs around there) in
    text_read c.args.self.now c.add_leaf.new.self has_doctype fs c.add_leaf.result c.text_surroundings-around.result
    c.as_bytes-name.result.now (string_bytes c.read_run.new.run) c.in_ok-rest.rest.now around c.in_ok-rest.ensures.deep
    c.in_ok-rest.ensures.longer read.0 read.1
    (rw c.as_str.ensures.value at (c.add_leaf.ensures.follows has_doctype fs holds))

pub returns-clause-shorter : goal.returns-clause-shorter
returns-clause-shorter c =
    shorter_follows c.args.self.now c.add_leaf.new.self c.add_leaf.result
    (λ fs. add (rules_of c.args.self.now) above_body fs (text c.as_str.result.now) c.in_ok-rest.rest.now)
    (length c.in_ok-rest.rest.now) c.requires.reading c.add_leaf.ensures.follows
    (λ fs. add_within (rules_of c.args.self.now) above_body fs (text c.as_str.result.now) c.in_ok-rest.rest.now)
    c.in_ok-rest.ensures.shorter
