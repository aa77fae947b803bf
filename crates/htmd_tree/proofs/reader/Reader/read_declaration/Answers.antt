-- What is left to prove of `read_declaration`.
use Rattle.std.proofs.Common.{◌<◌, ◌∙◌, length, codes, ap, sym, arith}
use Rattle.std.proofs.lemmas.List.{length-drop}
use Rattle.htmd_values.specs.ValueTrees.{comment}
use Rattle.htmd_lexical.specs.CharacterClasses.{begins_with}
use Rattle.htmd_grammar.specs.HtmlDocuments.{above_body}
use Rattle.htmd_grammar.specs.ReaderSteps.{add}
use Rattle.htmd_tree.specs.Advances.{rules_of}
use Rattle.htmd_tree.proofs.CommentTextsLemmas.{comment_within, dashes_cut}
use Rattle.htmd_tree.proofs.TagAnswersLemmas.{shorter_follows}
use Rattle.htmd_tree.proofs.TagStepsLemmas.{add_within}
use Rattle.htmd_tree.proofs.reader.Reader.read_declaration.Goals as goal

pub returns-in_ok-text-in-Some-clause-shorter : goal.returns-in_ok-text-in-Some-clause-shorter
returns-in_ok-text-in-Some-clause-shorter c =
    let within = comment_within c.range_from.result.now c.in-Some.body.now c.in-Some.rest.now c.in-Some.ensures in
    let less : length c.in-Some.rest.now < length c.args.self.now.rest.now =
    omega (arith, within, c.requires.behind, ap length c.range_from.ensures.value, length-drop 2 c.args.behind.now) in
    shorter_follows c.args.self.now c.add_leaf.new.self c.add_leaf.result
    (λ fs. add (rules_of c.args.self.now) above_body fs (comment c.as_str.result.now) c.in-Some.rest.now)
    (length c.in-Some.rest.now) c.requires.reading c.add_leaf.ensures.follows
    (λ fs. add_within (rules_of c.args.self.now) above_body fs (comment c.as_str.result.now) c.in-Some.rest.now)
    less

pub range_from-requires : goal.range_from-requires
range_from-requires c = λ _.
    dashes_cut c.args.behind.now c.utf8.behind
    (ap (begins_with (codes "--")) (sym c.as_bytes.ensures.value) ∙ sym c.begins_dashes.ensures
    ∙ c.if-not-begins_dashes.false)
