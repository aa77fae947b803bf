-- What is left is shorter.
use Rattle.std.proofs.Common.{◌<◌, length, ap, arith, length-drop}
use Rattle.htmd_lexical.specs.WhiteSpace.{is_ascii_white_space}
use Rattle.htmd_lexical.specs.CharacterClasses.{is_tag_name_byte}
use Rattle.htmd_grammar.specs.HtmlDocuments.{above_body}
use Rattle.htmd_grammar.specs.ReaderSteps.{close_step}
use Rattle.htmd_tree.specs.Advances.{rules_of}
use Rattle.htmd_lexical.proofs.RunsLemmas.{behind_within}
use Rattle.htmd_tree.proofs.TagStepsLemmas.{close_within}
use Rattle.htmd_tree.proofs.TagAnswersLemmas.{shorter_follows}
use Rattle.htmd_tree.proofs.reader.Reader.read_end_tag.Goals as goal

pub returns-clause-shorter : goal.returns-clause-shorter
returns-clause-shorter c =
    let old = c.args.self.now in
    let name = c.as_str-2.result.now in
    let rest = c.in-Some-strip_byte.rest.now in
    let a = behind_within is_tag_name_byte c.args.behind.now in
    let b = behind_within is_ascii_white_space c.in-Some.behind_name.now in
    let d = length-drop 1 c.split_run.result.1.now in
    let e = ap length c.in-Some.ensures.2 in
    let f = ap length c.split_run.ensures.rest in
    let g = ap length c.in-Some-strip_byte.ensures.1 in
    let l : length rest < length old.rest.now = omega arith in
    shorter_follows old c.close_tag.new.self c.close_tag.result
    (λ fs. close_step (rules_of old) above_body fs name rest) (length rest) c.requires.reading
    c.close_tag.ensures.follows (λ fs. close_within (rules_of old) above_body fs name rest) l
