use Rattle.std.proofs.Common.{◌∙◌, sym, ap}
use Rattle.htmd_flow.specs.Languages.{first_name, after_beginning}
use Rattle.htmd_flow.proofs.ListsLemmas.{map_end}
use Rattle.htmd_flow.proofs.LanguagesLemmas.{after_found, after_passed}
use Rattle.htmd_flow.proofs.language.after_beginning.Goals as goal

pub returns-then-not-is_empty : goal.returns-then-not-is_empty
returns-then-not-is_empty c =
    after_found c.args.beginnings.now c.loop-beginning.beginning-index _ c.args.word.now c.rest_of-rest.result.now
    c.is_empty.result _ c.loop-beginning-test.true c.rest_of-rest.ensures c.is_empty.ensures c.if-not-is_empty.true
    c.loop-beginning.invariant

pub loop-beginning-preserved : goal.loop-beginning-preserved
loop-beginning-preserved c =
    after_passed c.args.beginnings.now c.loop-beginning.beginning-index _ c.args.word.now c.rest_of-rest.result.now
    c.is_empty.result _ c.loop-beginning-test.true c.rest_of-rest.ensures c.is_empty.ensures c.if-not-is_empty.false
    c.loop-beginning.invariant

pub returns : goal.returns
returns c =
    sym (ap (λ xs. first_name (after_beginning xs c.args.word.now))
    (map_end (λ b. b.now) c.args.beginnings.now c.loop-beginning.beginning-index c.loop-beginning-test.false))
    ∙ c.loop-beginning.invariant
