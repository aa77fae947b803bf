use Rattle.std.proofs.Common.{Some, None}
use Rattle.htmd_flow.proofs.LanguagesLemmas.{strip_text, begins, begins_not}
use Rattle.htmd_flow.proofs.language.rest_of.Goals as goal

pub returns-in-Some : goal.returns-in-Some
returns-in-Some c =
    begins c.args.beginning.now c.args.word.now c.in-Some.rest.now
    (strip_text c.args.beginning.now c.args.word.now (Some c.in-Some.rest) c.in-Some.ensures.cases)

pub returns-in-None : goal.returns-in-None
returns-in-None c =
    begins_not c.args.beginning.now c.args.word.now
    (strip_text c.args.beginning.now c.args.word.now None c.in-None.ensures.cases)
