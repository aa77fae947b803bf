use Rattle.htmd_tree.proofs.BodyLawsLemmas.{body_stands_between, body_runs_to_the_end, no_body_is_all}
use Rattle.htmd_tree.proofs.laws.body_stands_between.Goals as goal

pub returns-clause-between : goal.returns-clause-between
returns-clause-between c = body_stands_between

pub returns-clause-to_the_end : goal.returns-clause-to_the_end
returns-clause-to_the_end c = body_runs_to_the_end

pub returns-clause-all : goal.returns-clause-all
returns-clause-all c = no_body_is_all
