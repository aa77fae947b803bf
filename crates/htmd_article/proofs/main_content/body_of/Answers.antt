-- What is left to prove of `body_of`.
use Rattle.std.proofs.Common.{◌<◌, length, IfSome, subst}
use Rattle.htmd_article.proofs.KnownLemmas.{body_found, body_missing}
use Rattle.htmd_article.proofs.main_content.body_of.Goals as goal

pub returns-in-Some-clause-within : goal.returns-in-Some-clause-within
returns-in-Some-clause-within c =
    subst (λ o. IfSome o (λ id. id < length c.args.tree.now)) c.in-Some.is c.first_body.ensures.within

pub returns-in-Some-clause-value : goal.returns-in-Some-clause-value
returns-in-Some-clause-value c =
    body_found c.args.tree.now c.root-root.ensures.tree c.root-root.result c.root-root.ensures.value c.first_body.result
    c.first_body.ensures.value c.in-Some.body c.in-Some.is

pub returns-in-None-clause-value : goal.returns-in-None-clause-value
returns-in-None-clause-value c =
    body_missing c.args.tree.now c.root-root.ensures.tree c.root-root.result c.root-root.ensures.value
    c.first_body.result c.first_body.ensures.value c.in-None.is
