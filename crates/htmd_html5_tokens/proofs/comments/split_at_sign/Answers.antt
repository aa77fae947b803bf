-- There is no `>`, and so nothing after what comes before it.
use Rattle.std.proofs.Common.{◌∙◌}
use Rattle.htmd_html5_tokens.proofs.BeginningsLemmas.{other_drops}
use Rattle.htmd_html5_tokens.proofs.comments.split_at_sign.Goals as goal

pub returns-in-None-clause-rest : goal.returns-in-None-clause-rest
returns-in-None-clause-rest c =
    let missing = rw c.split_run.ensures.rest at c.in-None.ensures in
    c.split_run.ensures.rest ∙ other_drops 62 c.args.text.now missing
