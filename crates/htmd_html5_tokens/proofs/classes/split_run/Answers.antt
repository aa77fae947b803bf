use Rattle.htmd_html5_tokens.proofs.RunCuts.{uniform}
use Rattle.htmd_html5_tokens.proofs.classes.split_run.Goals as goal

pub split_run-requires : goal.split_run-requires
split_run-requires c = uniform c.args.class c.requires
