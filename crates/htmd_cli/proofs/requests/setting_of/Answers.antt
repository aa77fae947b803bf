-- The rows of the source's table are the options.
use Rattle.htmd_cli.specs.Options.{is_read_in_memory}
use Rattle.htmd_cli.proofs.requests.setting_of.Goals as goal

pub returns-clause-meaning : goal.returns-clause-meaning
returns-clause-meaning c = c.setting_in.ensures.meaning

pub returns-clause-memory : goal.returns-clause-memory
unfolding is_read_in_memory
returns-clause-memory c = c.setting_in.ensures.memory
