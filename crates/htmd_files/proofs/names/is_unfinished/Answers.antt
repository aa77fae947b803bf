use Rattle.std.specs.Prelude.{codes}
use Rattle.std.proofs.lemmas.Str.Pattern.{ends_text}
use Rattle.htmd_files.proofs.names.is_unfinished.Goals as goal

pub returns : goal.returns
returns c = ends_text c.ends_with.result (codes ".htmd-partial") c.args.path.now c.ends_with.ensures.cases
