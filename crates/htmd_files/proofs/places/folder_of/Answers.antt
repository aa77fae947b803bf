-- All names but the last.
use Rattle.htmd_files.proofs.PathsLemmas.{folder_read}
use Rattle.htmd_files.proofs.places.folder_of.Goals as goal

pub returns-in-len1-up-clause-value : goal.returns-in-len1-up-clause-value
returns-in-len1-up-clause-value c = folder_read c.args.names.now
