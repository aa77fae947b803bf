use Rattle.htmd_tree.proofs.ClassesLemmas.{uniform}
use Rattle.htmd_tree.proofs.reader.scan.split_run.Goals as goal

pub split_run-requires : goal.split_run-requires
split_run-requires c = uniform c.args.class c.requires
