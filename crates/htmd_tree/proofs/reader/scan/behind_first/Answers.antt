-- After an ASCII character a text may be cut.
use Rattle.std.proofs.Common.{arith}
use Rattle.std.proofs.lemmas.Str.{lead_after_ascii}
use Rattle.htmd_tree.proofs.reader.scan.behind_first.Goals as goal

pub range_from-requires : goal.range_from-requires
range_from-requires c = λ _. (omega arith, lead_after_ascii c.args.text.now 0 c.utf8.text c.requires.ascii)
