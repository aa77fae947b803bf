-- The last byte that isn't white space, or that there is none.
use Rattle.std.proofs.Common.{rules}
use Rattle.htmd_encodings.proofs.LabelsLemmas.{end_at, no_end}
use Rattle.htmd_encodings.proofs.labels.without_end.Goals as goal

pub returns-in-Some : goal.returns-in-Some
returns-in-Some c = end_at c.args.bytes.now c.in-Some.last (search rules) (search rules) (search rules)

pub returns-in-None : goal.returns-in-None
returns-in-None c = no_end c.args.bytes.now (search rules)
