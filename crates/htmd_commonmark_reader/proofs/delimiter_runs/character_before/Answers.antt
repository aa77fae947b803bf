-- Past the tildes, from the end.
use Rattle.std.proofs.Common.{arith}
use Rattle.std.proofs.lemmas.Bool.{eqb-true}
use Rattle.htmd_commonmark_reader.proofs.delimiter_runs.character_before.Goals as goal

pub stripped_end-requires : goal.stripped_end-requires
stripped_end-requires c = λ b e. let k = eqb-true b 126 e in omega arith
