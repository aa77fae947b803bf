use Rattle.htmd_chunks.proofs.SizesLemmas.{size-behind, size-apart, size-quoted, size-indented}
use Rattle.htmd_chunks.proofs.laws.sizes_add_up.Goals as goal

pub returns-clause-behind : goal.returns-clause-behind
returns-clause-behind c = size-behind

pub returns-clause-apart : goal.returns-clause-apart
returns-clause-apart c = size-apart

pub returns-clause-quoted : goal.returns-clause-quoted
returns-clause-quoted c = size-quoted

pub returns-clause-indented : goal.returns-clause-indented
returns-clause-indented c = size-indented
