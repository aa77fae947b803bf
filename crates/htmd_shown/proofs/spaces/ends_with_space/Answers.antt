-- What is left to prove of `ends_with_space`.
use Rattle.std.proofs.Common.{arith}
use Rattle.htmd_shown.proofs.SpacesLemmas.{last-space}
use Rattle.htmd_shown.proofs.spaces.ends_with_space.Goals as goal

pub returns-in-len1-up : goal.returns-in-len1-up
returns-in-len1-up c = last-space c.args.text.now (omega arith)
