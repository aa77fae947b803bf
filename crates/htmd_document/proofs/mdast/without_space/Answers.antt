-- What is left to prove of `without_space`.
use Rattle.std.proofs.Common.{sym, ap, arith}
use Rattle.std.proofs.lemmas.Str.Pattern.{strip_prefix_char}
use Rattle.htmd_document.specs.Mdast.{without_space}
use Rattle.htmd_document.proofs.MdastLemmas.{no-space}
use Rattle.htmd_document.proofs.mdast.without_space.Goals as goal

pub returns-in-Some : goal.returns-in-Some
returns-in-Some c =
    let cut = strip_prefix_char 32 c.args.text.now c.strip_prefix.result c.strip_prefix.ensures.cases (omega arith) in
    sym (ap without_space (rw c.in-Some.is at cut))

pub returns-in-None : goal.returns-in-None
returns-in-None c =
    let cut = strip_prefix_char 32 c.args.text.now c.strip_prefix.result c.strip_prefix.ensures.cases (omega arith) in
    no-space c.args.text.now (rw c.in-None.is at cut)
