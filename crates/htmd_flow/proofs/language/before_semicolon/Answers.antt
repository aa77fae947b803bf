use Rattle.std.proofs.Common.{◌∙◌, sym, ap, take, length, arith}
use Rattle.std.proofs.lemmas.List.{take_all}
use Rattle.std.proofs.lemmas.Str.Pattern.{split_once_first}
use Rattle.htmd_flow.proofs.language.before_semicolon.Goals as goal

pub returns-in-Some : goal.returns-in-Some
returns-in-Some c =
    let cut = split_once_first 59 c.args.text.now c.split_once.result c.split_once.ensures.cases (omega arith) in
    (rw c.in-Some.is at cut).1

pub returns-in-None : goal.returns-in-None
returns-in-None c =
    let text = c.args.text.now in
    let cut = split_once_first 59 text c.split_once.result c.split_once.ensures.cases (omega arith) in
    sym (ap (λ k. take k text) (rw c.in-None.is at cut) ∙ take_all (length text) text (omega arith))
