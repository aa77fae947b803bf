-- What is left to prove of `reference_by_number`.
use Rattle.std.proofs.Common.{◌∙◌, sym}
use Rattle.htmd_tree.proofs.DecodedCharactersLemmas.{number_empty, number_open, number_none, number_some}
use Rattle.htmd_tree.proofs.reader.references.reference_by_number.Goals as goal
use Rattle.htmd_tree.proofs.reader.references.reference_by_number.Goals.{then-len-eq0-via-then-len-eq0}
use Rattle.htmd_tree.proofs.reader.references.reference_by_number.Goals.{then-len-eq0-via-else-len-eq0+then-not-first_is}

pub returns-then-len-eq0-clause-piece : goal.returns-then-len-eq0-clause-piece
returns-then-len-eq0-clause-piece c = λ p off run.
    elim c.then-len-eq0.branch [
      | then-len-eq0-via-then-len-eq0 w ↦
          number_empty p c.args.base c.args.from c.args.len c.args.behind.now off run w.if-len-eq0.true
      | then-len-eq0-via-else-len-eq0+then-not-first_is w ↦
          number_open p c.args.base c.args.from c.args.len c.args.behind.now off run
          (sym w.first_is.ensures ∙ w.if-not-first_is.true)
    ]

pub returns-in-Some-clause-piece : goal.returns-in-Some-clause-piece
returns-in-Some-clause-piece c = λ p off run.
    number_some p c.args.base c.args.from c.args.len c.args.behind.now off run c.number.result c.in-Some.value
    c.if-len-eq0.false (sym c.first_is.ensures ∙ c.if-not-first_is.false) c.number.ensures c.in-Some.ensures

pub returns-in-None-clause-piece : goal.returns-in-None-clause-piece
returns-in-None-clause-piece c = λ p off run.
    number_none p c.args.base c.args.from c.args.len c.args.behind.now off run c.number.result
    c.if-len-eq0.false (sym c.first_is.ensures ∙ c.if-not-first_is.false) c.number.ensures c.in-None.ensures
