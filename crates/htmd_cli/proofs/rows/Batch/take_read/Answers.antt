-- Nothing was read.
use Rattle.std.proofs.Common.{◌∙◌, sym}
use Rattle.std.proofs.lemmas.Bool.{eqb-true}
use Rattle.htmd.specs.PageConverters.{settings_of}
use Rattle.htmd_cli.proofs.BatchesLemmas.{read_none}
use Rattle.htmd_cli.proofs.rows.Batch.take_read.Goals as goal

pub returns-then-is_empty-clause-ok : goal.returns-then-is_empty-clause-ok
returns-then-is_empty-clause-ok g c =
    let was = c.args.self.now in
    let new = c.take_end.new.self in
    read_none (settings_of c.args.converter.now) was.begun.items c.args.bytes.now was.answers.items
    new.answers.items _ was.answered new.answered (eqb-true _ _ (sym c.is_empty.ensures ∙ c.if-is_empty.true))
    c.in_ok-take_end.ensures.ok
