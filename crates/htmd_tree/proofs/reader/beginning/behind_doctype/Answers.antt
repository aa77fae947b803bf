-- What is left to prove of `behind_doctype`.
use Rattle.std.proofs.Common.{◌∙◌, Some, ap, sym}
use Rattle.std.specs.Prelude.{option_map}
use Rattle.htmd_grammar.proofs.PreludeLemmas.{doctype_read}
use Rattle.htmd_tree.proofs.reader.beginning.behind_doctype.Goals as goal

pub returns : goal.returns
returns c =
    doctype_read c.args.text.now c.in-Some.behind.now c.split_run.result.0.now c.split_run.result.1.now
    (option_map (λ rest. rest.now) c.behind_doctype_name.result)
    (rw c.in-Some.ensures.0 (ap Some c.in-Some.ensures.1)) c.split_run.ensures.run c.split_run.ensures.rest
    (sym c.is_empty.ensures ∙ c.if-is_empty.false) c.behind_doctype_name.ensures
