-- The name was not met so far.
use Rattle.std.proofs.Common.{◌≡◌, drop}
use Rattle.htmd_html5_tokens.specs.NamedReferences.{loan_rows, named_in}
use Rattle.htmd_html5_tokens.proofs.names.named_in.Given as goal

abbrev pub invariant-loop-row : goal.invariant-loop-row
invariant-loop-row l = named_in (loan_rows (drop l.row-index l.rows)) l.name ≡ named_in (loan_rows l.rows) l.name
