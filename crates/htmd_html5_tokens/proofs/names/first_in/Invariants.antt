-- The text began with no name so far.
use Rattle.std.proofs.Common.{◌≡◌, drop}
use Rattle.htmd_html5_tokens.specs.NamedReferences.{old_loan_rows, first_in}
use Rattle.htmd_html5_tokens.proofs.names.first_in.Given as goal

abbrev pub invariant-loop-row : goal.invariant-loop-row
invariant-loop-row l =
    first_in (old_loan_rows (drop l.row-index l.rows)) l.text ≡ first_in (old_loan_rows l.rows) l.text
