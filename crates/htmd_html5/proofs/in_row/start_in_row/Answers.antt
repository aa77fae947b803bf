-- Other tags are read as in a table.
use Rattle.std.proofs.Common.{◌≡◌, is_some, IfOk, false, subst, rules}
use Rattle.htmd_html5_state.specs.Names.{name_of}
use Rattle.htmd_html5.specs.Outcomes.{Outcome, outcome}
use Rattle.htmd_html5.specs.Tokens.{tag_of}
use Rattle.htmd_html5.proofs.TableTagLemmas.{has_own_rule, row_other_start}
use Rattle.htmd_html5.proofs.in_row.start_in_row.Goals as goal

pub returns-in_default-clause-outcome : goal.returns-in_default-clause-outcome
returns-in_default-clause-outcome c =
    let none : has_own_rule (name_of c.args.tag.name) ≡ false = search rules in
    subst
    (λ (x : Outcome). IfOk c.start_in_table.result (λ again. outcome c.start_in_table.new.state (is_some again)
    ≡ x))
    (row_other_start (name_of c.args.tag.name) (tag_of c.args.tag) c.args.state.now none)
    c.start_in_table.ensures.outcome
