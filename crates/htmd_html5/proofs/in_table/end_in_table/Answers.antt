-- Other names are fostered.
use Rattle.std.proofs.Common.{◌≡◌, OnOk, false, subst, rules}
use Rattle.htmd_html5_state.specs.Names.{name_of}
use Rattle.htmd_html5_state.specs.State.{StateValue}
use Rattle.htmd_html5.proofs.TableTagLemmas.{is_end_in_table, table_other_end}
use Rattle.htmd_html5.proofs.in_table.end_in_table.Goals as goal

pub returns-in_default : goal.returns-in_default
returns-in_default c =
    let none : is_end_in_table (name_of c.args.name.now) ≡ false = search rules in
    subst (λ (x : StateValue). OnOk c.foster_end.result (c.foster_end.new.state ≡ x))
    (table_other_end (name_of c.args.name.now) c.args.state.now none) c.foster_end.ensures
