-- Other names are read as in a table.
use Rattle.std.proofs.Common.{◌≡◌, ◌∙◌, false, ap, rules}
use Rattle.htmd_html5_state.specs.Names.{name_of}
use Rattle.htmd_html5.specs.Outcomes.{done}
use Rattle.htmd_html5.proofs.TableTagLemmas.{is_end_in_section, section_other_end}
use Rattle.htmd_html5.proofs.in_table_body.end_in_section.Goals as goal

pub returns-in_ok-end_in_table-in_default : goal.returns-in_ok-end_in_table-in_default
returns-in_ok-end_in_table-in_default c =
    let none : is_end_in_section (name_of c.args.name.now) ≡ false = search rules in
    ap done c.in_ok-end_in_table-in_default.ensures
    ∙ section_other_end (name_of c.args.name.now) c.args.state.now none
