-- The tags that leave a `select` in a table, and those that don't.
use Rattle.std.proofs.Common.{◌≡◌, true, false, rules}
use Rattle.htmd_html5_state.specs.Names.{known}
use Rattle.htmd_html5_state.specs.State.{StateValue}
use Rattle.htmd_html5_state.specs.declared.names.TagName.{TagName}
use Rattle.htmd_html5.specs.Outcomes.{done, again}
use Rattle.htmd_html5.specs.InSelect.{end_in_select, end_in_select_in_table, leave_select_in, is_table_part}
use Rattle.htmd_html5.specs.InSelect.{start_in_select, start_in_select_in_table, close_select}
use Rattle.htmd_html5.specs.Tokens.{StartTagValue}

-- the end tag of a part of a table leaves the `select`
pub part_left : (tag : TagName) (s : StateValue) → is_table_part tag ≡ true
    → end_in_select_in_table (known tag) s ≡ leave_select_in tag s
part_left tag s e = search rules

-- that of what is no part is read as in any `select`
pub as_in_select : (tag : TagName) (s : StateValue) → is_table_part tag ≡ false
    → end_in_select_in_table (known tag) s ≡ done (end_in_select (known tag) s)
as_in_select tag s e = search rules

-- the start tag of a part of a table leaves it too
pub start_left : (t : TagName) (tag : StartTagValue) (s : StateValue) → is_table_part t ≡ true
    → start_in_select_in_table (known t) tag s ≡ again (close_select s)
start_left t tag s e = search rules

pub start_as_in_select : (t : TagName) (tag : StartTagValue) (s : StateValue) → is_table_part t ≡ false
    → start_in_select_in_table (known t) tag s ≡ start_in_select (known t) tag s
start_as_in_select t tag s e = search rules
