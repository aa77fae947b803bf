-- Tags in a part of a table: those that leave it, those that do nothing, and those that are read as elsewhere.
use Rattle.std.proofs.Common.{◌≡◌, Bool, true, false, rules}
use Rattle.htmd_html5_state.specs.Names.{NameValue, known, other}
use Rattle.htmd_html5_state.specs.State.{StateValue}
use Rattle.htmd_html5_state.specs.declared.names.TagName.{TagName}
use Rattle.htmd_html5_state.specs.declared.names.TagName.TheVariants as tags
use Rattle.htmd_html5_state.specs.declared.sets.NameSet.TheVariants.{Cells}
use Rattle.htmd_html5.specs.Outcomes.{done}
use Rattle.htmd_html5.specs.BodyStarts.{start_in_body}
use Rattle.htmd_html5.specs.InCaption.{start_in_caption, leave_caption, end_in_caption}
use Rattle.htmd_html5.specs.InCell.{start_in_cell, leave_cell, leaves_cell}
use Rattle.htmd_html5.specs.InRow.{start_in_row, end_in_row}
use Rattle.htmd_html5.specs.InTable.{start_in_table, end_in_table, foster_end}
use Rattle.htmd_html5.specs.InTableBody.{end_in_section}
use Rattle.htmd_html5.specs.BodyEnds.{end_in_body}
use Rattle.htmd_html5.specs.InCaption as InCaption
use Rattle.htmd_html5.specs.InRow as InRow
use Rattle.htmd_html5.specs.InTable as InTable
use Rattle.htmd_html5.specs.InTableBody as InTableBody
use Rattle.htmd_html5.specs.Tokens.{StartTagValue}

-- the start tags that a row has a rule for
abbrev pub has_own_rule : NameValue → Bool
has_own_rule (known tags.Caption) = true
has_own_rule (known tags.Col) = true
has_own_rule (known tags.ColGroup) = true
has_own_rule (known tags.TBody) = true
has_own_rule (known tags.Td) = true
has_own_rule (known tags.TFoot) = true
has_own_rule (known tags.Th) = true
has_own_rule (known tags.THead) = true
has_own_rule (known tags.Tr) = true
has_own_rule name = false

pub row_other_start : (name : NameValue) (tag : StartTagValue) (s : StateValue) → has_own_rule name ≡ false
    → start_in_table name tag s ≡ start_in_row name tag s
row_other_start (known t) tag s e = search rules
row_other_start (other text) tag s e = search rules

pub cell_left : (t : TagName) (tag : StartTagValue) (s : StateValue) → leaves_cell t ≡ true
    → start_in_cell (known t) tag s ≡ leave_cell Cells s
cell_left t tag s e = search rules

pub cell_other_start : (t : TagName) (tag : StartTagValue) (s : StateValue) → leaves_cell t ≡ false
    → start_in_cell (known t) tag s ≡ done (start_in_body tag s)
cell_other_start t tag s e = search rules

pub caption_left : (t : TagName) (tag : StartTagValue) (s : StateValue) → leaves_cell t ≡ true
    → start_in_caption (known t) tag s ≡ leave_caption s
caption_left t tag s e = search rules

pub caption_other_start : (t : TagName) (tag : StartTagValue) (s : StateValue) → leaves_cell t ≡ false
    → start_in_caption (known t) tag s ≡ done (start_in_body tag s)
caption_other_start t tag s e = search rules

pub table_nothing : (t : TagName) (s : StateValue) → InTable.ends_nothing t ≡ true
    → end_in_table (known t) s ≡ s
table_nothing t s e = search rules

-- the end tags that a table has a rule for
abbrev pub is_end_in_table : NameValue → Bool
is_end_in_table (known tags.Table) = true
is_end_in_table (known tags.Template) = true
is_end_in_table (known t) = InTable.ends_nothing t
is_end_in_table (other text) = false

pub table_other_end : (name : NameValue) (s : StateValue) → is_end_in_table name ≡ false
    → foster_end name s ≡ end_in_table name s
table_other_end (known t) s e = search rules
table_other_end (other text) s e = search rules

pub caption_nothing : (t : TagName) (s : StateValue) → InCaption.ends_nothing t ≡ true
    → end_in_caption (known t) s ≡ done s
caption_nothing t s e = search rules

-- the end tags that a caption has a rule for
abbrev pub is_end_in_caption : NameValue → Bool
is_end_in_caption (known tags.Caption) = true
is_end_in_caption (known tags.Table) = true
is_end_in_caption (known t) = InCaption.ends_nothing t
is_end_in_caption (other text) = false

pub caption_other_end : (name : NameValue) (s : StateValue) → is_end_in_caption name ≡ false
    → end_in_body name s ≡ end_in_caption name s
caption_other_end (known t) s e = search rules
caption_other_end (other text) s e = search rules

pub row_nothing : (t : TagName) (s : StateValue) → InRow.ends_nothing t ≡ true → end_in_row (known t) s ≡ done s
row_nothing t s e = search rules

-- the end tags that a row has a rule for
abbrev pub is_end_in_row : NameValue → Bool
is_end_in_row (known tags.Tr) = true
is_end_in_row (known tags.Table) = true
is_end_in_row (known tags.TBody) = true
is_end_in_row (known tags.TFoot) = true
is_end_in_row (known tags.THead) = true
is_end_in_row (known t) = InRow.ends_nothing t
is_end_in_row (other text) = false

pub row_other_end : (name : NameValue) (s : StateValue) → is_end_in_row name ≡ false
    → done (end_in_table name s) ≡ end_in_row name s
row_other_end (known t) s e = search rules
row_other_end (other text) s e = search rules

pub section_nothing : (t : TagName) (s : StateValue) → InTableBody.ends_nothing t ≡ true
    → end_in_section (known t) s ≡ done s
section_nothing t s e = search rules

-- the end tags that a section has a rule for
abbrev pub is_end_in_section : NameValue → Bool
is_end_in_section (known tags.TBody) = true
is_end_in_section (known tags.TFoot) = true
is_end_in_section (known tags.THead) = true
is_end_in_section (known tags.Table) = true
is_end_in_section (known t) = InTableBody.ends_nothing t
is_end_in_section (other text) = false

pub section_other_end : (name : NameValue) (s : StateValue) → is_end_in_section name ≡ false
    → done (end_in_table name s) ≡ end_in_section name s
section_other_end (known t) s e = search rules
section_other_end (other text) s e = search rules
