-- What a reader keeps of an open element and its ancestors, to know what may stand there.
use Rattle.std.specs.Prelude.{Bool, false, not, ◌&&◌, ◌||◌, if◌then◌else◌, [], ◌∷◌, codes}
use Rattle.htmd_lexical.specs.CharacterClasses.{is_among}
use Rattle.htmd_grammar.specs.RawContent.{holds_raw_text, holds_text_alone}
use Rattle.htmd_grammar.specs.Nesting.{Context, parent_name, is_open, is_met_before, is_heading, is_table, holds_rows}
use Rattle.htmd_grammar.specs.Nesting.{is_row, holds_parts, is_optgroup, is_option}
use Rattle.htmd_tree.specs.KnownNames as known
use Rattle.htmd_tree.specs.declared.reader.names.KnownName.{KnownName}
use Rattle.htmd_tree.specs.declared.reader.names.KnownName.TheVariants as kind
use Rattle.htmd_tree.specs.declared.reader.surroundings.Surroundings.{Surroundings}

abbrev pub surroundings_of : Bool → Context → Surroundings
surroundings_of scripting c =
    record {
      text_alone = holds_text_alone scripting (parent_name c);
      raw_text = holds_raw_text scripting (parent_name c);
      parts = holds_parts (parent_name c);
      table = is_table (parent_name c);
      rows = holds_rows (parent_name c);
      row = is_row (parent_name c);
      columns = is_among (codes "colgroup" ∷ []) (parent_name c);
      select = is_among (codes "select" ∷ []) (parent_name c);
      option_group = is_optgroup (parent_name c);
      option = is_option (parent_name c);
      heading = is_heading (parent_name c);
      open_p = is_open (codes "p" ∷ []) c;
      open_a = is_open (codes "a" ∷ []) c;
      open_button = is_open (codes "button" ∷ []) c;
      open_form = is_open (codes "form" ∷ []) c;
      open_nobr = is_open (codes "nobr" ∷ []) c;
      open_select = is_open (codes "select" ∷ []) c;
      open_option = is_open (codes "option" ∷ []) c;
      open_options = is_open (codes "optgroup" ∷ codes "option" ∷ []) c;
      item = is_met_before (codes "li" ∷ []) (codes "ul" ∷ codes "ol" ∷ codes "menu" ∷ codes "dir" ∷ []) c;
      description = is_met_before (codes "dd" ∷ codes "dt" ∷ []) (codes "dl" ∷ []) c;
    }

-- what is kept inside an element of which this is kept, by what is known of the name
abbrev pub flags_inside : Bool → KnownName → Surroundings → Surroundings
flags_inside scripting k around =
    record {
      text_alone = known.is kind.Text k || (known.holds_raw_text k || (scripting && known.is kind.NoScript k));
      raw_text = known.holds_raw_text k || (scripting && known.is kind.NoScript k);
      parts = known.holds_parts k;
      table = known.is kind.Table k;
      rows = known.is kind.Rows k;
      row = known.is kind.Row k;
      columns = known.is kind.ColGroup k;
      select = known.is kind.Select k;
      option_group = known.is kind.OptGroup k;
      option = known.is kind.OptionTag k;
      heading = known.is kind.Heading k;
      open_p = known.is kind.P k || around.open_p;
      open_a = known.is kind.A k || around.open_a;
      open_button = known.is kind.Button k || around.open_button;
      open_form = known.is kind.Form k || around.open_form;
      open_nobr = known.is kind.NoBr k || around.open_nobr;
      open_select = known.is kind.Select k || around.open_select;
      open_option = known.is kind.OptionTag k || around.open_option;
      open_options = known.is_part_of_select k || around.open_options;
      item = known.is kind.Li k || (not (known.is kind.ItemList k) && around.item);
      description = known.is kind.Description k || (not (known.is kind.Dl k) && around.description);
    }

-- ---- what may stand where this is kept, as `is_allowed` has it, by what is known of the name

abbrev pub flags_fit_table : Surroundings → KnownName → Bool
flags_fit_table around k =
    if known.is_table_part k then around.table
    else if known.is kind.Row k then around.rows
    else if known.is kind.Cell k then around.row
    else if known.is kind.Col k then around.columns
    else not around.parts

abbrev pub flags_fit_select : Surroundings → KnownName → Bool
flags_fit_select around k =
    if around.select then known.is kind.OptionTag k || known.is kind.OptGroup k
    else if around.option_group then known.is kind.OptionTag k
    else not around.option

-- an element that may not stand in itself is open
abbrev pub own_flag : Surroundings → KnownName → Bool
own_flag around k =
    if known.is kind.A k then around.open_a
    else if known.is kind.Button k then around.open_button
    else if known.is kind.Form k then around.open_form
    else if known.is kind.NoBr k then around.open_nobr
    else if known.is kind.Select k then around.open_select
    else if known.is kind.OptionTag k then around.open_option
    else false

abbrev pub flags_fit_open_elements : Surroundings → KnownName → Bool
flags_fit_open_elements around k =
    not (known.closes_paragraph k && around.open_p)
    && not (own_flag around k)
    && not (known.is kind.OptGroup k && around.open_options)
    && not (known.is kind.Heading k && around.heading)

abbrev pub flags_fit_lists : Surroundings → KnownName → Bool
flags_fit_lists around k =
    not (known.is kind.Li k && around.item)
    && not (known.is kind.Description k && around.description)

abbrev pub flags_allow : Surroundings → KnownName → Bool
flags_allow around k =
    not (known.is kind.Outside k)
    && not around.text_alone
    && flags_fit_table around k
    && flags_fit_select around k
    && flags_fit_open_elements around k
    && flags_fit_lists around k
