-- Rules that many modes share.
use Rattle.std.specs.Prelude.{ℕ, Bool, true, false, if◌then◌else◌, List, ◌∷◌, Option, Some, None}
use Rattle.htmd_lexical.specs.AttributePairs.{AttributePair}
use Rattle.htmd_html5_state.specs.Names.{NameValue, text_of_name, known}
use Rattle.htmd_html5_state.specs.Nodes.{add_missing}
use Rattle.htmd_html5.specs.Tokens.{StartTagValue}
use Rattle.htmd_html5_state.specs.OpenElements.{is_open, first_open, pop_until, close}
use Rattle.htmd_html5_state.specs.State.{StateValue, on_nodes, on_stack}
use Rattle.htmd_html5_state.specs.Insertion.{insert_element, insert_void, insert_raw}
use Rattle.htmd_html5_state.specs.Formatting.{push_marker, clear_to_marker}
use Rattle.htmd_html5_state.specs.Resetting.{pop_template_mode, reset_insertion_mode}
use Rattle.htmd_html5_state.specs.Foreign.{insert_foreign}
use Rattle.htmd_html5_state.specs.declared.modes.InsertionMode.TheVariants.{InTemplate}
use Rattle.htmd_html5_state.specs.declared.modes.InsertionMode.{InsertionMode}
use Rattle.htmd_html5_state.specs.declared.names.Namespace.{Namespace}
use Rattle.htmd_html5_state.specs.declared.names.TagName.{TagName}
use Rattle.htmd_html5_state.specs.declared.sets.NameSet.TheVariants.{Only}
use Rattle.htmd_html5_state.specs.declared.sets.Scope.TheVariants.{Button as ButtonScope}
use Rattle.htmd_lexical.specs.declared.content_model.RawElement.{RawElement}
use Rattle.htmd_html5_state.specs.declared.names.TagName.TheVariants as tags
use Rattle.htmd_lexical.specs.declared.content_model.RawElement.TheVariants as raw

abbrev pub with_mode : InsertionMode → StateValue → StateValue
with_mode mode s = record s { mode = mode }

-- the element of a tag
abbrev pub insert_tag : StartTagValue → StateValue → StateValue
insert_tag tag s = insert_element tag.name tag.attributes s

abbrev pub insert_void_tag : StartTagValue → StateValue → StateValue
insert_void_tag tag s = insert_void tag.name tag.attributes s

abbrev pub insert_raw_tag : RawElement → StartTagValue → StateValue → StateValue
insert_raw_tag element tag s = insert_raw tag.name element tag.attributes s

-- the foreign element of a tag
abbrev pub insert_foreign_tag : Namespace → StartTagValue → StateValue → StateValue
insert_foreign_tag space tag s = insert_foreign space (text_of_name tag.name) tag.attributes tag.self_closing s

-- frameset-ok is "not ok"
abbrev pub no_frameset : StateValue → StateValue
no_frameset s = record s { frameset_ok = false }

-- a `p` is closed, if one is in button scope (13.2.6.4.7)
abbrev pub close_paragraph : StateValue → StateValue
close_paragraph s = on_stack (close (Only tags.P) ButtonScope) s

abbrev pub add_missing_to : Option ℕ → List AttributePair → StateValue → StateValue
add_missing_to None attributes s = s
add_missing_to (Some n) attributes s = on_nodes (add_missing n attributes) s

-- a start tag of `html` gives its attributes to the outermost element (13.2.6.4.7)
abbrev pub add_to_root : StartTagValue → StateValue → StateValue
add_to_root tag s =
    if is_open (Only tags.Template) s.stack then s else add_missing_to (first_open s.stack) tag.attributes s

-- ---- templates (13.2.6.4.4)

abbrev pub open_template : StartTagValue → StateValue → StateValue
open_template tag s = record (push_marker (insert_tag tag s)) {
  frameset_ok = false;
  mode = InTemplate;
  template_modes = InTemplate ∷ s.template_modes;
}

-- the innermost template is closed
abbrev pub leave_template : StateValue → StateValue
leave_template s =
    reset_insertion_mode (pop_template_mode (clear_to_marker (on_stack (pop_until (Only tags.Template)) s)))

abbrev pub end_template : StateValue → StateValue
end_template s = if is_open (Only tags.Template) s.stack then leave_template s else s

-- ---- elements of the head (13.2.6.4.4)

-- the elements of the head
abbrev pub is_head_tag : TagName → Bool
is_head_tag tags.Base = true
is_head_tag tags.BaseFont = true
is_head_tag tags.BgSound = true
is_head_tag tags.Link = true
is_head_tag tags.Meta = true
is_head_tag tags.NoFrames = true
is_head_tag tags.Script = true
is_head_tag tags.Style = true
is_head_tag tags.Template = true
is_head_tag tags.Title = true
is_head_tag tag = false

-- `base`, `basefont`, `bgsound`, `link` and `meta` hold nothing
abbrev pub insert_head_element : NameValue → StartTagValue → StateValue → StateValue
insert_head_element (known tags.Title) tag s = insert_raw_tag raw.Title tag s
insert_head_element (known tags.NoFrames) tag s = insert_raw_tag raw.Noframes tag s
insert_head_element (known tags.Style) tag s = insert_raw_tag raw.Style tag s
insert_head_element (known tags.Script) tag s = insert_raw_tag raw.Script tag s
insert_head_element (known tags.Template) tag s = open_template tag s
insert_head_element _ tag s = insert_void_tag tag s
