-- Tokens in foreign content (HTML Standard, 13.2.6 and 13.2.6.5).
use Rattle.std.specs.Prelude.{ℕ, Bool, true, false, not, ◌&&◌, ◌||◌, if◌then◌else◌, List, [], ◌∷◌, ◌++◌, Option, Some}
use Rattle.std.specs.Prelude.{None, codes}
use Rattle.std.specs.List.{list_any}
use Rattle.std.specs.Char.{encode_utf8}
use Rattle.htmd_lexical.specs.CharacterClasses.{is_among}
use Rattle.htmd_lexical.specs.AttributePairs.{AttributePair}
use Rattle.htmd_html5_state.specs.Names.{NameValue, text_of_name, known, other}
use Rattle.htmd_html5.specs.Tokens.{doctype, comment, StartTagValue, TokenValue, start_tag, end_tag, run, end_of_file}
use Rattle.htmd_html5_state.specs.State.{StateValue, on_stack}
use Rattle.htmd_html5_state.specs.Insertion.{current, insert_text, insert_comment}
use Rattle.htmd_html5_state.specs.Foreign.{current_is_html, namespace_of, is_math_text_point, is_annotation}
use Rattle.htmd_html5_state.specs.Foreign.{is_html_point, leave_foreign, ForeignEnd, foreign_end, goes_by_mode}
use Rattle.htmd_html5_state.specs.Foreign.{after_foreign_end}
use Rattle.htmd_html5_state.specs.declared.names.TagName.{TagName}
use Rattle.htmd_html5_state.specs.declared.names.Namespace.{Namespace}
use Rattle.htmd_html5_tokens.specs.References.{replacement_character}
use Rattle.htmd_html5.specs.declared.tokens.RunKind.{RunKind}
use Rattle.htmd_html5.specs.declared.tokens.RunKind.TheVariants.{White, Nulls, Characters}
use Rattle.htmd_html5.specs.Outcomes.{Outcome, done}
use Rattle.htmd_html5.specs.SharedRules.{insert_foreign_tag, no_frameset}
use Rattle.htmd_html5.specs.Modes.{by_mode_rules}
use Rattle.htmd_html5_state.specs.declared.names.TagName.TheVariants as tags

-- ---- which tokens go there (13.2.6)

abbrev pub stays_foreign : TagName → Bool
stays_foreign tags.MGlyph = true
stays_foreign tags.MalignMark = true
stays_foreign _ = false

abbrev pub is_glyph : NameValue → Bool
is_glyph (known tag) = stays_foreign tag
is_glyph (other s) = false

-- in a MathML text integration point HTML's rules apply to this
abbrev pub is_for_math_text : TokenValue → Bool
is_for_math_text (run kind text) = true
is_for_math_text (start_tag tag) = not (is_glyph tag.name)
is_for_math_text _ = false

abbrev pub is_svg_name : NameValue → Bool
is_svg_name (known tags.Svg) = true
is_svg_name _ = false

-- in `annotation-xml`
abbrev pub is_for_annotation : TokenValue → Bool
is_for_annotation (start_tag tag) = is_svg_name tag.name
is_for_annotation _ = false

-- in an HTML integration point
abbrev pub is_for_html_point : TokenValue → Bool
is_for_html_point (run kind text) = true
is_for_html_point (start_tag tag) = true
is_for_html_point _ = false

-- HTML's rules apply, even if nothing is open
abbrev pub goes_to_html : TokenValue → StateValue → Bool
goes_to_html token s =
    (is_for_math_text token && is_math_text_point (current s.stack))
    || (is_for_annotation token && is_annotation (current s.stack))
    || (is_for_html_point token && is_html_point s.nodes (current s.stack))
    || current_is_html s.stack

abbrev pub is_foreign : TokenValue → StateValue → Bool
is_foreign end_of_file s = false
is_foreign token s = not (goes_to_html token s)

-- ---- what they do there (13.2.6.5)

-- HTML elements in text that end foreign content
unfoldable pub text_breaks_out : TagName → Bool
text_breaks_out tags.B = true
text_breaks_out tags.Big = true
text_breaks_out tags.Br = true
text_breaks_out tags.Code = true
text_breaks_out tags.Em = true
text_breaks_out tags.Embed = true
text_breaks_out tags.I = true
text_breaks_out tags.Img = true
text_breaks_out tags.NoBr = true
text_breaks_out tags.Ruby = true
text_breaks_out tags.S = true
text_breaks_out tags.Small = true
text_breaks_out tags.Span = true
text_breaks_out tags.Strong = true
text_breaks_out tags.Strike = true
text_breaks_out tags.Sub = true
text_breaks_out tags.Sup = true
text_breaks_out tags.Tt = true
text_breaks_out tags.U = true
text_breaks_out tags.Var = true
text_breaks_out _ = false

-- and other elements
abbrev pub breaks_out : TagName → Bool
breaks_out tags.BlockQuote = true
breaks_out tags.Body = true
breaks_out tags.Center = true
breaks_out tags.Dd = true
breaks_out tags.Div = true
breaks_out tags.Dl = true
breaks_out tags.Dt = true
breaks_out tags.H1 = true
breaks_out tags.H2 = true
breaks_out tags.H3 = true
breaks_out tags.H4 = true
breaks_out tags.H5 = true
breaks_out tags.H6 = true
breaks_out tags.Head = true
breaks_out tags.Hr = true
breaks_out tags.Li = true
breaks_out tags.Listing = true
breaks_out tags.Menu = true
breaks_out tags.Meta = true
breaks_out tags.Ol = true
breaks_out tags.P = true
breaks_out tags.Pre = true
breaks_out tags.Table = true
breaks_out tags.Ul = true
breaks_out tag = text_breaks_out tag

-- a `font` of HTML has one of these attributes
abbrev pub is_font_attribute : AttributePair → Bool
is_font_attribute a = is_among (codes "color" ∷ codes "face" ∷ codes "size" ∷ []) a.name

abbrev pub has_font_attribute : List AttributePair → Bool
has_font_attribute attributes = list_any is_font_attribute attributes

abbrev pub tag_breaks_out : NameValue → List AttributePair → Bool
tag_breaks_out (known tags.Font) attributes = has_font_attribute attributes
tag_breaks_out (known tag) attributes = breaks_out tag
tag_breaks_out (other s) attributes = false

abbrev pub end_breaks_out : NameValue → Bool
end_breaks_out (known tags.Br) = true
end_breaks_out (known tags.P) = true
end_breaks_out _ = false

-- out of foreign content, and then by the rules of the mode
abbrev pub break_out : TokenValue → StateValue → Outcome
break_out token s = by_mode_rules token (on_stack (leave_foreign s.nodes) s)

-- an element in the namespace of the current node
abbrev pub insert_alike : Option Namespace → StartTagValue → StateValue → StateValue
insert_alike None tag s = s
insert_alike (Some space) tag s = insert_foreign_tag space tag s

abbrev pub start_foreign_element : StartTagValue → StateValue → StateValue
start_foreign_element tag s = insert_alike (namespace_of (current s.stack).name) tag s

abbrev pub start_in_foreign : StartTagValue → StateValue → Outcome
start_in_foreign tag s =
    if tag_breaks_out tag.name tag.attributes then break_out (start_tag tag) s else done (start_foreign_element tag s)

abbrev pub end_foreign : NameValue → ForeignEnd → StateValue → Outcome
end_foreign name ending s =
    if goes_by_mode ending then by_mode_rules (end_tag name) s else done (after_foreign_end ending s)

abbrev pub end_in_foreign : NameValue → StateValue → Outcome
end_in_foreign name s =
    if end_breaks_out name then break_out (end_tag name) s
    else end_foreign name (foreign_end (text_of_name name) s.stack) s

-- U+FFFD for each U+0000
abbrev pub replacements : List ℕ → List ℕ
replacements [] = []
replacements (b ∷ s) = encode_utf8 replacement_character ++ replacements s

abbrev pub run_in_foreign : RunKind → List ℕ → StateValue → StateValue
run_in_foreign White text s = insert_text text s
run_in_foreign Nulls text s = insert_text (replacements text) s
run_in_foreign Characters text s = no_frameset (insert_text text s)

abbrev pub in_foreign_content : TokenValue → StateValue → Outcome
in_foreign_content (run kind text) s = done (run_in_foreign kind text s)
in_foreign_content (comment text) s = done (insert_comment text s)
in_foreign_content (doctype quirks) s = done s
in_foreign_content (start_tag tag) s = start_in_foreign tag s
in_foreign_content (end_tag name) s = end_in_foreign name s
in_foreign_content end_of_file s = done s
