-- Texts and their faults: of each kind, and of two that fit a piece the lower.
use Rattle.std.proofs.Common.{Err, List, [], arith, codes, false, inl, length, refl, true, ℕ, ◌&&◌, ◌++◌, ◌+◌, ◌<◌, ◌≡◌}
use Rattle.std.proofs.lemmas.Bool.Decides.{nat_tests}
use Rattle.std.specs.Prelude.{nat_le}
use Rattle.htmd_lexical.specs.Characters.{null}
use Rattle.htmd_lexical.specs.CharacterClasses.{is_empty, lacks}
use Rattle.htmd_grammar.specs.HtmlDocuments.{above_body}
use Rattle.htmd_lexical.specs.ByteOrderMarks.{byte_order_mark}
use Rattle.htmd_grammar.specs.Faults.{IsFault}
use Rattle.htmd_grammar.specs.Nesting.{is_allowed}
use Rattle.htmd_grammar.specs.References.{may_be_numbered}
use Rattle.htmd_grammar.specs.Rules.{Rules, named_characters, project}
use Rattle.htmd_values.specs.Serialisation.{is_void}
use Rattle.htmd_grammar.specs.ReaderSteps.{State, started, step}
use Rattle.htmd_grammar.specs.declared.fault.FaultKind.{FaultKind}
use Rattle.htmd_grammar.specs.declared.fault.FaultKind.TheVariants.{BadNumber, DuplicateAttribute, MalformedComment}
use Rattle.htmd_grammar.specs.declared.fault.FaultKind.TheVariants.{MalformedDeclaration, MalformedTag, NotAllowedHere}
use Rattle.htmd_grammar.specs.declared.fault.FaultKind.TheVariants.{Nul, ScriptEscape, SelfClosing, StrayEndTag}
use Rattle.htmd_grammar.specs.declared.fault.FaultKind.TheVariants.{StrayText, TagOutside, TooDeep, Unclosed}
use Rattle.htmd_grammar.specs.declared.fault.FaultKind.TheVariants.{UnknownReference}
use Rattle.htmd_grammar.proofs.RightFaults.{faults_are_right}
use Rattle.htmd_grammar.proofs.ComputedSteps.{steps, steps_reach}
use lib.Utf8.{encode}

-- a fault of the project's rules, as computed by this many steps
fault_of : (rules : Rules) (n : ℕ) (s : List ℕ) (place : ℕ) (kind : FaultKind) → lacks null s ≡ true
    → step rules above_body (steps rules n (started s)) ≡ Err kind
    → (is_empty (steps rules n (started s)).rest && nat_le (length (steps rules n (started s)).stack) 1) ≡ false
    → place + length (steps rules n (started s)).rest ≡ length s → IsFault rules s place kind
fault_of rules n s place kind l e o p = faults_are_right rules s (steps rules n (started s)) kind place l
    (steps_reach rules n (started s)) e (open_left (steps rules n (started s)) o) p
  where
    open_left : (st : State) → (is_empty st.rest && nat_le (length st.stack) 1) ≡ false → st.rest ≡ []
        → 1 < length st.stack
    open_left st o q = let z = rw q at o in grind (arith, nat_tests)

null_character : IsFault (project true) (codes "a\0") 1 Nul
null_character = inl (refl, record { before = codes "a"; behind = []; text_is = refl; place_is = refl; first = refl })

-- no `>`
tag_unended : IsFault (project true) (codes "<a href=\"x") 0 MalformedTag
unfolding step is_allowed is_void may_be_numbered encode
tag_unended = fault_of (project true) 60 (codes "<a href=\"x") 0 MalformedTag refl refl refl refl

tag_cut : IsFault (project true) (codes "<p") 0 MalformedTag
unfolding step is_allowed is_void may_be_numbered encode
tag_cut = fault_of (project true) 60 (codes "<p") 0 MalformedTag refl refl refl refl

quote_unended : IsFault (project true) (codes "<p>a<b c=\"d") 4 MalformedTag
unfolding step is_allowed is_void may_be_numbered encode
quote_unended = fault_of (project true) 60 (codes "<p>a<b c=\"d") 4 MalformedTag refl refl refl refl

slash_alone : IsFault (project true) (codes "<p>a<b c=\"d\">e</") 14 MalformedTag
unfolding step is_allowed is_void may_be_numbered encode
slash_alone = fault_of (project true) 60 (codes "<p>a<b c=\"d\">e</") 14 MalformedTag refl refl refl refl

end_tag_cut : IsFault (project true) (codes "<p>a<b c=\"d\">e</b></p") 18 MalformedTag
unfolding step is_allowed is_void may_be_numbered encode
end_tag_cut = fault_of (project true) 60 (codes "<p>a<b c=\"d\">e</b></p") 18 MalformedTag refl refl refl refl

-- its form fails, whatever else is wrong with it
form_before_the_rest : IsFault (project true) (codes "<i x=&bad; x=1") 0 MalformedTag
unfolding step is_allowed is_void may_be_numbered encode
form_before_the_rest = fault_of (project true) 60 (codes "<i x=&bad; x=1") 0 MalformedTag refl refl refl refl

-- where raw content ends
end_tag_of_raw_content : IsFault (project true) (codes "<title>a</title x>") 8 MalformedTag
unfolding step is_allowed is_void may_be_numbered encode
end_tag_of_raw_content = fault_of (project true) 60 (codes "<title>a</title x>") 8 MalformedTag refl refl refl refl

comment_unended : IsFault (project true) (codes "<!-- x") 0 MalformedComment
unfolding step is_allowed is_void may_be_numbered encode
comment_unended = fault_of (project true) 60 (codes "<!-- x") 0 MalformedComment refl refl refl refl

comment_begins_with_angle : IsFault (project true) (codes "a<!-->-->") 1 MalformedComment
unfolding step is_allowed is_void may_be_numbered encode
comment_begins_with_angle = fault_of (project true) 60 (codes "a<!-->-->") 1 MalformedComment refl refl refl refl

comment_holds_bang : IsFault (project true) (codes "<!--a--!>-->") 0 MalformedComment
unfolding step is_allowed is_void may_be_numbered encode
comment_holds_bang = fault_of (project true) 60 (codes "<!--a--!>-->") 0 MalformedComment refl refl refl refl

late_doctype : IsFault (project true) (codes "x<!DOCTYPE html>") 1 MalformedDeclaration
unfolding step is_allowed is_void may_be_numbered encode
late_doctype = fault_of (project true) 60 (codes "x<!DOCTYPE html>") 1 MalformedDeclaration refl refl refl refl

doctype_without_space : IsFault (project true) (codes "<!DOCTYPEhtml>") 0 MalformedDeclaration
unfolding step is_allowed is_void may_be_numbered encode
doctype_without_space = fault_of (project true) 60 (codes "<!DOCTYPEhtml>") 0 MalformedDeclaration refl refl refl refl

processing_instruction : IsFault (project true) (codes "a<?b?>") 1 MalformedDeclaration
unfolding step is_allowed is_void may_be_numbered encode
processing_instruction = fault_of (project true) 60 (codes "a<?b?>") 1 MalformedDeclaration refl refl refl refl

unknown_name : IsFault (project true) (codes "a&bogus;") 1 UnknownReference
unfolding step is_allowed is_void may_be_numbered encode
unknown_name = fault_of (project true) 60 (codes "a&bogus;") 1 UnknownReference refl refl refl refl

unknown_words : IsFault (project true) (codes "AT&T;") 2 UnknownReference
unfolding step is_allowed is_void may_be_numbered encode
unknown_words = fault_of (project true) 60 (codes "AT&T;") 2 UnknownReference refl refl refl refl

name_in_another_case : IsFault (project true) (codes "&Pound;") 0 UnknownReference
unfolding step is_allowed is_void may_be_numbered encode
name_in_another_case = fault_of (project true) 60 (codes "&Pound;") 0 UnknownReference refl refl refl refl

-- the lower kind of a tag that is whole
unknown_before_twice : IsFault (project true) (codes "<i x=&bad; x=1>") 0 UnknownReference
unfolding step is_allowed is_void may_be_numbered encode
unknown_before_twice = fault_of (project true) 60 (codes "<i x=&bad; x=1>") 0 UnknownReference refl refl refl refl

-- also where the number stands first
unknown_before_number : IsFault (project true) (codes "<i a=&#0; b=&bad;>") 0 UnknownReference
unfolding step is_allowed is_void may_be_numbered encode
unknown_before_number = fault_of (project true) 60 (codes "<i a=&#0; b=&bad;>") 0 UnknownReference refl refl refl refl

-- in content that holds only text a reference is asked, a tag is not
unknown_in_title : IsFault (project true) (codes "<title></i>&bogus;") 11 UnknownReference
unfolding step is_allowed is_void may_be_numbered encode
unknown_in_title = fault_of (project true) 60 (codes "<title></i>&bogus;") 11 UnknownReference refl refl refl refl

number_without_semicolon : IsFault (project true) (codes "&#65") 0 BadNumber
unfolding step is_allowed is_void may_be_numbered encode
number_without_semicolon = fault_of (project true) 60 (codes "&#65") 0 BadNumber refl refl refl refl

control : IsFault (project true) (codes "&#128;") 0 BadNumber
unfolding step is_allowed is_void may_be_numbered encode
control = fault_of (project true) 60 (codes "&#128;") 0 BadNumber refl refl refl refl

null_number : IsFault (project true) (codes "<p>&amp;&#0;</p>") 8 BadNumber
unfolding step is_allowed is_void may_be_numbered encode
null_number = fault_of (project true) 60 (codes "<p>&amp;&#0;</p>") 8 BadNumber refl refl refl refl

number_in_a_tag : IsFault (project true) (codes "a<b c=\"&#x;\">") 1 BadNumber
unfolding step is_allowed is_void may_be_numbered encode
number_in_a_tag = fault_of (project true) 60 (codes "a<b c=\"&#x;\">") 1 BadNumber refl refl refl refl

name_twice : IsFault (project true) (codes "<b a=1 A=2></b>") 0 DuplicateAttribute
unfolding step is_allowed is_void may_be_numbered encode
name_twice = fault_of (project true) 60 (codes "<b a=1 A=2></b>") 0 DuplicateAttribute refl refl refl refl

slash : IsFault (project true) (codes "<div/>") 0 SelfClosing
unfolding step is_allowed is_void may_be_numbered encode
slash = fault_of (project true) 60 (codes "<div/>") 0 SelfClosing refl refl refl refl

slash_of_a_path : IsFault (project true) (codes "<svg><path/></svg>") 5 SelfClosing
unfolding step is_allowed is_void may_be_numbered encode
slash_of_a_path = fault_of (project true) 60 (codes "<svg><path/></svg>") 5 SelfClosing refl refl refl refl

slash_behind_doctype : IsFault (project true) (codes "<!DOCTYPE html><p/>") 15 SelfClosing
unfolding step is_allowed is_void may_be_numbered encode
slash_behind_doctype = fault_of (project true) 60 (codes "<!DOCTYPE html><p/>") 15 SelfClosing refl refl refl refl

-- the lower kind
slash_before_outside : IsFault (project true) (codes "<body/>") 0 SelfClosing
unfolding step is_allowed is_void may_be_numbered encode
slash_before_outside = fault_of (project true) 60 (codes "<body/>") 0 SelfClosing refl refl refl refl

body_tag : IsFault (project true) (codes "<body>") 0 TagOutside
unfolding step is_allowed is_void may_be_numbered encode
body_tag = fault_of (project true) 60 (codes "<body>") 0 TagOutside refl refl refl refl

void_frame : IsFault (project true) (codes "<frame/>") 0 TagOutside
unfolding step is_allowed is_void may_be_numbered encode
void_frame = fault_of (project true) 60 (codes "<frame/>") 0 TagOutside refl refl refl refl

-- not a stray one
body_end_tag : IsFault (project true) (codes "</body>") 0 TagOutside
unfolding step is_allowed is_void may_be_numbered encode
body_end_tag = fault_of (project true) 60 (codes "</body>") 0 TagOutside refl refl refl refl

block_in_paragraph : IsFault (project true) (codes "<p><div>x</div></p>") 3 NotAllowedHere
unfolding step is_allowed is_void may_be_numbered encode
block_in_paragraph = fault_of (project true) 60 (codes "<p><div>x</div></p>") 3 NotAllowedHere refl refl refl refl

link_in_link : IsFault (project true) (codes "<a><b><a></a></b></a>") 6 NotAllowedHere
unfolding step is_allowed is_void may_be_numbered encode
link_in_link = fault_of (project true) 60 (codes "<a><b><a></a></b></a>") 6 NotAllowedHere refl refl refl refl

item_in_item : IsFault (project true) (codes "<ul><li>a<li>b</li></li></ul>") 9 NotAllowedHere
unfolding step is_allowed is_void may_be_numbered encode
item_in_item = fault_of (project true) 60 (codes "<ul><li>a<li>b</li></li></ul>") 9 NotAllowedHere refl refl refl refl

element_in_select : IsFault (project true) (codes "<select><b></b></select>") 8 NotAllowedHere
unfolding step is_allowed is_void may_be_numbered encode
element_in_select = fault_of (project true) 60 (codes "<select><b></b></select>") 8 NotAllowedHere refl refl refl refl

cell_in_table : IsFault (project true) (codes "<table><td></td></table>") 7 NotAllowedHere
unfolding step is_allowed is_void may_be_numbered encode
cell_in_table = fault_of (project true) 60 (codes "<table><td></td></table>") 7 NotAllowedHere refl refl refl refl

end_of_nothing : IsFault (project true) (codes "a</b>") 1 StrayEndTag
unfolding step is_allowed is_void may_be_numbered encode
end_of_nothing = fault_of (project true) 60 (codes "a</b>") 1 StrayEndTag refl refl refl refl

end_of_another : IsFault (project true) (codes "<b></i>") 3 StrayEndTag
unfolding step is_allowed is_void may_be_numbered encode
end_of_another = fault_of (project true) 60 (codes "<b></i>") 3 StrayEndTag refl refl refl refl

end_of_void : IsFault (project true) (codes "<br></br>") 4 StrayEndTag
unfolding step is_allowed is_void may_be_numbered encode
end_of_void = fault_of (project true) 60 (codes "<br></br>") 4 StrayEndTag refl refl refl refl

text_in_table : IsFault (project true) (codes "<table>x</table>") 7 StrayText
unfolding step is_allowed is_void may_be_numbered encode
text_in_table = fault_of (project true) 60 (codes "<table>x</table>") 7 StrayText refl refl refl refl

-- in the implied `tbody`
text_behind_row : IsFault (project true) (codes "<table><tr><td>x</td></tr>y</table>") 26 StrayText
unfolding step is_allowed is_void may_be_numbered encode
text_behind_row = fault_of (project true) 60 (codes "<table><tr><td>x</td></tr>y</table>") 26 StrayText refl refl refl
    refl

text_behind_space : IsFault (project true) (codes "<table> \r\n&nbsp;</table>") 10 StrayText
unfolding step is_allowed is_void may_be_numbered encode
text_behind_space = fault_of (project true) 60 (codes "<table> \r\n&nbsp;</table>") 10 StrayText refl refl refl refl

open_at_the_end : IsFault (project true) (codes "<div>a") 6 Unclosed
unfolding step is_allowed is_void may_be_numbered encode
open_at_the_end = fault_of (project true) 60 (codes "<div>a") 6 Unclosed refl refl refl refl

open_behind_angle : IsFault (project true) (codes "<p>a<") 5 Unclosed
unfolding step is_allowed is_void may_be_numbered encode
open_behind_angle = fault_of (project true) 60 (codes "<p>a<") 5 Unclosed refl refl refl refl

open_text_area : IsFault (project true) (codes "<textarea>a") 11 Unclosed
unfolding step is_allowed is_void may_be_numbered encode
open_text_area = fault_of (project true) 60 (codes "<textarea>a") 11 Unclosed refl refl refl refl

open_row : IsFault (project true) (codes "<table><tr>") 11 Unclosed
unfolding step is_allowed is_void may_be_numbered encode
open_row = fault_of (project true) 60 (codes "<table><tr>") 11 Unclosed refl refl refl refl

-- a byte order mark is three bytes
open_behind_mark : IsFault (project true) (byte_order_mark ++ codes "x<b>") 7 Unclosed
unfolding step is_allowed is_void may_be_numbered encode
open_behind_mark = fault_of (project true) 60 (byte_order_mark ++ codes "x<b>") 7 Unclosed refl refl refl refl

script_escape : IsFault (project true) (codes "<script><!--<script></script>") 8 ScriptEscape
unfolding step is_allowed is_void may_be_numbered encode
script_escape = fault_of (project true) 60 (codes "<script><!--<script></script>") 8 ScriptEscape refl refl refl refl

script_escape_at_the_end : IsFault (project true) (codes "<script><!--<SCRIPT") 8 ScriptEscape
unfolding step is_allowed is_void may_be_numbered encode
script_escape_at_the_end = fault_of (project true) 60 (codes "<script><!--<SCRIPT") 8 ScriptEscape refl refl refl refl

-- ---- too deep, where two levels below `body` are allowed

abbrev two_levels : Rules
two_levels = record { names = named_characters; depth = 4; scripting = true }

deep_text : IsFault two_levels (codes "<b><i>x") 6 TooDeep
unfolding step is_allowed is_void may_be_numbered encode
deep_text = fault_of two_levels 60 (codes "<b><i>x") 6 TooDeep refl refl refl refl

deep_element : IsFault two_levels (codes "<b><i><u></u>") 6 TooDeep
unfolding step is_allowed is_void may_be_numbered encode
deep_element = fault_of two_levels 60 (codes "<b><i><u></u>") 6 TooDeep refl refl refl refl

deep_comment : IsFault two_levels (codes "<b><i><!--x-->") 6 TooDeep
unfolding step is_allowed is_void may_be_numbered encode
deep_comment = fault_of two_levels 60 (codes "<b><i><!--x-->") 6 TooDeep refl refl refl refl

-- an implied `tbody` counts
deep_row : IsFault two_levels (codes "<b><table><tr></tr>") 10 TooDeep
unfolding step is_allowed is_void may_be_numbered encode
deep_row = fault_of two_levels 60 (codes "<b><table><tr></tr>") 10 TooDeep refl refl refl refl

deep_raw_text : IsFault two_levels (codes "<b><script>x") 11 TooDeep
unfolding step is_allowed is_void may_be_numbered encode
deep_raw_text = fault_of two_levels 60 (codes "<b><script>x") 11 TooDeep refl refl refl refl

-- a line feed that is dropped isn't text
dropped_line_feed : IsFault two_levels (codes "<b><pre>\nx") 9 TooDeep
unfolding step is_allowed is_void may_be_numbered encode
dropped_line_feed = fault_of two_levels 60 (codes "<b><pre>\nx") 9 TooDeep refl refl refl refl

-- the lower kind
unknown_before_depth : IsFault two_levels (codes "<b><i>&bad;") 6 UnknownReference
unfolding step is_allowed is_void may_be_numbered encode
unknown_before_depth = fault_of two_levels 60 (codes "<b><i>&bad;") 6 UnknownReference refl refl refl refl
