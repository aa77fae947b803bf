-- Texts that denote nothing, each with the place and kind of its refusal: the places, and what is too deep.
use Rattle.std.proofs.Common.{codes, false, refl, true, ℕ}
use Rattle.htmd_grammar.specs.Nesting.{is_allowed}
use Rattle.htmd_grammar.specs.References.{may_be_numbered}
use Rattle.htmd_grammar.specs.Rules.{Rules, named_characters, project}
use Rattle.htmd_values.specs.Serialisation.{is_void}
use Rattle.htmd_grammar.specs.ReaderSteps.{step}
use Rattle.htmd_grammar.specs.declared.fault.FaultKind.TheVariants.{BadNumber, MalformedComment, MalformedDeclaration}
use Rattle.htmd_grammar.specs.declared.fault.FaultKind.TheVariants.{MalformedTag, NotAllowedHere, StrayText, TooDeep}
use Rattle.htmd_grammar.proofs.ComputedSteps.{Refuses, refuses}
use lib.Utf8.{encode}

-- the project's names, and this many levels below the Document
abbrev shallow_rules : ℕ → Rules
shallow_rules n = record { names = named_characters; depth = n; scripting = true }

open_tag : Refuses (project true) (codes "<p>a<b c=\"d\"") 4 MalformedTag
unfolding step is_allowed is_void may_be_numbered encode
open_tag = refuses (project true) (codes "<p>a<b c=\"d\"") 4 MalformedTag 60 refl refl refl refl

raw_end_tag : Refuses (project true) (codes "<script>x</script y>") 9 MalformedTag
unfolding step is_allowed is_void may_be_numbered encode
raw_end_tag = refuses (project true) (codes "<script>x</script y>") 9 MalformedTag 60 refl refl refl refl

abrupt_comment : Refuses (project true) (codes "<!-->-->") 0 MalformedComment
unfolding step is_allowed is_void may_be_numbered encode
abrupt_comment = refuses (project true) (codes "<!-->-->") 0 MalformedComment 60 refl refl refl refl

comment_with_bang : Refuses (project true) (codes "a<!--x--!>y-->") 1 MalformedComment
unfolding step is_allowed is_void may_be_numbered encode
comment_with_bang = refuses (project true) (codes "a<!--x--!>y-->") 1 MalformedComment 60 refl refl refl refl

processing_instruction : Refuses (project true) (codes "<?xml?>") 0 MalformedDeclaration
unfolding step is_allowed is_void may_be_numbered encode
processing_instruction = refuses (project true) (codes "<?xml?>") 0 MalformedDeclaration 60 refl refl refl refl

number_in_tag : Refuses (project true) (codes "<b><i a=\"x&#xD800;\"></i></b>") 3 BadNumber
unfolding step is_allowed is_void may_be_numbered encode
number_in_tag = refuses (project true) (codes "<b><i a=\"x&#xD800;\"></i></b>") 3 BadNumber 60 refl refl refl refl

block_in_button_in_paragraph : Refuses (project true) (codes "<p><button><div></div></button></p>") 11 NotAllowedHere
unfolding step is_allowed is_void may_be_numbered encode
block_in_button_in_paragraph = refuses (project true) (codes "<p><button><div></div></button></p>") 11 NotAllowedHere 60
    refl refl refl refl

optgroup_in_optgroup : Refuses (project true) (codes "<optgroup><optgroup></optgroup></optgroup>") 10 NotAllowedHere
unfolding step is_allowed is_void may_be_numbered encode
optgroup_in_optgroup = refuses (project true) (codes "<optgroup><optgroup></optgroup></optgroup>") 10 NotAllowedHere 60
    refl refl refl refl

heading_in_heading : Refuses (project true) (codes "<h1><h2></h2></h1>") 4 NotAllowedHere
unfolding step is_allowed is_void may_be_numbered encode
heading_in_heading = refuses (project true) (codes "<h1><h2></h2></h1>") 4 NotAllowedHere 60 refl refl refl refl

term_in_description : Refuses (project true) (codes "<dl><dd><dt></dt></dd></dl>") 8 NotAllowedHere
unfolding step is_allowed is_void may_be_numbered encode
term_in_description = refuses (project true) (codes "<dl><dd><dt></dt></dd></dl>") 8 NotAllowedHere 60 refl refl refl
    refl

head_of_no_table : Refuses (project true) (codes "<div><thead></thead></div>") 5 NotAllowedHere
unfolding step is_allowed is_void may_be_numbered encode
head_of_no_table = refuses (project true) (codes "<div><thead></thead></div>") 5 NotAllowedHere 60 refl refl refl refl

row_of_no_table : Refuses (project true) (codes "<div><tr></tr></div>") 5 NotAllowedHere
unfolding step is_allowed is_void may_be_numbered encode
row_of_no_table = refuses (project true) (codes "<div><tr></tr></div>") 5 NotAllowedHere 60 refl refl refl refl

column_of_no_group : Refuses (project true) (codes "<table><col></table>") 7 NotAllowedHere
unfolding step is_allowed is_void may_be_numbered encode
column_of_no_group = refuses (project true) (codes "<table><col></table>") 7 NotAllowedHere 60 refl refl refl refl

phrase_in_table : Refuses (project true) (codes "<table><b></b></table>") 7 NotAllowedHere
unfolding step is_allowed is_void may_be_numbered encode
phrase_in_table = refuses (project true) (codes "<table><b></b></table>") 7 NotAllowedHere 60 refl refl refl refl

phrase_in_option : Refuses (project true) (codes "<option><b></b></option>") 8 NotAllowedHere
unfolding step is_allowed is_void may_be_numbered encode
phrase_in_option = refuses (project true) (codes "<option><b></b></option>") 8 NotAllowedHere 60 refl refl refl refl

select_in_optgroup : Refuses (project true) (codes "<optgroup><b></b></optgroup>") 10 NotAllowedHere
unfolding step is_allowed is_void may_be_numbered encode
select_in_optgroup = refuses (project true) (codes "<optgroup><b></b></optgroup>") 10 NotAllowedHere 60 refl refl refl
    refl

paragraph_in_noscript : Refuses (project false) (codes "<p><noscript><p></p></noscript></p>") 13 NotAllowedHere
unfolding step is_allowed is_void may_be_numbered encode
paragraph_in_noscript = refuses (project false) (codes "<p><noscript><p></p></noscript></p>") 13 NotAllowedHere 60 refl
    refl refl refl

reference_in_table : Refuses (project true) (codes "<table> &amp;</table>") 8 StrayText
unfolding step is_allowed is_void may_be_numbered encode
reference_in_table = refuses (project true) (codes "<table> &amp;</table>") 8 StrayText 60 refl refl refl refl

element_too_deep : Refuses (shallow_rules 3) (codes "<b><i></i></b>") 3 TooDeep
unfolding step is_allowed is_void may_be_numbered encode
element_too_deep = refuses (shallow_rules 3) (codes "<b><i></i></b>") 3 TooDeep 60 refl refl refl refl

row_too_deep : Refuses (shallow_rules 4) (codes "<table><tr></tr></table>") 7 TooDeep
unfolding step is_allowed is_void may_be_numbered encode
row_too_deep = refuses (shallow_rules 4) (codes "<table><tr></tr></table>") 7 TooDeep 60 refl refl refl refl

text_too_deep : Refuses (shallow_rules 3) (codes "<pre>\r\nx</pre>") 7 TooDeep
unfolding step is_allowed is_void may_be_numbered encode
text_too_deep = refuses (shallow_rules 3) (codes "<pre>\r\nx</pre>") 7 TooDeep 60 refl refl refl refl

comment_too_deep : Refuses (shallow_rules 3) (codes "<b><!--c--></b>") 3 TooDeep
unfolding step is_allowed is_void may_be_numbered encode
comment_too_deep = refuses (shallow_rules 3) (codes "<b><!--c--></b>") 3 TooDeep 60 refl refl refl refl

raw_text_too_deep : Refuses (shallow_rules 3) (codes "<style>x") 7 TooDeep
unfolding step is_allowed is_void may_be_numbered encode
raw_text_too_deep = refuses (shallow_rules 3) (codes "<style>x") 7 TooDeep 60 refl refl refl refl
