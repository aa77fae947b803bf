-- Start tags of elements of the head, and others.
use Rattle.std.proofs.Common.{◌≡◌, true, false, rules}
use Rattle.htmd_html5_state.specs.Names.{known}
use Rattle.htmd_html5_state.specs.State.{StateValue}
use Rattle.htmd_html5_state.specs.declared.names.TagName.{TagName}
use Rattle.htmd_html5.specs.Outcomes.{done, again}
use Rattle.htmd_html5.specs.InTemplate.{start_in_template, with_template_mode, mode_of_content}
use Rattle.htmd_html5.specs.SharedRules.{is_head_tag, insert_head_element}
use Rattle.htmd_html5.specs.Tokens.{StartTagValue}

pub head_in_template : (t : TagName) (tag : StartTagValue) (s : StateValue) → is_head_tag t ≡ true
    → start_in_template (known t) tag s ≡ done (insert_head_element tag.name tag s)
head_in_template t tag s e = search rules

pub other_in_template : (t : TagName) (tag : StartTagValue) (s : StateValue) → is_head_tag t ≡ false
    → start_in_template (known t) tag s ≡ again (with_template_mode (mode_of_content (known t)) s)
other_in_template t tag s e = search rules
