-- The modes "in frameset", "after frameset" and "after after frameset" (HTML Standard, 13.2.6.4.20, 13.2.6.4.21 and
-- 13.2.6.4.23).
use Rattle.std.specs.Prelude.{ℕ, if◌then◌else◌, List}
use Rattle.htmd_html5_state.specs.Names.{NameValue, known}
use Rattle.htmd_html5.specs.Tokens.{doctype, comment, StartTagValue, TokenValue, start_tag, end_tag, run, end_of_file}
use Rattle.htmd_html5_state.specs.OpenElements.{current_is, has_second, pop}
use Rattle.htmd_html5_state.specs.State.{StateValue, on_stack}
use Rattle.htmd_html5_state.specs.Insertion.{insert_text, insert_comment_in, insert_comment}
use Rattle.htmd_html5_state.specs.declared.modes.InsertionMode.TheVariants.{AfterFrameset, AfterAfterFrameset}
use Rattle.htmd_html5_state.specs.declared.sets.NameSet.TheVariants.{Only}
use Rattle.htmd_html5.specs.declared.tokens.RunKind.{RunKind}
use Rattle.htmd_html5.specs.declared.tokens.RunKind.TheVariants.{White}
use Rattle.htmd_html5.specs.Outcomes.{Outcome, done}
use Rattle.htmd_html5.specs.SharedRules.{with_mode, insert_tag, insert_void_tag, add_to_root, insert_head_element}
use Rattle.htmd_html5.specs.InBody.{run_in_body}
use Rattle.htmd_html5_state.specs.declared.names.TagName.TheVariants as tags

-- ---- in a frameset

abbrev pub start_in_frameset : NameValue → StartTagValue → StateValue → StateValue
start_in_frameset (known tags.Html) tag s = add_to_root tag s
start_in_frameset (known tags.FrameSet) tag s = insert_tag tag s
start_in_frameset (known tags.Frame) tag s = insert_void_tag tag s
start_in_frameset (known tags.NoFrames) tag s = insert_head_element tag.name tag s
start_in_frameset _ tag s = s

-- the outermost one ends the mode
abbrev pub with_frameset_closed : StateValue → StateValue
with_frameset_closed s =
    if current_is (Only tags.FrameSet) s.stack then s else with_mode AfterFrameset s

abbrev pub end_frameset : StateValue → StateValue
end_frameset s = if has_second s.stack then with_frameset_closed (on_stack pop s) else s

abbrev pub end_in_frameset : NameValue → StateValue → StateValue
end_in_frameset (known tags.FrameSet) s = end_frameset s
end_in_frameset _ s = s

abbrev pub run_in_frameset : RunKind → List ℕ → StateValue → StateValue
run_in_frameset White text s = insert_text text s
run_in_frameset _ text s = s

abbrev pub in_frameset : TokenValue → StateValue → Outcome
in_frameset (run kind text) s = done (run_in_frameset kind text s)
in_frameset (comment text) s = done (insert_comment text s)
in_frameset (doctype quirks) s = done s
in_frameset (start_tag tag) s = done (start_in_frameset tag.name tag s)
in_frameset (end_tag name) s = done (end_in_frameset name s)
in_frameset end_of_file s = done s

-- ---- after it

abbrev pub start_after_frameset : NameValue → StartTagValue → StateValue → StateValue
start_after_frameset (known tags.Html) tag s = add_to_root tag s
start_after_frameset (known tags.NoFrames) tag s = insert_head_element tag.name tag s
start_after_frameset _ tag s = s

abbrev pub end_after_frameset : NameValue → StateValue → StateValue
end_after_frameset (known tags.Html) s = with_mode AfterAfterFrameset s
end_after_frameset _ s = s

abbrev pub after_frameset : TokenValue → StateValue → Outcome
after_frameset (run kind text) s = done (run_in_frameset kind text s)
after_frameset (comment text) s = done (insert_comment text s)
after_frameset (doctype quirks) s = done s
after_frameset (start_tag tag) s = done (start_after_frameset tag.name tag s)
after_frameset (end_tag name) s = done (end_after_frameset name s)
after_frameset end_of_file s = done s

-- white space is inserted as in the body
abbrev pub run_after_frameset : RunKind → List ℕ → StateValue → StateValue
run_after_frameset White text s = run_in_body White text s
run_after_frameset _ text s = s

abbrev pub after_after_frameset : TokenValue → StateValue → Outcome
after_after_frameset (run kind text) s = done (run_after_frameset kind text s)
after_after_frameset (comment text) s = done (insert_comment_in 0 text s)
after_after_frameset (doctype quirks) s = done s
after_after_frameset (start_tag tag) s = done (start_after_frameset tag.name tag s)
after_after_frameset (end_tag name) s = done s
after_after_frameset end_of_file s = done s
