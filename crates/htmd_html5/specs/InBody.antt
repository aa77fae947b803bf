-- The mode "in body" (HTML Standard, 13.2.6.4.7).
use Rattle.std.specs.Prelude.{ℕ, if◌then◌else◌, List}
use Rattle.htmd_html5.specs.Tokens.{doctype, comment, TokenValue, start_tag, end_tag, run, end_of_file}
use Rattle.htmd_html5_state.specs.OpenElements.{is_open}
use Rattle.htmd_html5_state.specs.State.{StateValue}
use Rattle.htmd_html5_state.specs.Insertion.{insert_text, insert_comment}
use Rattle.htmd_html5_state.specs.Formatting.{reconstruct}
use Rattle.htmd_html5_state.specs.Resetting.{has_modes}
use Rattle.htmd_html5_state.specs.declared.sets.NameSet.TheVariants.{Only}
use Rattle.htmd_html5.specs.declared.tokens.RunKind.{RunKind}
use Rattle.htmd_html5.specs.declared.tokens.RunKind.TheVariants.{White, Nulls, Characters}
use Rattle.htmd_html5.specs.Outcomes.{Outcome, done, again}
use Rattle.htmd_html5.specs.SharedRules.{no_frameset, leave_template}
use Rattle.htmd_html5.specs.BodyStarts.{start_in_body}
use Rattle.htmd_html5.specs.BodyEnds.{end_in_body}
use Rattle.htmd_html5_state.specs.declared.names.TagName.TheVariants as tags

-- the end of the file ends the templates that are open (13.2.6.4.18)
abbrev pub end_of_file_in_template : StateValue → Outcome
end_of_file_in_template s = if is_open (Only tags.Template) s.stack then again (leave_template s) else done s

abbrev pub end_of_file_in_body : StateValue → Outcome
end_of_file_in_body s = if has_modes s.template_modes then end_of_file_in_template s else done s

abbrev pub run_in_body : RunKind → List ℕ → StateValue → StateValue
run_in_body White text s = insert_text text (reconstruct s)
run_in_body Nulls text s = s
run_in_body Characters text s = no_frameset (insert_text text (reconstruct s))

abbrev pub in_body : TokenValue → StateValue → Outcome
in_body (run kind text) s = done (run_in_body kind text s)
in_body (comment text) s = done (insert_comment text s)
in_body (doctype quirks) s = done s
in_body (start_tag tag) s = done (start_in_body tag s)
in_body (end_tag name) s = end_in_body name s
in_body end_of_file s = end_of_file_in_body s
