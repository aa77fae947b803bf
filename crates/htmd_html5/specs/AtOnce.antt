-- Where a text is put all at once: the parts of it, put one after another, would be joined.
use Rattle.std.specs.Prelude.{ℕ, Bool, true, false, not, ◌&&◌, if◌then◌else◌, List}
use Rattle.std.specs.List.{list_all}
use Rattle.htmd_lexical.specs.CharacterClasses.{is_empty}
use Rattle.htmd_lexical.specs.WhiteSpace.{is_ascii_white_space}
use Rattle.htmd_html5_state.specs.Foreign.{current_is_html}
use Rattle.htmd_html5_state.specs.Insertion.{insert_text}
use Rattle.htmd_html5_state.specs.AppendedTexts.{appends_text}
use Rattle.htmd_html5_state.specs.State.{StateValue}
use Rattle.htmd_html5_state.specs.declared.modes.InsertionMode.TheVariants.{InBody, InCaption, InCell}
use Rattle.htmd_html5_state.specs.declared.modes.InsertionMode.{InsertionMode}
use Rattle.htmd_html5.specs.Runs.{is_null}
use Rattle.htmd_html5.specs.SharedRules.{no_frameset}

-- modes that put text as the mode "in body" does
abbrev pub is_body_mode : InsertionMode → Bool
is_body_mode InBody = true
is_body_mode InCaption = true
is_body_mode InCell = true
is_body_mode _ = false

abbrev pub is_not_null : ℕ → Bool
is_not_null b = not (is_null b)

abbrev pub takes_at_once : StateValue → Bool
takes_at_once s = is_body_mode s.mode && current_is_html s.stack && appends_text s

-- a text that is put at once has a character, and none is U+0000
abbrev pub is_without_null : List ℕ → Bool
is_without_null text = not (is_empty text) && list_all is_not_null text

-- frameset-ok after a text
abbrev pub frameset_after : List ℕ → StateValue → StateValue
frameset_after text s = if list_all is_ascii_white_space text then s else no_frameset s

abbrev pub put_at_once : List ℕ → StateValue → StateValue
put_at_once text s = frameset_after text (insert_text text s)
