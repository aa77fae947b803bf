-- What a token of the tokenizer does; the mode "text" (HTML Standard, 13.2.6.4.8).
use Rattle.std.specs.Prelude.{ℕ, Bool, true, false, ◌&&◌, if◌then◌else◌, List, drop}
use Rattle.htmd_lexical.specs.CharacterClasses.{is_empty, first_is}
use Rattle.htmd_lexical.specs.Characters.{line_feed}
use Rattle.htmd_html5_state.specs.Names.{NameValue, name_of_text}
use Rattle.htmd_html5.specs.Tokens.{doctype, comment, StartTagValue, start_tag, end_tag, end_of_file}
use Rattle.htmd_html5_state.specs.OpenElements.{pop}
use Rattle.htmd_html5_state.specs.State.{StateValue, on_stack}
use Rattle.htmd_html5_state.specs.Insertion.{insert_text}
use Rattle.htmd_lexical.specs.declared.content_model.ContentModel.{ContentModel}
use Rattle.htmd_lexical.specs.declared.content_model.ContentModel.TheVariants.{Normal, Raw}
use Rattle.htmd_html5_tokens.specs.Tokens.{TagValue}
use Rattle.htmd_html5.specs.Processing.{process}
use Rattle.htmd_html5.specs.Texts.{put_text}
use Rattle.htmd_lexical.specs.declared.content_model.RawElement.TheVariants as raw
use Rattle.htmd_html5_tokens.specs.Tokens as tokens

-- an element of only text is open, up to its end tag
abbrev pub is_text_mode : ContentModel → Bool
is_text_mode Normal = false
is_text_mode (Raw raw.Plaintext) = false
is_text_mode (Raw _) = true

abbrev pub put_raw_text : List ℕ → StateValue → StateValue
put_raw_text text s = if is_empty text then s else insert_text text s

abbrev pub feed_text : List ℕ → StateValue → StateValue
feed_text text s = if is_text_mode s.content then put_raw_text text s else put_text text s

abbrev pub without_line_feed : Bool → List ℕ → List ℕ
without_line_feed skips text = if skips && first_is line_feed text then drop 1 text else text

abbrev pub with_nothing_skipped : StateValue → StateValue
with_nothing_skipped s = record s { skips_line_feed = false }

abbrev pub close_raw : StateValue → StateValue
close_raw s = record (on_stack pop s) { content = Normal }

abbrev pub out_of_text_mode : StateValue → StateValue
out_of_text_mode s = if is_text_mode s.content then close_raw s else s

abbrev pub feed_end_tag : NameValue → StateValue → StateValue
feed_end_tag name s = if is_text_mode s.content then close_raw s else process (end_tag name) s

abbrev pub named : TagValue → StartTagValue
named tag = record {
  name = name_of_text tag.name;
  attributes = tag.attributes;
  self_closing = tag.self_closing;
}

abbrev pub feed_at : tokens.TokenValue → Bool → StateValue → StateValue
feed_at (tokens.text text) skips s = feed_text (without_line_feed skips text) s
feed_at (tokens.start_tag tag) skips s = process (start_tag (named tag)) (out_of_text_mode s)
feed_at (tokens.end_tag tag) skips s = feed_end_tag (name_of_text tag.name) s
feed_at (tokens.comment text) skips s = process (comment text) (out_of_text_mode s)
feed_at (tokens.doctype quirks) skips s = process (doctype quirks) (out_of_text_mode s)
feed_at tokens.end_of_file skips s = process end_of_file (out_of_text_mode s)

abbrev pub feed : tokens.TokenValue → StateValue → StateValue
feed token s = feed_at token s.skips_line_feed (with_nothing_skipped s)
