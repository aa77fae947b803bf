-- The tokens of a page (HTML Standard, 13.2.5), and what the program's values denote.
use Rattle.std.specs.Prelude.{ℕ, Bool, List, string_bytes}
use Rattle.std.specs.Cow.{cow_str_bytes}
use Rattle.htmd_lexical.specs.AttributePairs.{AttributePair}
use Rattle.htmd_lexical.specs.Attributes.{pairs_of}
use Rattle.htmd_html5_tokens.specs.declared.tokens.Tag.{Tag}
use Rattle.htmd_html5_tokens.specs.declared.tokens.Token.{Token}
use Rattle.htmd_html5_tokens.specs.declared.tokens.Token.TheVariants.{StartTag, EndTag, Text, Comment, Doctype}
use Rattle.htmd_html5_tokens.specs.declared.tokens.Token.TheVariants.{EndOfFile}

pub record TagValue : Type 0 where
  pub name : List ℕ
  pub attributes : List AttributePair
  pub self_closing : Bool

pub data TokenValue : Type 0 where
  start_tag : TagValue → TokenValue
  end_tag : TagValue → TokenValue
  text : List ℕ → TokenValue
  comment : List ℕ → TokenValue
  -- whether it means quirks mode
  doctype : Bool → TokenValue
  end_of_file : TokenValue

-- a token, and the text after it
pub record Read : Type 0 where
  pub token : TokenValue
  pub rest : List ℕ

abbrev pub tag_of : Tag → TagValue
tag_of tag = record {
  name = cow_str_bytes tag.name;
  attributes = pairs_of tag.attributes.items;
  self_closing = tag.self_closing;
}

abbrev pub value_of : Token → TokenValue
value_of (StartTag tag) = start_tag (tag_of tag)
value_of (EndTag tag) = end_tag (tag_of tag)
value_of (Text s) = text (string_bytes s)
value_of (Comment s) = comment (string_bytes s)
value_of (Doctype quirks) = doctype quirks
value_of EndOfFile = end_of_file
