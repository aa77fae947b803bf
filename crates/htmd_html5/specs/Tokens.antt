-- The tokens of tree construction (HTML Standard, 13.2.6): tags with their names found, and texts run by run.
use Rattle.std.specs.Prelude.{ℕ, Bool, List}
use Rattle.htmd_lexical.specs.AttributePairs.{AttributePair}
use Rattle.htmd_html5_state.specs.Names.{NameValue, name_of}
use Rattle.htmd_lexical.specs.Attributes.{pairs_of}
use Rattle.htmd_html5.specs.declared.tokens.RunKind.{RunKind}
use Rattle.htmd_html5.specs.declared.tokens.StartTag.{StartTag}

pub record StartTagValue : Type 0 where
  pub name : NameValue
  pub attributes : List AttributePair
  pub self_closing : Bool

pub data TokenValue : Type 0 where
  start_tag : StartTagValue → TokenValue
  end_tag : NameValue → TokenValue
  run : RunKind → List ℕ → TokenValue
  comment : List ℕ → TokenValue
  -- whether it means quirks mode
  doctype : Bool → TokenValue
  end_of_file : TokenValue

-- what the program's start tag is
abbrev pub tag_of : StartTag → StartTagValue
tag_of tag = record {
  name = name_of tag.name;
  attributes = pairs_of tag.attributes.items;
  self_closing = tag.self_closing;
}
