-- What a value tree is written as: the fragment serialisation (HTML Standard, 13.3, "Serializing HTML fragments"),
-- except that `<` and `>` stay in attribute values.
use Rattle.std.specs.Prelude.{ℕ, Bool, false, ◌&&◌, ◌==◌, if◌then◌else◌, List, [], ◌∷◌, ◌++◌, codes}
use Rattle.std.specs.List.{flat_map, list_any}
use Rattle.std.specs.Str.{bytes_eq}
use Rattle.htmd_lexical.specs.Characters.{quotation_mark, ampersand, less_than_sign, greater_than_sign}
use Rattle.htmd_lexical.specs.Characters.{no_break_space_first_byte, no_break_space_second_byte}
use Rattle.htmd_lexical.specs.AttributePairs.{AttributePair}
use Rattle.htmd_values.specs.ValueTrees.{ValueTree, document, doctype, text, comment, element}
use Rattle.htmd_values.specs.ValueTrees.{ValueForest, none, more}

-- ---- characters

-- a no-break space, in UTF-8
abbrev pub is_no_break_space : ℕ → ℕ → Bool
is_no_break_space b c = (b == no_break_space_first_byte) && (c == no_break_space_second_byte)

-- a byte of a text
abbrev pub text_byte : ℕ → List ℕ
text_byte b =
    if b == ampersand then codes "&amp;"
    else (if b == less_than_sign then codes "&lt;"
    else (if b == greater_than_sign then codes "&gt;" else b ∷ []))

-- a byte of an attribute value
abbrev pub value_byte : ℕ → List ℕ
value_byte b =
    if b == ampersand then codes "&amp;"
    else (if b == quotation_mark then codes "&quot;" else b ∷ [])

-- a text with each no-break space as a reference, and the other bytes written one by one
abbrev pub escaped_html : (ℕ → List ℕ) → List ℕ → List ℕ
escaped_html byte [] = []
escaped_html byte (b ∷ []) = byte b
escaped_html byte (b ∷ c ∷ s) =
    if is_no_break_space b c
    then codes "&nbsp;" ++ escaped_html byte s
    else byte b ++ escaped_html byte (c ∷ s)

-- ---- tags

-- the void elements, which have no end tag
abbrev pub void_elements : List (List ℕ)
void_elements =
    codes "area" ∷ codes "base" ∷ codes "basefont" ∷ codes "bgsound" ∷ codes "br" ∷ codes "col"
    ∷ codes "embed" ∷
    codes "frame" ∷ codes "hr" ∷ codes "img" ∷ codes "input" ∷ codes "keygen" ∷ codes "link" ∷ codes "meta"
    ∷
    codes "param" ∷ codes "source" ∷ codes "track" ∷ codes "wbr" ∷ []

-- the elements whose texts are written as they are
abbrev pub raw_text_elements : List (List ℕ)
raw_text_elements =
    codes "style" ∷ codes "script" ∷ codes "xmp" ∷ codes "iframe" ∷ codes "noembed" ∷ codes "noframes" ∷
    codes "plaintext" ∷ codes "noscript" ∷ []

unfoldable pub is_void : List ℕ → Bool
is_void name = list_any (bytes_eq name) void_elements

unfoldable pub is_raw_text : List ℕ → Bool
is_raw_text name = list_any (bytes_eq name) raw_text_elements

abbrev pub attribute_text : AttributePair → List ℕ
attribute_text attribute =
    codes " " ++ attribute.name ++ codes "=\"" ++ escaped_html value_byte attribute.value ++ codes "\""

abbrev pub start_tag : List ℕ → List AttributePair → List ℕ
start_tag name attributes = codes "<" ++ name ++ flat_map attribute_text attributes ++ codes ">"

abbrev pub end_tag : List ℕ → List ℕ
end_tag name = codes "</" ++ name ++ codes ">"

abbrev pub comment_of : List ℕ → List ℕ
comment_of s = codes "<!--" ++ s ++ codes "-->"

-- ---- trees

abbrev mutual
  -- a tree, where `raw` says whether a text is written as it is
  pub markup_of : Bool → ValueTree → List ℕ
  markup_of raw (document children) = all_markup_of false children
  markup_of raw doctype = codes "<!DOCTYPE html>"
  markup_of raw (text s) = if raw then s else escaped_html text_byte s
  markup_of raw (comment s) = comment_of s
  markup_of raw (element name attributes children) =
      if is_void name
      then start_tag name attributes
      else start_tag name attributes ++ all_markup_of (is_raw_text name) children ++ end_tag name

  pub all_markup_of : Bool → ValueForest → List ℕ
  all_markup_of raw none = []
  all_markup_of raw (more tree trees) = markup_of raw tree ++ all_markup_of raw trees

-- the serialisation of a tree: a text by itself is never raw
abbrev pub serialisation : ValueTree → List ℕ
serialisation tree = markup_of false tree
