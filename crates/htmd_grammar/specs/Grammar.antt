-- The strict grammar: which trees a text denotes in the context of its ancestors.
use Rattle.std.specs.Prelude.{◌≡◌, ◌≢◌, ◌⊎◌, ℕ, ◌≤◌, Bool, true, false, ◌&&◌, ◌==◌, if◌then◌else◌, List, [], ◌∷◌, ◌++◌}
use Rattle.std.specs.Prelude.{length, map, Some, ⊤}
use Rattle.std.specs.Bool.{MatchBool}
use Rattle.std.specs.List.{list_all}
use Rattle.std.specs.Char.{to_ascii_lowercase, is_ascii_alphabetic}
use Rattle.htmd_lexical.specs.Characters.{less_than_sign}
use Rattle.htmd_lexical.specs.WhiteSpace.{is_ascii_white_space}
use Rattle.htmd_values.specs.ValueTrees.{ValueTree, document, doctype, text, comment, element, ValueForest, none, more}
use Rattle.htmd_lexical.specs.CharacterClasses.{is_tag_name_byte, leading_run, up_to}
use Rattle.htmd_grammar.specs.Rules.{Rules}
use Rattle.htmd_grammar.specs.Tags.{IsStartTag, IsEndTag}
use Rattle.htmd_grammar.specs.Comments.{IsComment}
use Rattle.htmd_grammar.specs.RawContent.{holds_text_alone, ends_text, text_of, content_of}
use Rattle.htmd_grammar.specs.Nesting.{Context, parent_name, is_table_part, is_tbody, is_row, holds_parts, is_allowed}
use Rattle.htmd_values.specs.Serialisation.{is_void}

-- ---- neighbours

-- a text is a maximal run: no two are neighbours
abbrev pub Apart : ValueTree → ValueForest → Type 0
Apart (text u) (more (text v) ts) = ⊥
Apart _ _ = ⊤

-- the name of the start tag with which the text begins, in lower case
abbrev pub tag_name_at : List ℕ → List ℕ
tag_name_at [] = []
tag_name_at (b ∷ []) = []
tag_name_at (b ∷ c ∷ s) = if b == less_than_sign && is_ascii_alphabetic c
    then map to_ascii_lowercase (leading_run is_tag_name_byte (c ∷ s)) else []

-- An implied `tbody` ends before the next part of the table, or where its content ends. The flag says whether it may
-- where these nodes end, whose text is given.
abbrev pub may_end_rows : Bool → ValueForest → List ℕ → Bool
may_end_rows last none s = last
may_end_rows last (more t ts) s = is_table_part (tag_name_at s)

-- a `tr` implies a `tbody`
abbrev pub begins_with_row : ValueForest → Bool
begins_with_row none = false
begins_with_row (more (element n attributes children) ts) = is_row n
begins_with_row (more _ ts) = false

-- ---- what a text denotes

module _ (rules : Rules) where
  abbrev mutual
    -- The text denotes this tree. The flag says whether an implied `tbody` may end where the text ends.
    pub ReadsTree : Context → Bool → ValueTree → List ℕ → Type 0
    ReadsTree c last (document children) s = ⊥
    ReadsTree c last doctype s = ⊥
    -- characters and references, up to what ends a text; between the parts of a table they are white space
    ReadsTree c last (text u) s =
        (u ≢ []) × (up_to (ends_text rules.scripting (parent_name c)) s ≡ s)
        × (text_of rules (parent_name c) s ≡ Some u)
        × (holds_parts (parent_name c) ≡ true → list_all is_ascii_white_space u ≡ true)
        × (length c ≤ rules.depth)
    ReadsTree c last (comment u) s =
        IsComment s u × (holds_text_alone rules.scripting (parent_name c) ≡ false) × (length c ≤ rules.depth)
    -- a start tag, and unless the element is void its content and end tag; or an implied `tbody`, whose end tag may be
    -- absent
    ReadsTree c last (element n attributes children) s =
        (is_allowed rules.scripting c n ≡ true) × (length c ≤ rules.depth)
        × (((tag inner end : List ℕ) × (s ≡ tag ++ (inner ++ end)) × IsStartTag rules.names tag n attributes
        × MatchBool (is_void n) ((inner ≡ []) × (end ≡ []) × (children ≡ none))
        (ReadsForest (n ∷ c) true children (content_of n inner) × IsEndTag end n))
        ⊎ ((inner end : List ℕ) × (s ≡ inner ++ end) × (is_tbody n ≡ true) × (attributes ≡ [])
        × (begins_with_row children ≡ true)
        × ReadsForest (n ∷ c) true children inner × (IsEndTag end n ⊎ ((end ≡ []) × (last ≡ true)))))

    -- one tree after another
    pub ReadsForest : Context → Bool → ValueForest → List ℕ → Type 0
    ReadsForest c last none s = s ≡ []
    ReadsForest c last (more t ts) s =
        (this rest : List ℕ) × (s ≡ this ++ rest) × Apart t ts
        × ReadsTree c (may_end_rows last ts rest) t this × ReadsForest c last ts rest

  -- in the context the text denotes these trees
  abbrev pub reads : Context → List ℕ → ValueForest → Type 0
  reads c s ts = ReadsForest c true ts s
