-- What the Markdown of a document of paragraphs reads back as.
use Rattle.std.specs.Prelude.{◌≡◌, ℕ, ◌&&◌, ◌==◌, if◌then◌else◌, nat_lt, List, [], ◌∷◌, length, map, codes}
use Rattle.std.specs.Prelude.{Option, Some, None}
use Rattle.std.specs.List.{filter, onto_first}
use Rattle.std.specs.Option.{unwrap_or}
use Rattle.htmd_lexical.specs.Characters.{line_feed}
use Rattle.htmd_text.specs.Trims.{trimmed_start, trimmed_end, is_space}
use Rattle.htmd_text.specs.Unescape.{unescape}
use Rattle.htmd_text.specs.SqueezedTexts.{squeezed_text}
use Rattle.htmd_values.specs.ValueTrees.{ValueTree, document, text, element, ValueForest, none, more}
use Rattle.htmd_nodes.specs.Items.{Item}
use Rattle.htmd_nodes.specs.NumberedTrees.{tree_of, value_tree}
use Rattle.htmd_walk.specs.declared.options.Options.{Options}
use Rattle.htmd_walk.specs.Choice.{Config}
use Rattle.htmd_walk.specs.BuiltIn.{built_in}

-- ---- documents of paragraphs

-- no child, or one text
abbrev pub text_alone : Option (List ℕ) → ValueForest
text_alone None = none
text_alone (Some s) = more (text s) none

-- a `p` without attributes
abbrev pub paragraph : Option (List ℕ) → ValueTree
paragraph held = element (codes "p") [] (text_alone held)

abbrev pub paragraphs : List (Option (List ℕ)) → ValueForest
paragraphs [] = none
paragraphs (held ∷ texts) = more (paragraph held) (paragraphs texts)

-- ---- how their Markdown is read

-- a text, cut at each two line feeds, from left to right
abbrev pub cut_at_blank_lines : List ℕ → List (List ℕ)
cut_at_blank_lines [] = [] ∷ []
cut_at_blank_lines (b ∷ []) = (b ∷ []) ∷ []
cut_at_blank_lines (b ∷ c ∷ s) =
    if (b == line_feed) && (c == line_feed)
    then [] ∷ cut_at_blank_lines s
    else onto_first b (cut_at_blank_lines (c ∷ s))

-- its parts; the empty text has none
abbrev pub parts_of : List ℕ → List (List ℕ)
parts_of [] = []
parts_of (b ∷ s) = cut_at_blank_lines (b ∷ s)

-- the texts that are read: the parts, without the backslashes that escape
abbrev pub texts_read : List ℕ → List (List ℕ)
texts_read s = map unescape (parts_of s)

-- ---- what is read

-- a text as it is shown: squeezed, without leading space
abbrev pub text_shown : List ℕ → List ℕ
text_shown s = trimmed_start is_space (squeezed_text s)

-- the last text without its final space
abbrev pub with_last_trimmed : List (List ℕ) → List (List ℕ)
with_last_trimmed [] = []
with_last_trimmed (s ∷ []) = trimmed_end is_space s ∷ []
with_last_trimmed (s ∷ t ∷ texts) = s ∷ with_last_trimmed (t ∷ texts)

-- texts as they are shown, one paragraph each, without the empty ones
abbrev pub texts_shown : List (List ℕ) → List (List ℕ)
texts_shown texts = with_last_trimmed (filter (λ s. nat_lt 0 (length s)) (map text_shown texts))

-- If all handlers are built in, and the node is a Document whose children are `p` without attributes, each holding at
-- most one text, this Markdown reads back as the texts as they are shown; no text counts as the empty one.
abbrev pub ParagraphsReadBack : Config → List Item → ℕ → List ℕ → Type 0
ParagraphsReadBack config items node markdown =
    (options : Options) (texts : List (Option (List ℕ)))
    → config ≡ built_in options → node ≡ 0 → value_tree (tree_of items node) ≡ document (paragraphs texts)
    → texts_read markdown ≡ texts_shown (map (λ held. unwrap_or held []) texts)
