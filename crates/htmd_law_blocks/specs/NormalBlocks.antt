-- The normal form of flat documents, as far as their blocks need it.
use Rattle.std.specs.Prelude.{◌≡◌, ◌≤◌, ℕ, ◌+◌, Bool, true, false, not, ◌&&◌, ◌||◌, nat_le, List, [], ◌∷◌, length, Option}
use Rattle.std.specs.Prelude.{Some, None}
use Rattle.std.specs.List.{list_all}
use Rattle.htmd_lexical.specs.Characters.{grave_accent, tilde, less_than_sign}
use Rattle.htmd_lexical.specs.CharacterClasses.{first_is, lacks}
use Rattle.htmd_document.specs.Documents.{Inlines, Block, Blocks, Items, paragraph, heading, code_block, quote}
use Rattle.htmd_document.specs.Documents.{thematic_break, list, table, element, tags, no_blocks, block, no_items, item}
use Rattle.htmd_document.specs.TightItems.{is_tight_item, is_short}
use Rattle.htmd_document.specs.DocumentLimits.{greatest_start}
use Rattle.htmd_commonmark.specs.BlockMarkdown.{item_count}
use Rattle.htmd_commonmark_reading.specs.Characters.{stripped}
use Rattle.htmd_commonmark_reading.specs.Lines.{line}
use Rattle.htmd_commonmark_reading.specs.Boxes as reading
use Rattle.htmd_commonmark_reading.specs.Boxes.{leaf}
use Rattle.htmd_commonmark_reading.specs.BlockStarts.{alone, started, first_line}
use Rattle.htmd_law_blocks.specs.LineTexts.{is_line_character, lines_of, AreBlack}

abbrev pub is_level : ℕ → Bool
is_level level = nat_le 1 level && nat_le level 6

-- a word that a reader takes for the language of code, after a fence of either kind (CommonMark 0.31.2, 4.5)
pub record IsLanguage (s : List ℕ) : Type 0 where
  pub plain : list_all is_line_character s ≡ true
  pub one_line : lines_of s ≡ s ∷ []
  pub bare : stripped s ≡ s
  pub word : reading.language s ≡ Some s
  pub no_accent : lacks grave_accent s ≡ true
  pub no_tilde : first_is tilde s ≡ false

abbrev pub HasLanguage : Option (List ℕ) → Type 0
HasLanguage None = Unit {0}
HasLanguage (Some s) = IsLanguage s

-- code without characters that a reader changes
abbrev pub IsCode : List ℕ → Type 0
IsCode s = list_all is_line_character s ≡ true

-- lines that begin an HTML block which a blank line ends, wherever it stands, and go on with it (4.6)
abbrev pub AreTagLines : List (List ℕ) → Type 0
AreTagLines [] = ⊥
AreTagLines (l ∷ ls) =
    (first_is less_than_sign l ≡ true)
    × ((k : ℕ) → started alone (line k l) ≡ first_line (leaf (reading.raw [] (l ∷ []))))
    × AreBlack ls

pub record IsTags (s : List ℕ) : Type 0 where
  pub plain : list_all is_line_character s ≡ true
  pub lines : AreTagLines (lines_of s)

abbrev pub HasBlock : Blocks → Type 0
HasBlock no_blocks = ⊥
HasBlock (block first rest) = Unit {0}

abbrev pub HasItem : Items → Type 0
HasItem no_items = ⊥
HasItem (item first rest) = Unit {0}

-- the numbers of a list have at most nine digits (5.2)
abbrev pub are_short_numbers : Option ℕ → ℕ → Bool
are_short_numbers None count = true
are_short_numbers (Some start) count = nat_le (start + count) (greatest_start + 1)

-- what an item of a tight list may hold: nothing, one block, or a paragraph and a list that can go on it
abbrev pub may_be_tight : Blocks → Bool
may_be_tight blocks = is_short blocks || is_tight_item blocks

abbrev pub fits_list : Bool → Blocks → Bool
fits_list is_tight blocks = not is_tight || may_be_tight blocks

abbrev pub HasCell : List Inlines → Type 0
HasCell [] = ⊥
HasCell (content ∷ rest) = Unit {0}

-- every row has a cell, and up to as many as the header
abbrev pub FitColumns : ℕ → List (List Inlines) → Type 0
FitColumns n [] = Unit {0}
FitColumns n (row ∷ rows) = (length row ≤ n) × HasCell row × FitColumns n rows

-- two items or two blocks of one, where a reader can see whether a blank line stands between them (5.3)
abbrev pub is_spread : Items → Bool
is_spread no_items = false
is_spread (item first no_items) = not (is_short first)
is_spread (item first (item second rest)) = true

abbrev mutual
  pub IsNormalBlock : Block → Type 0
  IsNormalBlock (paragraph content) = Unit {0}
  IsNormalBlock (heading level content) = is_level level ≡ true
  IsNormalBlock (code_block language s) = HasLanguage language × IsCode s
  IsNormalBlock (quote content) = HasBlock content × AreNormalBlocks content
  IsNormalBlock thematic_break = Unit {0}
  IsNormalBlock (element name attributes content) = ⊥
  IsNormalBlock (tags s) = IsTags s
  IsNormalBlock (list start is_tight items) =
      HasItem items × (are_short_numbers start (item_count items) ≡ true) × AreNormalItems is_tight items
      × ((is_tight || is_spread items) ≡ true)
  IsNormalBlock (table alignments header rows) =
      HasCell header × (length alignments ≡ length header) × FitColumns (length header) rows

  pub AreNormalBlocks : Blocks → Type 0
  AreNormalBlocks no_blocks = Unit {0}
  AreNormalBlocks (block first rest) = IsNormalBlock first × AreNormalBlocks rest

  pub AreNormalItems : Bool → Items → Type 0
  AreNormalItems is_tight no_items = Unit {0}
  AreNormalItems is_tight (item first rest) =
      (fits_list is_tight first ≡ true) × AreNormalBlocks first × AreNormalItems is_tight rest
