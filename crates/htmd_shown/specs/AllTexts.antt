-- All text of nodes, as a code block shows it.
use Rattle.std.specs.Prelude.{ℕ, Bool, true, false, not, ◌==◌, if◌then◌else◌, List, [], ◌∷◌, ◌++◌, codes, ◌&&◌, ◌||◌}
use Rattle.std.specs.Prelude.{encode_utf8_all, fold}
use Rattle.std.specs.List.{slice_split}
use Rattle.std.specs.Str.{chars}
use Rattle.htmd_lexical.specs.Characters.{line_feed, carriage_return}
use Rattle.htmd_lexical.specs.AttributePairs.{AttributePair}
use Rattle.htmd_text.specs.Trims.{trimmed_text, is_line_feed}
use Rattle.htmd_shown.specs.declared.role.Role.{Role}
use Rattle.htmd_shown.specs.Attributes.{text_of, in_line}
use Rattle.htmd_shown.specs.Roles.{is_cell, is_edged, is_line_break, is_part, is_row, is_table}
use Rattle.htmd_shown.specs.ShownTexts.{shown_text}
use Rattle.htmd_shown.specs.SimpleTrees.{Simple, text, image, formula, embedded, anchor, element, Simples, none, more}

abbrev pub dollar_sign : ℕ
dollar_sign = 0x24

-- a formula: its TeX in one line, between dollar signs
abbrev pub formula_text : List ℕ → List ℕ
formula_text tex = (dollar_sign ∷ in_line tex) ++ dollar_sign ∷ []

-- what an image says
abbrev pub image_text : List AttributePair → List ℕ
image_text attributes = shown_text (text_of (codes "alt") attributes)

abbrev pub ends_line : List ℕ → Bool
ends_line [] = false
ends_line (b ∷ []) = b == line_feed
ends_line (b ∷ c ∷ s) = ends_line (c ∷ s)

abbrev pub is_nothing : List ℕ → Bool
is_nothing [] = true
is_nothing (b ∷ s) = false

-- a block that can be a line of code: not a table, its parts and cells, but its rows
abbrev pub can_be_line : Role → Bool
can_be_line role = is_edged role && (not (is_table role) && (not (is_part role) && not (is_cell role)))

-- an element that says this is a line: such a block, if it says something, and any row
abbrev pub is_line : Role → List ℕ → Bool
is_line role inner = can_be_line role && (is_row role || not (is_nothing inner))

-- a line ends where its element does
abbrev pub with_line_end : List ℕ → List ℕ
with_line_end s = if ends_line s then s else s ++ line_feed ∷ []

-- what an element says, by what is in it: a `br` is a line feed, and rows and blocks are lines
abbrev pub text_in : Role → List ℕ → List ℕ
text_in role inner =
    if is_line_break role then line_feed ∷ []
    else (if is_line role inner then with_line_end inner else inner)

abbrev mutual
  pub all_text : Simple → List ℕ
  all_text (text s) = s
  all_text (image address attributes) = image_text attributes
  all_text (formula tex is_alone attributes) = formula_text tex
  all_text (embedded id address title attributes anchors) = title
  all_text (anchor id) = []
  all_text (element id role facts attributes content) = text_in role (all_text_among content)

  pub all_text_among : Simples → List ℕ
  all_text_among none = []
  all_text_among (more tree trees) = all_text tree ++ all_text_among trees

-- ---- lines

-- characters with a line feed for each line end so far, and whether a carriage return came last
pub record Lines : Type 0 where
  pub written : List ℕ
  pub after_return : Bool

-- what a character becomes: a line feed after a carriage return nothing
abbrev pub written_for : Bool → ℕ → List ℕ
written_for after_return c =
    if c == carriage_return then line_feed ∷ []
    else (if (c == line_feed) && after_return then [] else c ∷ [])

abbrev pub with_character : Lines → ℕ → Lines
with_character l c = record {
  written = l.written ++ written_for l.after_return c;
  after_return = c == carriage_return;
}

abbrev pub no_lines : Lines
no_lines = record { written = []; after_return = false }

-- each line end is one line feed
abbrev pub with_line_feeds : List ℕ → List ℕ
with_line_feeds s = encode_utf8_all (fold with_character no_lines (chars s)).written

-- the lines of a text, without line feeds at its ends
abbrev pub lines_of : List ℕ → List (List ℕ)
lines_of s = slice_split is_line_feed (trimmed_text is_line_feed s)

abbrev pub without_last_line_feed : List ℕ → List ℕ
without_last_line_feed [] = []
without_last_line_feed (b ∷ []) = if b == line_feed then [] else b ∷ []
without_last_line_feed (b ∷ c ∷ s) = b ∷ without_last_line_feed (c ∷ s)
