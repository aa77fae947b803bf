-- The pieces of a document, each with the headings that it stands under.
use Rattle.std.specs.Prelude.{ℕ, ◌+◌, ◌-◌, Bool, true, nat_lt, Option, Some, None, if◌then◌else◌, List, [], ◌∷◌}
use Rattle.std.specs.Prelude.{◌++◌, length, map, filter}
use Rattle.htmd_lexical.specs.Characters.{space}
use Rattle.htmd_markdown.specs.declared.link.LinkStyle.TheVariants.{Inlined}
use Rattle.htmd_document.specs.Documents.{Inline, text, code, formatted, link, image, anchor, line_break, task}
use Rattle.htmd_document.specs.Documents.{Inlines, no_inlines, inline, Block, heading, Blocks, no_blocks, block}
use Rattle.htmd_document.specs.Documents.{blocks_of}
use Rattle.htmd_commonmark.specs.declared.options.DocumentOptions.{DocumentOptions}
use Rattle.htmd_chunks.specs.Fillings.{Part}
use Rattle.htmd_chunks.specs.Runs.{is_none}
use Rattle.htmd_chunks.specs.Sections.{document_parts}
use Rattle.htmd_chunks.specs.declared.joint.Joint.{Joint}

-- `path`: what the headings say that it stands under, from the outermost; `start`: the place of its first block in the
-- document; `continues`: how it goes on with the piece before
pub record Piece : Type 0 where
  pub path : List (List ℕ)
  pub start : ℕ
  pub continues : List Joint
  pub blocks : Blocks

-- ---- what headings say

abbrev mutual
  pub said : Inline → List ℕ
  said (text s) = s
  said (code s) = s
  said (formatted format content) = said_in content
  said (link address title content) = said_in content
  said (image address title description) = description
  said (anchor id) = []
  said line_break = space ∷ []
  said (task is_checked) = []

  pub said_in : Inlines → List ℕ
  said_in no_inlines = []
  said_in (inline x rest) = said x ++ said_in rest

pub record Heading : Type 0 where
  pub level : ℕ
  pub text : List ℕ

-- those of a higher level than this
abbrev pub above : ℕ → List Heading → List Heading
above level path = filter (λ h. nat_lt h.level level) path

-- the headings that what follows a block stands under
abbrev pub path_behind : List Heading → Block → List Heading
path_behind path (heading level content) = above level path ++ record { level = level; text = said_in content } ∷ []
path_behind path _ = path

abbrev pub path_behind_all : List Heading → List Block → List Heading
path_behind_all path [] = path
path_behind_all path (b ∷ bs) = path_behind_all (path_behind path b) bs

-- the level of a heading that stands first
abbrev pub first_level : List Block → Option ℕ
first_level (heading level content ∷ bs) = Some level
first_level _ = None

abbrev pub is_under : Option ℕ → Heading → Bool
is_under None h = true
is_under (Some level) h = nat_lt h.level level

-- and those that these blocks stand under, which may begin with a heading
abbrev pub path_above : List Heading → List Block → List Heading
path_above path bs = filter (is_under (first_level bs)) path

-- ---- pieces

abbrev pub begin : ℕ → List Joint → ℕ
begin next continues = if is_none continues then next else next - 1

-- below these headings, before the block at this place or going on with the one before it
abbrev pub pieces_from : List Heading → ℕ → List Part → List Piece
pieces_from path next [] = []
pieces_from path next (p ∷ parts) =
    let start = begin next p.continues in
    record {
      path = map (λ h. h.text) (path_above path p.blocks);
      start = start;
      continues = p.continues;
      blocks = blocks_of p.blocks;
    } ∷ pieces_from (path_behind_all path p.blocks) (start + length p.blocks) parts

-- links are inline
abbrev pub piece_options : DocumentOptions → DocumentOptions
piece_options options = record options { link_style = Inlined }

-- the blocks of a document
abbrev pub listed : Blocks → List Block
listed no_blocks = []
listed (block b rest) = b ∷ listed rest

-- the pieces of a document, of at most so many bytes where it can be cut
abbrev pub chunks_of : DocumentOptions → ℕ → Blocks → List Piece
chunks_of options most document =
    pieces_from [] 0 (document_parts (record { most = most; options = piece_options options }) (listed document))
