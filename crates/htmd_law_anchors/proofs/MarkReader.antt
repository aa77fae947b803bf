-- The reader that takes visible characters and anchors.
use Rattle.std.proofs.Common.{◌≡◌, ℕ, List, [], ◌∷◌, ◌++◌, map, refl, ap, ◌∙◌}
use Rattle.std.specs.List.{flat_map}
use Rattle.std.specs.Str.{IsUtf8}
use Rattle.std.proofs.lemmas.List.{map-append}
use Rattle.htmd_document.specs.Documents.{Inline, text, code, formatted, link, image, line_break, task, Inlines}
use Rattle.htmd_document.specs.Documents.{anchor}
use Rattle.htmd_document.specs.Documents.{no_inlines, inline, Block, paragraph, heading, code_block, quote}
use Rattle.htmd_document.specs.Documents.{element, tags}
use Rattle.htmd_document.specs.Documents.{thematic_break, list, table, Blocks, no_blocks, block, Items, no_items, item}
use Rattle.htmd_law_documents.specs.DocumentTexts.{visible}
use Rattle.htmd_law_documents.proofs.VisibleLemmas.{shows-nil, visible-append}
use Rattle.htmd_law_documents.proofs.Readers.{Reader, read_inline, read_line, read_cells, read_block, read_blocks}
use Rattle.htmd_law_documents.proofs.Readers.{read_items}
use Rattle.htmd_law_anchors.specs.DocumentMarks.{Mark, letter, place, letters, marks_of_inline, marks_of_line}
use Rattle.htmd_law_anchors.specs.DocumentMarks.{marks_of_cells, marks_of_block, marks_of_blocks, marks_of_items}

pub letters-append : (s t : List ℕ) → IsUtf8 s → letters (s ++ t) ≡ letters s ++ letters t
letters-append s t u = ap (map letter) (visible-append s t u) ∙ map-append letter (visible s) (visible t)

abbrev pub marks : Reader
marks = record {
  Wrap = Unit {0};
  Seen = Mark;
  as_format = λ format. tt;
  as_link = λ address. tt;
  read = λ wrappers is_code s. letters s;
  mark = λ id. place id ∷ [];
  picture = [];
  nothing = λ wrappers is_code. ap (map letter) shows-nil.is;
  joins = λ wrappers is_code s t u v. letters-append s t u;
  same = λ wrappers is_code s t u v e. ap (map letter) e;
}

-- ---- documents

mutual
  inline-marks : (wrappers : List (Unit {0})) (x : Inline) → read_inline marks wrappers x ≡ marks_of_inline x
  inline-marks wrappers (text s) = refl
  inline-marks wrappers (code s) = refl
  inline-marks wrappers (formatted format content) = line-marks (wrappers ++ tt ∷ []) content
  inline-marks wrappers (link address title content) = line-marks (wrappers ++ tt ∷ []) content
  inline-marks wrappers (image address title description) = refl
  inline-marks wrappers (anchor i) = refl
  inline-marks wrappers line_break = refl
  inline-marks wrappers (task is_checked) = refl

  line-marks : (wrappers : List (Unit {0})) (xs : Inlines) → read_line marks wrappers xs ≡ marks_of_line xs
  line-marks wrappers no_inlines = refl
  line-marks wrappers (inline x xs) =
      ap (λ t. t ++ read_line marks wrappers xs) (inline-marks wrappers x)
      ∙ ap (λ t. marks_of_inline x ++ t) (line-marks wrappers xs)

cells-marks : (cells : List Inlines) → read_cells marks cells ≡ marks_of_cells cells
cells-marks [] = refl
cells-marks (cell ∷ cells) =
    ap (λ t. t ++ read_cells marks cells) (line-marks [] cell)
    ∙ ap (λ t. marks_of_line cell ++ t) (cells-marks cells)

rows-marks : (rows : List (List Inlines)) → flat_map (read_cells marks) rows ≡ flat_map marks_of_cells rows
rows-marks [] = refl
rows-marks (row ∷ rows) =
    ap (λ t. t ++ flat_map (read_cells marks) rows) (cells-marks row)
    ∙ ap (λ t. marks_of_cells row ++ t) (rows-marks rows)

mutual
  block-marks : (b : Block) → read_block marks b ≡ marks_of_block b
  block-marks (paragraph content) = line-marks [] content
  block-marks (heading level content) = line-marks [] content
  block-marks (code_block language s) = refl
  block-marks (quote content) = blocks-marks content
  block-marks thematic_break = refl
  block-marks (element name attributes content) = blocks-marks content
  block-marks (tags s) = refl
  block-marks (list start is_tight items) = items-marks items
  block-marks (table alignments header rows) =
      ap (λ t. t ++ flat_map (read_cells marks) rows) (cells-marks header)
      ∙ ap (λ t. marks_of_cells header ++ t) (rows-marks rows)

  pub blocks-marks : (bs : Blocks) → read_blocks marks bs ≡ marks_of_blocks bs
  blocks-marks no_blocks = refl
  blocks-marks (block b bs) =
      ap (λ t. t ++ read_blocks marks bs) (block-marks b)
      ∙ ap (λ t. marks_of_block b ++ t) (blocks-marks bs)

  items-marks : (items : Items) → read_items marks items ≡ marks_of_items items
  items-marks no_items = refl
  items-marks (item bs items) =
      ap (λ t. t ++ read_items marks items) (blocks-marks bs)
      ∙ ap (λ t. marks_of_blocks bs ++ t) (items-marks items)
