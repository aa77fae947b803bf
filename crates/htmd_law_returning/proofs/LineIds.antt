-- The ids of a document's lines are those of the document.
use Rattle.std.proofs.Common.{◌≡◌, ℕ, List, [], ◌∷◌, ◌++◌, refl, sym, ap, ◌∙◌}
use Rattle.std.specs.List.{flat_map}
use Rattle.std.proofs.lemmas.List.{append_assoc, append-nil}
use Rattle.htmd_document.specs.AnchorIds.{ids_of_line, ids_of_cells, ids_of_block, ids_of_blocks, ids_of_items}
use Rattle.htmd_document.specs.Documents.{Inlines, Block, paragraph, heading, code_block, quote, thematic_break, list}
use Rattle.htmd_document.specs.Documents.{table, element, tags, Blocks, no_blocks, block, Items, no_items, item}
use Rattle.htmd_law_returning.specs.LastingAnchors.{Line, cells_of, lines_of, lines_in, lines_among}

abbrev pub ids_in_lines : List Line → List (List ℕ)
ids_in_lines ls = flat_map (λ (l : Line). ids_of_line l.content) ls

pub ids-both : (ks ls : List Line) → ids_in_lines (ks ++ ls) ≡ ids_in_lines ks ++ ids_in_lines ls
ids-both [] ls = refl
ids-both (k ∷ ks) ls =
    ap (λ ids. ids_of_line k.content ++ ids) (ids-both ks ls)
    ∙ sym (append_assoc (ids_of_line k.content) (ids_in_lines ks) (ids_in_lines ls))

cells-ids : (cells : List Inlines) → ids_in_lines (cells_of cells) ≡ ids_of_cells cells
cells-ids [] = refl
cells-ids (c ∷ cells) = ap (λ ids. ids_of_line c ++ ids) (cells-ids cells)

rows-ids : (rows : List (List Inlines)) → ids_in_lines (flat_map cells_of rows) ≡ flat_map ids_of_cells rows
rows-ids [] = refl
rows-ids (r ∷ rows) =
    ids-both (cells_of r) (flat_map cells_of rows)
    ∙ (ap (λ ids. ids ++ ids_in_lines (flat_map cells_of rows)) (cells-ids r)
    ∙ ap (λ ids. ids_of_cells r ++ ids) (rows-ids rows))

mutual
  block-ids : (b : Block) → ids_in_lines (lines_of b) ≡ ids_of_block b
  block-ids (paragraph xs) = append-nil (ids_of_line xs)
  block-ids (heading level xs) = append-nil (ids_of_line xs)
  block-ids (code_block language s) = refl
  block-ids (quote bs) = blocks-ids bs
  block-ids thematic_break = refl
  block-ids (list start is_tight items) = items-ids items
  block-ids (table alignments header rows) =
      ids-both (cells_of header) (flat_map cells_of rows)
      ∙ (ap (λ ids. ids ++ ids_in_lines (flat_map cells_of rows)) (cells-ids header)
      ∙ ap (λ ids. ids_of_cells header ++ ids) (rows-ids rows))
  block-ids (element name attributes content) = blocks-ids content
  block-ids (tags s) = refl

  pub blocks-ids : (bs : Blocks) → ids_in_lines (lines_in bs) ≡ ids_of_blocks bs
  blocks-ids no_blocks = refl
  blocks-ids (block b bs) =
      ids-both (lines_of b) (lines_in bs)
      ∙ (ap (λ ids. ids ++ ids_in_lines (lines_in bs)) (block-ids b)
      ∙ ap (λ ids. ids_of_block b ++ ids) (blocks-ids bs))

  items-ids : (items : Items) → ids_in_lines (lines_among items) ≡ ids_of_items items
  items-ids no_items = refl
  items-ids (item bs rest) =
      ids-both (lines_in bs) (lines_among rest)
      ∙ (ap (λ ids. ids ++ ids_in_lines (lines_among rest)) (blocks-ids bs)
      ∙ ap (λ ids. ids_of_blocks bs ++ ids) (items-ids rest))
