-- Where no anchor is among what is seen of blocks, they have none.
use Rattle.std.proofs.Common.{◌≡◌, true, List, [], ◌∷◌, ◌++◌, refl, sym, ◌∙◌}
use Rattle.std.specs.List.{list_all, flat_map}
use Rattle.std.proofs.lemmas.Bool.{and_from}
use Rattle.std.proofs.lemmas.Grind.{flat_map-append}
use Rattle.htmd_document.specs.Documents.{Inline, text, code, formatted, link, image, anchor, line_break, task}
use Rattle.htmd_document.specs.Documents.{Inlines, no_inlines, inline, Block, paragraph, heading, code_block, quote}
use Rattle.htmd_document.specs.Documents.{thematic_break, list, table, element, tags, Blocks, no_blocks, block}
use Rattle.htmd_document.specs.Documents.{Items, no_items, item}
use Rattle.htmd_law_anchors.specs.AnchorLaws.{id_of, ids_of}
use Rattle.htmd_law_anchors.specs.DocumentMarks.{Mark, marks_of_inline, marks_of_line, marks_of_cells, marks_of_block}
use Rattle.htmd_law_anchors.specs.DocumentMarks.{marks_of_blocks, marks_of_items}
use Rattle.htmd_law_returning.specs.NoAnchors.{has_no_anchors, have_no_anchors, block_has_no_anchors}
use Rattle.htmd_law_returning.specs.NoAnchors.{blocks_have_no_anchors, items_have_no_anchors}

clash : {A : Type 0} {x : A} {xs : List A} → x ∷ xs ≡ [] → ⊥
clash e = (cc)

both-empty : {A : Type 0} (xs ys : List A) → xs ++ ys ≡ [] → (xs ≡ []) × (ys ≡ [])
both-empty [] ys e = (refl, e)
both-empty (x ∷ xs) ys e = absurd (clash e)

apart : (ms ns : List Mark) → ids_of (ms ++ ns) ≡ [] → (ids_of ms ≡ []) × (ids_of ns ≡ [])
apart ms ns e = both-empty (ids_of ms) (ids_of ns) (sym (flat_map-append id_of ms ns) ∙ e)

mutual
  inline-anchorless : (x : Inline) → ids_of (marks_of_inline x) ≡ [] → has_no_anchors x ≡ true
  inline-anchorless (text s) e = refl
  inline-anchorless (code s) e = refl
  inline-anchorless (formatted f content) e = line-anchorless content e
  inline-anchorless (link address title content) e = line-anchorless content e
  inline-anchorless (image address title description) e = refl
  inline-anchorless (anchor id) e = absurd (clash e)
  inline-anchorless line_break e = refl
  inline-anchorless (task is_checked) e = refl

  line-anchorless : (xs : Inlines) → ids_of (marks_of_line xs) ≡ [] → have_no_anchors xs ≡ true
  line-anchorless no_inlines e = refl
  line-anchorless (inline x xs) e =
      let p = apart (marks_of_inline x) (marks_of_line xs) e in
      and_from (has_no_anchors x) (have_no_anchors xs) (inline-anchorless x p.0) (line-anchorless xs p.1)

cells-anchorless : (cells : List Inlines) → ids_of (marks_of_cells cells) ≡ []
    → list_all have_no_anchors cells ≡ true
cells-anchorless [] e = refl
cells-anchorless (x ∷ xs) e =
    let p = apart (marks_of_line x) (marks_of_cells xs) e in
    and_from (have_no_anchors x) (list_all have_no_anchors xs) (line-anchorless x p.0) (cells-anchorless xs p.1)

rows-anchorless : (rows : List (List Inlines)) → ids_of (flat_map marks_of_cells rows) ≡ []
    → list_all (list_all have_no_anchors) rows ≡ true
rows-anchorless [] e = refl
rows-anchorless (r ∷ rs) e =
    let p = apart (marks_of_cells r) (flat_map marks_of_cells rs) e in
    and_from (list_all have_no_anchors r) (list_all (list_all have_no_anchors) rs) (cells-anchorless r p.0)
    (rows-anchorless rs p.1)

mutual
  block-anchorless : (b : Block) → ids_of (marks_of_block b) ≡ [] → block_has_no_anchors b ≡ true
  block-anchorless (paragraph content) e = line-anchorless content e
  block-anchorless (heading level content) e = line-anchorless content e
  block-anchorless (code_block language s) e = refl
  block-anchorless (quote content) e = blocks-anchorless content e
  block-anchorless thematic_break e = refl
  block-anchorless (list start is_tight items) e = items-anchorless items e
  block-anchorless (table alignments header rows) e =
      let p = apart (marks_of_cells header) (flat_map marks_of_cells rows) e in
      and_from (list_all have_no_anchors header) (list_all (list_all have_no_anchors) rows)
      (cells-anchorless header p.0) (rows-anchorless rows p.1)
  block-anchorless (element name attributes content) e = blocks-anchorless content e
  block-anchorless (tags s) e = refl

  pub blocks-anchorless : (bs : Blocks) → ids_of (marks_of_blocks bs) ≡ [] → blocks_have_no_anchors bs ≡ true
  blocks-anchorless no_blocks e = refl
  blocks-anchorless (block b bs) e =
      let p = apart (marks_of_block b) (marks_of_blocks bs) e in
      and_from (block_has_no_anchors b) (blocks_have_no_anchors bs) (block-anchorless b p.0) (blocks-anchorless bs p.1)

  items-anchorless : (items : Items) → ids_of (marks_of_items items) ≡ [] → items_have_no_anchors items ≡ true
  items-anchorless no_items e = refl
  items-anchorless (item bs items) e =
      let p = apart (marks_of_blocks bs) (marks_of_items items) e in
      and_from (blocks_have_no_anchors bs) (items_have_no_anchors items) (blocks-anchorless bs p.0)
      (items-anchorless items p.1)
