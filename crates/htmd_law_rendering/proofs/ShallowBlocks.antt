-- Where a document in normal form is seen, the trees of what is read are nested only so deep.
use Rattle.std.proofs.Common.{◌≡◌, ℕ, suc, ◌+◌, ◌≤◌, max, Bool, true, false, not, ◌&&◌, List, [], ◌∷◌, refl, sym, ap}
use Rattle.std.proofs.Common.{◌∙◌, drop, Option, Some, None, codes, length, subst, arith}
use Rattle.std.specs.List.{list_all}
use Rattle.std.specs.Prelude.{⊤, ◌||◌, ◌==◌, nat_le}
use Rattle.std.proofs.lemmas.Bool.{and_parts}
use Rattle.htmd_lexical.proofs.Cases.{test}
use Rattle.htmd_document.specs.declared.document.Alignment.{Alignment}
use Rattle.htmd_document.specs.Documents as document
use Rattle.htmd_document.specs.FlatDocuments.{lines_of}
use Rattle.htmd_document.specs.NormalInlines as normal
use Rattle.htmd_document.specs.NormalInlines.{is_normal_line, is_normal_item, are_anchors, anchors_stand_well}
use Rattle.htmd_document.specs.NormalDocuments.{is_normal_paragraph, is_level, is_normal_heading, has_cell}
use Rattle.htmd_document.specs.NormalDocuments.{ends_filled}
use Rattle.htmd_document.specs.NormalDocuments.{are_normal_cells, is_normal_row, is_normal_list, is_flat_block}
use Rattle.htmd_document.specs.NormalDocuments.{are_flat_blocks, are_flat_items, IsFlat}
use Rattle.htmd_document.specs.TightItems.{is_filled}
use Rattle.htmd_commonmark_reading.specs.Markup.{Inlines, no_inlines, letter, code, formatted, link, image}
use Rattle.htmd_commonmark_reading.specs.Markup.{line_break}
use Rattle.htmd_commonmark_reading.specs.Markup.{task, raw, Block, paragraph, heading, code_block, quote, plain_text}
use Rattle.htmd_commonmark_reading.specs.Markup.{thematic_break, list, table, html_block, Blocks, no_blocks, block}
use Rattle.htmd_commonmark_reading.specs.Markup.{Items, no_items, item}
use Rattle.htmd_commonmark_reading.specs.Elements.{Stack, outside, with_block, nested_block, nested, nested_items}
use Rattle.htmd_commonmark_reading.specs.Elements.{nested_document}
use Rattle.htmd_commonmark_reading.specs.Rendering.{is_bare}
use Rattle.htmd_commonmark_reading.specs.SeenMarkup.{seen_inlines, seen_row, seen_rows, has_none, has_no_cell}
use Rattle.htmd_commonmark_reading.specs.SeenMarkup.{filled_front, without_empty_end, seen_block, seen_blocks}
use Rattle.htmd_commonmark_reading.specs.SeenMarkup.{seen_items}
use Rattle.htmd_commonmark_reading.specs.SeenMarkup.{document_inlines, document_row, document_rows, document_block}
use Rattle.htmd_commonmark_reading.specs.SeenMarkup.{document_blocks, document_items, with_first, with_letter}
use Rattle.htmd_commonmark_reading.specs.SeenMarkup.{with_content, with_anchor}
use Rattle.htmd_commonmark_reading.specs.Anchors.{anchor_id}
use Rattle.htmd_law_rendering.specs.RenderedTrees.{inlines_trees, cells_trees, row_trees, rows_trees}
use Rattle.htmd_law_rendering.specs.RenderedTrees.{body_trees, lines_before, code_trees, begun_line, block_trees}
use Rattle.htmd_law_rendering.specs.RenderedTrees.{blocks_trees}
use Rattle.htmd_law_rendering.specs.RenderedTrees.{items_trees, spelled_of, Open, with_html, blocks_open}
use Rattle.htmd_law_rendering.specs.SpelledTrees.{SpelledForest, none, levels}
use Rattle.htmd_law_rendering.specs.PlainReadings.{tree_depth, trees_depth, items_depth}
use Rattle.htmd_law_rendering.proofs.PairedLemmas.{is_end, nothing-left}
use Rattle.htmd_law_rendering.proofs.PairedBlocks.{both-some, one-some, two-some, no-cells, Stepped, parts, no-parts}
use Rattle.htmd_law_rendering.proofs.NestedStacks.{Matches, same-names, few-names, open_levels, StackIsLow, few-open}
use Rattle.htmd_law_rendering.proofs.NestedStacks.{block-low}
use Rattle.htmd_law_rendering.proofs.RawLemmas.{names_of}
use Rattle.htmd_law_rendering.proofs.ShallowLines.{IsLow, lines-low}
use Rattle.htmd_law_rendering.proofs.DocumentLevels.{inline_depth, line_depth, line-low, item-low}
use Rattle.htmd_law_rendering.proofs.SeenLevels.{depth, text-levels, inlines-low, length-named}

-- ---- the document of what is seen is as deep

-- what is behind the first one is no deeper
abbrev Behind : Option document.Inlines → ℕ → Type 0
Behind o n = (xs : document.Inlines) × (o ≡ Some xs) × (max 1 (line_depth xs) ≤ n)

as-deep : (ys d : document.Inlines) → ys ≡ d → line_depth ys ≡ line_depth d
as-deep ys d e = ap line_depth e

letter-deep : (c : ℕ) (o : Option document.Inlines) (d : document.Inlines) → with_letter c o ≡ Some d
    → Behind o (line_depth d)
letter-deep c None d e = absurd (cc)
letter-deep c (Some (document.inline (document.text s) xs)) d e =
    let k = as-deep (document.inline (document.text (c ∷ s)) xs) d cc in
    (document.inline (document.text s) xs, refl, omega (arith, k))
letter-deep c (Some document.no_inlines) d e =
    let k = as-deep (document.inline (document.text (c ∷ [])) document.no_inlines) d cc in
    (document.no_inlines, refl, omega (arith, k))
letter-deep c (Some (document.inline (document.code s) xs)) d e =
    let ys = document.inline (document.code s) xs in
    let k = as-deep (document.inline (document.text (c ∷ [])) ys) d cc in (ys, refl, omega (arith, k))
letter-deep c (Some (document.inline (document.formatted f content) xs)) d e =
    let ys = document.inline (document.formatted f content) xs in
    let k = as-deep (document.inline (document.text (c ∷ [])) ys) d cc in (ys, refl, omega (arith, k))
letter-deep c (Some (document.inline (document.link a t content) xs)) d e =
    let ys = document.inline (document.link a t content) xs in
    let k = as-deep (document.inline (document.text (c ∷ [])) ys) d cc in (ys, refl, omega (arith, k))
letter-deep c (Some (document.inline (document.image a t description) xs)) d e =
    let ys = document.inline (document.image a t description) xs in
    let k = as-deep (document.inline (document.text (c ∷ [])) ys) d cc in (ys, refl, omega (arith, k))
letter-deep c (Some (document.inline (document.anchor id) xs)) d e =
    let ys = document.inline (document.anchor id) xs in
    let k = as-deep (document.inline (document.text (c ∷ [])) ys) d cc in (ys, refl, omega (arith, k))
letter-deep c (Some (document.inline document.line_break xs)) d e =
    let ys = document.inline document.line_break xs in
    let k = as-deep (document.inline (document.text (c ∷ [])) ys) d cc in (ys, refl, omega (arith, k))
letter-deep c (Some (document.inline (document.task b) xs)) d e =
    let ys = document.inline (document.task b) xs in
    let k = as-deep (document.inline (document.text (c ∷ [])) ys) d cc in (ys, refl, omega (arith, k))

first-deep : (x : document.Inline) (o : Option document.Inlines) (d : document.Inlines) → with_first x o ≡ Some d
    → (xs : document.Inlines) × (o ≡ Some xs) × (max (inline_depth x) (line_depth xs) ≤ line_depth d)
first-deep x None d e = absurd (cc)
first-deep x (Some xs) d e =
    let k = as-deep (document.inline x xs) d cc in (xs, refl, omega (arith, k))

content-deep : (make : document.Inlines → document.Inline) (content rest : Option document.Inlines)
    (d : document.Inlines) → with_content make content rest ≡ Some d
    → (c xs : document.Inlines) × (content ≡ Some c) × (rest ≡ Some xs)
    × (max (inline_depth (make c)) (line_depth xs) ≤ line_depth d)
content-deep make None rest d e = absurd (cc)
content-deep make (Some c) rest d e = let r = first-deep (make c) rest d e in (c, r.0, refl, r.1, r.2)

anchor-deep : (o : Option (List ℕ)) (end : List ℕ) (xs : Option document.Inlines) (d : document.Inlines)
    → with_anchor o end xs ≡ Some d → Behind xs (line_depth d)
anchor-deep None end xs d e = absurd (cc)
anchor-deep (Some id) end xs d e =
    test (is_end end)
    (λ t. let w = rw t at e in first-deep (document.anchor id) xs d w)
    (λ t. let w = rw t at e in absurd (cc))

document-deep : (xs : Inlines) (d : document.Inlines) → document_inlines xs ≡ Some d → depth xs ≤ line_depth d
document-deep no_inlines d e = omega arith
document-deep (letter c xs) d e =
    let r = letter-deep c (document_inlines xs) d e in
    let l = r.2 in let i = document-deep xs r.0 r.1 in omega (arith, l, i)
document-deep (code s xs) d e =
    let r = first-deep (document.code s) (document_inlines xs) d e in
    let l = r.2 in let i = document-deep xs r.0 r.1 in omega (arith, l, i)
document-deep (formatted f content xs) d e =
    let r = content-deep (document.formatted f) (document_inlines content) (document_inlines xs) d e in
    let l = r.4 in
    let i = document-deep content r.0 r.2 in
    let j = document-deep xs r.1 r.3 in omega (arith, l, i, j)
document-deep (link a t content xs) d e =
    let r = content-deep (document.link a t) (document_inlines content) (document_inlines xs) d e in
    let l = r.4 in
    let i = document-deep content r.0 r.2 in
    let j = document-deep xs r.1 r.3 in omega (arith, l, i, j)
document-deep (image a t content xs) d e =
    let r = first-deep (document.image a t (plain_text content)) (document_inlines xs) d e in
    let l = r.2 in let i = document-deep xs r.0 r.1 in omega (arith, l, i)
document-deep (line_break xs) d e =
    let r = first-deep document.line_break (document_inlines xs) d e in
    let l = r.2 in let i = document-deep xs r.0 r.1 in omega (arith, l, i)
document-deep (task b xs) d e =
    let r = first-deep (document.task b) (with_letter 32 (document_inlines xs)) d e in
    let q = letter-deep 32 (document_inlines xs) r.0 r.1 in
    let l = r.2 in
    let m = q.2 in
    let i = document-deep xs q.0 q.1 in omega (arith, l, m, i)
document-deep (raw s no_inlines) d e = absurd (cc)
document-deep (raw s (letter c xs)) d e = absurd (cc)
document-deep (raw s (code t xs)) d e = absurd (cc)
document-deep (raw s (formatted f content xs)) d e = absurd (cc)
document-deep (raw s (link a t content xs)) d e = absurd (cc)
document-deep (raw s (image a t content xs)) d e = absurd (cc)
document-deep (raw s (line_break xs)) d e = absurd (cc)
document-deep (raw s (task b xs)) d e = absurd (cc)
document-deep (raw s (raw end xs)) d e =
    let r = anchor-deep (anchor_id s) end (document_inlines xs) d e in
    let l = r.2 in let i = document-deep xs r.0 r.1 in omega (arith, l, i)

-- ---- lines

line-levels : (xs : Inlines) (d : document.Inlines) (rest : SpelledForest)
    → document_inlines (seen_inlines xs) ≡ Some d
    → line_depth d ≤ 20 → levels (inlines_trees xs rest) ≤ max 20 (levels rest)
line-levels xs d rest e l =
    let i = document-deep (seen_inlines xs) d e in
    inlines-low (max 20 (levels rest)) xs rest (nothing-left (seen_inlines xs) d e) (omega (arith, i, l)) (omega arith)

paragraph-low : (in_item : Bool) (xs : document.Inlines) → is_normal_paragraph in_item xs ≡ true
    → line_depth xs ≤ 20
paragraph-low true xs e =
    let p = and_parts (not (normal.has_none xs) && is_normal_item xs) (are_anchors xs || anchors_stand_well xs) e in
    item-low xs (and_parts (not (normal.has_none xs)) (is_normal_item xs) p.0).1
paragraph-low false xs e =
    let p = and_parts (not (normal.has_none xs) && is_normal_line xs) (are_anchors xs || anchors_stand_well xs) e in
    line-low xs (and_parts (not (normal.has_none xs)) (is_normal_line xs) p.0).1

heading-low : (level : ℕ) (xs : document.Inlines) → is_normal_heading level xs ≡ true → line_depth xs ≤ 20
heading-low level xs e =
    let p = and_parts (is_level level && not (normal.has_none xs) && is_normal_line xs) (anchors_stand_well xs) e in
    line-low xs (and_parts (is_level level && not (normal.has_none xs)) (is_normal_line xs) p.0).1

-- ---- tables

lines_of_cells : (cells : List document.Inlines) → are_normal_cells cells ≡ true
    → list_all is_normal_line cells ≡ true
lines_of_cells cells e =
    (and_parts (list_all is_normal_line cells) (list_all anchors_stand_well cells) e).0

abbrev AreLow : List Inlines → Type 0
AreLow [] = ⊤
AreLow (c ∷ cs) = (levels (inlines_trees c none) ≤ 20) × AreLow cs

row-low : (r : List Inlines) (d : List document.Inlines) → document_row (seen_row r) ≡ Some d
    → list_all is_normal_line d ≡ true → AreLow r
row-low [] d e h = tt
row-low (c ∷ cs) d e h =
    let k = both-some (document_inlines (seen_inlines c)) (document_row (seen_row cs)) d e in
    let p = and_parts (is_normal_line k.0) (list_all is_normal_line k.1)
    (subst (λ y. list_all is_normal_line y ≡ true) (sym k.4) h) in
    let l = line-levels c k.0 none k.2 (line-low k.0 p.0) in (omega (arith, l), row-low cs k.1 k.3 p.1)

nothing : (c xs : Inlines) → seen_inlines c ≡ xs → has_none xs ≡ true → levels (inlines_trees c none) ≤ 20
nothing c no_inlines s e = inlines-low 20 c none (rw s refl) (rw s (omega arith)) (omega arith)
nothing c (letter b xs) s e = absurd (cc)
nothing c (code t xs) s e = absurd (cc)
nothing c (formatted f content xs) s e = absurd (cc)
nothing c (link a t content xs) s e = absurd (cc)
nothing c (image a t content xs) s e = absurd (cc)
nothing c (line_break xs) s e = absurd (cc)
nothing c (task b xs) s e = absurd (cc)
nothing c (raw t xs) s e = absurd (cc)

filled-low : (cs : List Inlines) (d : List document.Inlines) → document_row (filled_front (seen_row cs)) ≡ Some d
    → list_all is_normal_line d ≡ true → AreLow cs
filled-low [] d e h = tt
filled-low (c ∷ cs) d e h =
    test (has_none (seen_inlines c) && has_no_cell (filled_front (seen_row cs)))
    (λ t.
    let p = and_parts (has_none (seen_inlines c)) (has_no_cell (filled_front (seen_row cs))) t in
    let n = no-cells (filled_front (seen_row cs)) p.1 in
    (nothing c (seen_inlines c) refl p.0, filled-low cs [] (ap document_row n) refl))
    (λ t.
    let w = rw t at e in
    let k = both-some (document_inlines (seen_inlines c)) (document_row (filled_front (seen_row cs))) d w in
    let p = and_parts (is_normal_line k.0) (list_all is_normal_line k.1)
    (subst (λ y. list_all is_normal_line y ≡ true) (sym k.4) h) in
    let l = line-levels c k.0 none k.2 (line-low k.0 p.0) in (omega (arith, l), filled-low cs k.1 k.3 p.1))

body_row-low : (r : List Inlines) (d : List document.Inlines)
    → document_row (without_empty_end (seen_row r)) ≡ Some d → list_all is_normal_line d ≡ true → AreLow r
body_row-low [] d e h = tt
body_row-low (c ∷ cs) d e h =
    let k = both-some (document_inlines (seen_inlines c)) (document_row (filled_front (seen_row cs))) d e in
    let p = and_parts (is_normal_line k.0) (list_all is_normal_line k.1)
    (subst (λ y. list_all is_normal_line y ≡ true) (sym k.4) h) in
    let l = line-levels c k.0 none k.2 (line-low k.0 p.0) in (omega (arith, l), filled-low cs k.1 k.3 p.1)

cells-levels : (name : List ℕ) (alignments : List Alignment) (cs : List Inlines) → AreLow cs
    → levels (cells_trees name alignments cs) ≤ 21
cells-levels name alignments [] h = omega arith
cells-levels name alignments (c ∷ cs) h =
    let l = h.0 in
    let t = text-levels (codes "\n") (cells_trees name (drop 1 alignments) cs) in
    let i = cells-levels name (drop 1 alignments) cs h.1 in omega (arith, l, t, i)

row-levels : (name : List ℕ) (alignments : List Alignment) (cs : List Inlines) (rest : SpelledForest) → AreLow cs
    → levels (row_trees name alignments cs rest) ≤ max 22 (levels rest)
row-levels name alignments cs rest h =
    let i = cells-levels name alignments cs h in
    let t = text-levels (codes "\n") (cells_trees name alignments cs) in
    let u = text-levels (codes "\n") rest in omega (arith, i, t, u)

rows-levels : (columns : ℕ) (alignments : List Alignment) (rs : List (List Inlines))
    (d : List (List document.Inlines)) → document_rows (seen_rows rs) ≡ Some d
    → list_all (is_normal_row columns) d ≡ true → levels (rows_trees alignments rs) ≤ 22
rows-levels columns alignments [] d e h = omega arith
rows-levels columns alignments (r ∷ rs) d e h =
    let k = both-some (document_row (without_empty_end (seen_row r))) (document_rows (seen_rows rs)) d e in
    let p = and_parts (is_normal_row columns k.0) (list_all (is_normal_row columns) k.1)
    (subst (λ y. list_all (is_normal_row columns) y ≡ true) (sym k.4) h) in
    let q = and_parts (nat_le (length k.0) columns && ends_filled k.0) (are_normal_cells k.0) p.0 in
    let low = body_row-low r k.0 k.2 (lines_of_cells k.0 q.1) in
    let i = row-levels (codes "td") alignments r (rows_trees alignments rs) low in
    let j = rows-levels columns alignments rs k.1 k.3 p.1 in omega (arith, i, j)

body-levels : (columns : ℕ) (alignments : List Alignment) (rs : List (List Inlines))
    (d : List (List document.Inlines)) → document_rows (seen_rows rs) ≡ Some d
    → list_all (is_normal_row columns) d ≡ true → levels (body_trees alignments rs) ≤ 23
body-levels columns alignments [] d e h = omega arith
body-levels columns alignments (r ∷ rs) d e h =
    let i = rows-levels columns alignments (r ∷ rs) d e h in
    let t = text-levels (codes "\n") (rows_trees alignments (r ∷ rs)) in omega (arith, i, t)

-- ---- blocks

code-levels : (s : List ℕ) → levels (code_trees s) ≤ 1
code-levels [] = omega arith
code-levels (b ∷ s) = omega arith

begun-levels : (is_in_line bare : Bool) (ts : SpelledForest) → levels (begun_line is_in_line bare ts)
    ≤ max 1 (levels ts)
begun-levels true true ts = omega arith
begun-levels true false ts = text-levels (codes "\n") ts
begun-levels false bare ts = omega arith

-- ---- what a block makes of the stack

-- one that is added
added-low : (n : ℕ) (o p : Stack) (e : document.Block) → with_block o e ≡ p → StackIsLow n p
    → StackIsLow n o × (open_levels o + tree_depth e ≤ n)
added-low n o p e k h = block-low n o e (subst (StackIsLow n) (sym k) h)

-- what is open before it
added-open : (n : ℕ) (o p : Stack) (e : document.Block) (t : Open) → with_block o e ≡ p → IsLow n t p
    → IsLow n t o
added-open n o p e t k h = (
  h.0,
  same-names (names_of t.behind) o e (subst (Matches (names_of t.behind)) (sym k) h.1),
  (added-low n o p e k h.2).0,
)

-- lines of tags before what is open
html-low : (n : ℕ) (b : Block) (d : document.Block) (o p : Stack) (t : Open) → Stepped b d o p → IsLow n t p
    → IsLow n (with_html b t) o
html-low n (paragraph xs) d o p t k h = added-open n o p k.0 t k.2 h
html-low n (heading level xs) d o p t k h = added-open n o p k.0 t k.2 h
html-low n (code_block language s) d o p t k h = added-open n o p k.0 t k.2 h
html-low n (quote bs) d o p t k h = added-open n o p k.0 t k.2 h
html-low n thematic_break d o p t k h = added-open n o p k.0 t k.2 h
html-low n (list start tight items) d o p t k h = added-open n o p k.0 t k.2 h
html-low n (table alignments header rows) d o p t k h = added-open n o p k.0 t k.2 h
html-low n (html_block s) d o p t k h = lines-low n (lines_of s) o p t k h

-- so many elements are open around a leaf
around-leaf : (n k : ℕ) (o p : Stack) (e : document.Block) → with_block o e ≡ p → StackIsLow n p
    → k ≤ open_levels o
    → k ≤ n
around-leaf n k o p e w h l = let m = (added-low n o p e w h).1 in omega (arith, l, m)

-- ---- blocks

mutual
  -- a table is four levels deeper than its lines
  block-levels : (n : ℕ) (i is_tight : Bool) (b : Block) (d : document.Block) (o p : Stack) (w : ℕ)
      (rest : SpelledForest)
      → document_block (seen_block b) ≡ Some d → is_flat_block i d ≡ true → Stepped b d o p → StackIsLow n p
      → w ≤ open_levels o → w + levels rest ≤ n + 24
      → w + levels (block_trees is_tight b rest) ≤ n + 24
  block-levels n i true (paragraph xs) d o p w rest e h s low v r =
      let k = one-some document.paragraph (document_inlines (seen_inlines xs)) d e in
      let l = line-levels xs k.0 rest k.1 (paragraph-low i k.0 (ap (is_flat_block i) k.2 ∙ h)) in
      let a = around-leaf n w o p s.0 s.2 low v in omega (arith, l, r, a)
  block-levels n i false (paragraph xs) d o p w rest e h s low v r =
      let k = one-some document.paragraph (document_inlines (seen_inlines xs)) d e in
      let l = line-levels xs k.0 none k.1 (paragraph-low i k.0 (ap (is_flat_block i) k.2 ∙ h)) in
      let a = around-leaf n w o p s.0 s.2 low v in
      let t = text-levels (codes "\n") rest in omega (arith, l, t, r, a)
  block-levels n i is_tight (heading level xs) d o p w rest e h s low v r =
      let k = one-some (document.heading level) (document_inlines (seen_inlines xs)) d e in
      let l = line-levels xs k.0 none k.1 (heading-low level k.0 (ap (is_flat_block i) k.2 ∙ h)) in
      let a = around-leaf n w o p s.0 s.2 low v in
      let t = text-levels (codes "\n") rest in omega (arith, l, t, r, a)
  block-levels n i is_tight (code_block language u) d o p w rest e h s low v r =
      let l = code-levels u in
      let a = around-leaf n w o p s.0 s.2 low v in
      let t = text-levels (codes "\n") rest in omega (arith, l, t, r, a)
  block-levels n i is_tight (quote bs) d o p w rest e h s low v r =
      let k = one-some document.quote (document_blocks (seen_blocks bs)) d e in
      let m = one-some document.quote (nested (Some (outside document.no_blocks)) k.0) s.0
      (ap nested_block k.2 ∙ s.1) in
      let inner = blocks-levels (trees_depth m.0) false false false bs k.0 (outside document.no_blocks) m.0 k.1
      (and_parts (is_filled k.0) (are_flat_blocks false k.0) (ap (is_flat_block i) k.2 ∙ h)).1 m.1 (omega arith) in
      let l = inner.0.0 in
      let same = ap tree_depth m.2 in
      let a = (added-low n o p s.0 s.2 low).1 in
      let t = text-levels (codes "\n") (blocks_trees false false bs) in
      let u = text-levels (codes "\n") rest in omega (arith, l, same, a, t, u, r, v)
  block-levels n i is_tight thematic_break d o p w rest e h s low v r =
      let a = around-leaf n w o p s.0 s.2 low v in
      let t = text-levels (codes "\n") rest in omega (arith, t, r, a)
  block-levels n i is_tight (list start tight items) d o p w rest e h s low v r =
      let k = one-some (document.list start tight) (document_items (seen_items items)) d e in
      let m = one-some (document.list start tight) (nested_items k.0) s.0 (ap nested_block k.2 ∙ s.1) in
      let l = items-levels tight items k.0 m.0 k.1
      (and_parts (is_normal_list start tight k.0) (are_flat_items k.0) (ap (is_flat_block i) k.2 ∙ h)).1 m.1 in
      let same = ap tree_depth m.2 in
      let a = (added-low n o p s.0 s.2 low).1 in
      let t = text-levels (codes "\n") (items_trees tight items) in
      let u = text-levels (codes "\n") rest in omega (arith, l, same, a, t, u, r, v)
  block-levels n i is_tight (table alignments header rows) d o p w rest e h s low v r =
      let k = two-some (document.table alignments) (document_row (seen_row header)) (document_rows (seen_rows rows))
      d e in
      let q = and_parts (has_cell k.0 && (length alignments == length k.0) && are_normal_cells k.0)
      (list_all (is_normal_row (length k.0)) k.1) (ap (is_flat_block i) k.4 ∙ h) in
      let f = and_parts (has_cell k.0 && (length alignments == length k.0)) (are_normal_cells k.0) q.0 in
      let cells = row-levels (codes "th") alignments header none
      (row-low header k.0 k.2 (lines_of_cells k.0 f.1)) in
      let body = body-levels (length k.0) alignments rows k.1 k.3 q.1 in
      let a = around-leaf n w o p s.0 s.2 low v in
      let t = text-levels (codes "\n") (row_trees (codes "th") alignments header none) in
      let u = text-levels (codes "\n") (body_trees alignments rows) in
      let x = text-levels (codes "\n") (lines_before (codes "thead") [] (row_trees (codes "th") alignments header none)
      (body_trees alignments rows)) in
      let y = text-levels (codes "\n") rest in omega (arith, cells, body, t, u, x, y, r, a)
  block-levels n i is_tight (html_block u) d o p w rest e h s low v r = r

  -- what is open before blocks is no deeper than the document that they are of
  blocks-levels : (n : ℕ) (i is_tight is_in_line : Bool) (bs : Blocks) (flat : document.Blocks) (o : Stack)
      (d : document.Blocks) → document_blocks (seen_blocks bs) ≡ Some flat → are_flat_blocks i flat ≡ true
      → nested (Some o) flat ≡ Some d → trees_depth d ≤ n → IsLow n (blocks_open is_tight is_in_line bs) o
  blocks-levels n i is_tight is_in_line no_blocks flat o d e h g low =
      let x = no-parts flat o d e g in
      ((omega arith, tt), subst (Matches []) x refl, subst (StackIsLow n) x low)
  blocks-levels n i is_tight is_in_line (block b bs) flat o d e h g low =
      let k = parts b bs flat o d e g in
      let q = and_parts (is_flat_block i k.first) (are_flat_blocks false k.rest)
      (ap (are_flat_blocks i) k.are_both ∙ h) in
      let bare = is_bare is_tight b in
      let j = blocks-levels n false is_tight bare bs k.rest k.behind d k.is_rest q.1 k.goes_on low in
      let t = blocks_open is_tight bare bs in
      let tags = html-low n b k.first o k.behind t k.step j in
      let open_ = with_html b t in
      let ts = open_.first in
      let width = length open_.behind in
      let named = few-names (names_of open_.behind) o tags.1 in
      let same = length-named open_.behind in
      let around : width ≤ open_levels o = omega (arith, named, same) in
      let own = block-levels n i is_tight b k.first o k.behind width ts k.is_first q.0 k.step j.2 around tags.0.0 in
      let few = few-open n o tags.2 in
      let line = begun-levels is_in_line bare (block_trees is_tight b ts) in
      ((omega (arith, own, few, line, around), tags.0.1), tags.1, tags.2)

  items-levels : (is_tight : Bool) (items : Items) (d e : document.Items)
      → document_items (seen_items items) ≡ Some d
      → are_flat_items d ≡ true → nested_items d ≡ Some e
      → levels (items_trees is_tight items) ≤ suc (items_depth e + 24)
  items-levels is_tight no_items d e h f g = omega arith
  items-levels is_tight (item bs rest) d e h f g =
      let k = two-some document.item (document_blocks (seen_blocks bs)) (document_items (seen_items rest)) d h in
      let q = and_parts (are_flat_blocks true k.0) (are_flat_items k.1) (ap are_flat_items k.4 ∙ f) in
      let m = two-some document.item (nested (Some (outside document.no_blocks)) k.0) (nested_items k.1) e
      (ap nested_items k.4 ∙ g) in
      let inner = blocks-levels (trees_depth m.0) true is_tight true bs k.0 (outside document.no_blocks) m.0 k.2 q.0
      m.2 (omega arith) in
      let l = inner.0.0 in
      let j = items-levels is_tight rest k.1 m.1 k.3 q.1 m.3 in
      let same = ap items_depth m.4 in
      let t = text-levels (codes "\n") (items_trees is_tight rest) in
      omega (arith, l, j, same, t)

-- as deep as the document, and leaves in it
pub shallow : (bs : Blocks) (flat d : document.Blocks) → document_blocks (seen_blocks bs) ≡ Some flat
    → IsFlat flat
    → nested_document flat ≡ Some d → trees_depth d ≤ 998 → levels (spelled_of bs) ≤ 1022
shallow bs flat d e h g low =
    let i = blocks-levels 998 false false false bs flat (outside document.no_blocks) d e h g low in
    let l = i.0.0 in omega (arith, l)
