-- Nor is one of blocks whose lines have none: what shows of them in a title is what shows elsewhere.
use Rattle.std.proofs.Common.{◌≡◌, ℕ, suc, ◌+◌, ◌<◌, Bool, true, false, not, ◌&&◌, ◌||◌, List, [], ◌∷◌, refl, sym, ap}
use Rattle.std.proofs.Common.{◌∙◌, subst, Option, Some, None, codes, map}
use Rattle.std.specs.Fmt.{digits}
use Rattle.std.specs.List.{list_all}
use Rattle.std.specs.Prelude.{drop}
use Rattle.std.specs.Str.{bytes_eq}
use Rattle.std.proofs.lemmas.Bool.{and_parts}
use Rattle.htmd_lexical.proofs.Cases.{test}
use Rattle.htmd_lexical.specs.AttributePairs.{AttributePair}
use Rattle.htmd_lexical.specs.Characters.{line_feed}
use Rattle.htmd_values.specs.ValueTrees as value
use Rattle.htmd_values.specs.ValueTrees.{ValueForest}
use Rattle.htmd_nodes.specs.NumberedTrees.{NumberedForest, value_forest}
use Rattle.htmd_nodes.specs.NumberedTrees as page
use Rattle.htmd_document.specs.Documents.{Inlines, Block, paragraph, heading, code_block, quote, thematic_break, list}
use Rattle.htmd_document.specs.Documents.{table, element, tags, Blocks, no_blocks, block, Items, no_items, item}
use Rattle.htmd_document.specs.Documents.{BlockAttribute}
use Rattle.htmd_document.specs.FlatDocuments.{text_in_line, flat_items, flattened}
use Rattle.htmd_document.specs.NormalDocuments.{is_normal_block, are_normal_blocks, are_normal_items, is_normal_list}
use Rattle.htmd_document.specs.NormalDocuments.{is_normal_element, is_normal_paragraph, are_tight, may_be_tight}
use Rattle.htmd_document.specs.NormalDocuments.{has_filled_item, are_short_numbers, item_count, has_right_distance}
use Rattle.htmd_document.specs.NormalDocuments.{is_level, is_normal_table, has_language, is_code_byte}
use Rattle.htmd_document.specs.NormalInlines.{are_anchors, are_normal, are_whole, is_normal_line, anchors_stand_well}
use Rattle.htmd_document.specs.Tags.{element_name}
use Rattle.htmd_document.specs.declared.document.Alignment.{Alignment}
use Rattle.htmd_document.specs.declared.document.BlockElement.{BlockElement}
use Rattle.htmd_document.specs.declared.document.BlockElement.TheVariants as an
use Rattle.htmd_shown.specs.Pieces.{greatest_count}
use Rattle.htmd_shown.specs.Roles.{role_of, table_role, heading_or_block, block_role}
use Rattle.htmd_commonmark_reading.specs.Rendering.{first_alignment}
use Rattle.htmd_law_rendering.specs.RenderedTrees.{heading_name, list_name, pairs_of_start, pairs_of_element}
use Rattle.htmd_law_rendering.specs.RenderedTrees.{code_trees, code_block_tree, pairs_of_language, pairs_of_alignment}
use Rattle.htmd_law_rendering.specs.RenderedTrees.{sectioned, section_name}
use Rattle.htmd_law_rendering.specs.SpelledTrees.{SpelledForest, value_forest as forest_of}
use Rattle.htmd_law_rendering.specs.SpelledTrees as trees
use Rattle.htmd_law_returning.specs.LastingAnchors.{line_keeps, heading_keeps}
use Rattle.htmd_law_returning.proofs.KeptBlocks.{blocks_keep, items_keep}
use Rattle.htmd_law_returning.specs.LastingAnchors.{is_headed_element, title_keeps}
use Rattle.htmd_law_returning.specs.PageFormats.{line_shows, block_shows, formats_show, items_show}
use Rattle.htmd_law_returning.specs.SettledDocuments.{are_away, blocks_are_away, block_is_away, items_are_away}
use Rattle.htmd_law_returning.specs.SettledDocuments.{weight_among, weight_of_block, weight_in, weight_of_items}
use Rattle.htmd_law_returning.specs.SettledDocuments.{weight_of_cells, weight_of_rows, is_settled_line}
use Rattle.htmd_law_returning.specs.SettledDocuments.{are_settled_items, are_settled_blocks, is_right_list}
use Rattle.htmd_law_returning.specs.SettledDocuments.{is_settled_paragraph, is_settled_table, has_settled_language}
use Rattle.htmd_law_returning.specs.SettledDocuments.{is_settled_block, is_settled_code}
use Rattle.htmd_law_returning.proofs.BehindLineLemmas.{split}
use Rattle.htmd_law_returning.proofs.BlockSteps.{stays, lasting-line}
use Rattle.htmd_law_returning.proofs.BlockTrees.{trees_in, trees_of_items, item_trees, spelled_in, spelled_inside}
use Rattle.htmd_law_returning.proofs.BlockTrees.{spelled_cells, spelled_rows, spelled_body, spelled_element}
use Rattle.htmd_law_returning.proofs.BlockTrees.{Parts, table_parts}
use Rattle.htmd_law_returning.proofs.BlockTrees.{behind_first, spelled_table, cut_block, cut_blocks, cut_items}
use Rattle.htmd_law_returning.proofs.CodeLemmas.{with_end, IsShownCode, code-shows}
use Rattle.htmd_law_returning.proofs.ElementForms.{is_settled_alone, are_settled_alone, is_bounded, settled-alone}
use Rattle.htmd_law_returning.proofs.ElementForms.{are_table_parts}
use Rattle.htmd_law_returning.proofs.ElementTrees.{uncut-parts}
use Rattle.htmd_law_returning.proofs.FarLines.{IsInPlace, far, element-far, line-far, anchors-far, paragraph-far}
use Rattle.htmd_law_returning.proofs.FormatLemmas.{covers-none}
use Rattle.htmd_law_returning.proofs.GridLemmas.{cut_row}
use Rattle.htmd_law_returning.proofs.HeadingLemmas.{heading-normal}
use Rattle.htmd_law_returning.proofs.HeldLemmas.{are_black_ended, are_held, line-held}
use Rattle.htmd_law_returning.proofs.InlineLemmas.{left-light, right-light, free-none}
use Rattle.htmd_law_returning.proofs.InsideLemmas.{inside_trees, element-trees}
use Rattle.htmd_law_returning.proofs.ItemBlocks.{lasting-alone, lasting-pair}
use Rattle.htmd_law_returning.proofs.ListLemmas.{tight-items}
use Rattle.htmd_law_returning.proofs.OrderLemmas.{is_ordered, ordered-next}
use Rattle.htmd_law_returning.proofs.PageLemmas.{line_before, from-block, block-order, from-none, from-text}
use Rattle.htmd_law_returning.proofs.PageLemmas.{from-element, fresh-first, by-level}
use Rattle.htmd_law_returning.proofs.ReturnedBlocks.{behind}
use Rattle.htmd_law_returning.proofs.SectionTrees.{begins_text, parts-begin, row-before, caption-before}
use Rattle.htmd_law_returning.proofs.StandLemmas.{Stands, is_break}
use Rattle.htmd_law_returning.proofs.StartLemmas.{false-true, true-false}
use Rattle.htmd_law_returning.proofs.TableLemmas.{cut-weights}
use Rattle.htmd_law_returning.proofs.TableShownLemmas.{IsTable, is-table, all-cells}
use Rattle.htmd_law_returning.proofs.TaskLemmas.{IsParagraph, paragraph-parts, steady-paragraph}
use Rattle.htmd_law_returning.proofs.TightLemmas.{one-goes, two-stop}
use Rattle.htmd_law_returning.proofs.TreesLemmas.{line_trees, spelled_line}

-- ---- names

-- of no link, break or `pre`
record IsOther (name : List ℕ) : Type 0 where
  other : bytes_eq name (codes "a") ≡ false
  unbroken : is_break name ≡ false
  plain : IsInPlace name

paragraph-other : IsOther (codes "p")
unfolding role_of
paragraph-other = record { other = refl; unbroken = refl; plain = refl }

quote-other : IsOther (codes "blockquote")
unfolding role_of
quote-other = record { other = refl; unbroken = refl; plain = refl }

rule-other : IsOther (codes "hr")
unfolding role_of
rule-other = record { other = refl; unbroken = refl; plain = refl }

item-other : IsOther (codes "li")
unfolding role_of
item-other = record { other = refl; unbroken = refl; plain = refl }

list-other : (start : Option ℕ) → IsOther (list_name start)
unfolding role_of
list-other None = record { other = refl; unbroken = refl; plain = refl }
list-other (Some n) = record { other = refl; unbroken = refl; plain = refl }

heading-other : (level : ℕ) → is_level level ≡ true → IsOther (heading_name level)
unfolding role_of table_role heading_or_block digits
heading-other level h =
    by-level (λ k. IsOther (heading_name k))
    (record { other = refl; unbroken = refl; plain = refl })
    (record { other = refl; unbroken = refl; plain = refl })
    (record { other = refl; unbroken = refl; plain = refl })
    (record { other = refl; unbroken = refl; plain = refl })
    (record { other = refl; unbroken = refl; plain = refl })
    (record { other = refl; unbroken = refl; plain = refl }) level h

head-other : IsOther (codes "thead")
unfolding role_of table_role
head-other = record { other = refl; unbroken = refl; plain = refl }

section-other : IsOther (codes "tbody")
unfolding role_of table_role
section-other = record { other = refl; unbroken = refl; plain = refl }

header-other : IsOther (codes "th")
unfolding role_of table_role
header-other = record { other = refl; unbroken = refl; plain = refl }

name-other : (name : BlockElement) → IsOther (element_name name)
unfolding role_of table_role heading_or_block block_role
name-other an.Details = record { other = refl; unbroken = refl; plain = refl }
name-other an.Summary = record { other = refl; unbroken = refl; plain = refl }
name-other an.Terms = record { other = refl; unbroken = refl; plain = refl }
name-other an.Term = record { other = refl; unbroken = refl; plain = refl }
name-other an.Meaning = record { other = refl; unbroken = refl; plain = refl }
name-other an.Figure = record { other = refl; unbroken = refl; plain = refl }
name-other an.FigureCaption = record { other = refl; unbroken = refl; plain = refl }
name-other an.Table = record { other = refl; unbroken = refl; plain = refl }
name-other an.Caption = record { other = refl; unbroken = refl; plain = refl }
name-other an.Row = record { other = refl; unbroken = refl; plain = refl }
name-other an.Cell = record { other = refl; unbroken = refl; plain = refl }
name-other an.HeaderCell = record { other = refl; unbroken = refl; plain = refl }

module _ (scripting is_rich : Bool) where
  -- all nodes of these trees have no such link
  abbrev pub AllFar : ValueForest → Type 0
  AllFar ts = (g : NumberedForest) (j : ℕ) → Stands (value_forest g) ts → is_ordered j g ≡ true
      → far scripting is_rich g ≡ true

  none-far : AllFar value.none
  none-far g j e o = ap (far scripting is_rich) (from-none g e)

  -- a block, and those behind it
  one-far : (name : List ℕ) (attributes : List AttributePair) (content ts : ValueForest) → IsOther name
      → AllFar content → AllFar ts → AllFar (value.more (value.element name attributes content) (line_before ts))
  one-far name attributes content ts own inside later f k e o =
      let found = from-block f name attributes content ts e own.unbroken in
      let order = block-order k f found.id name attributes found.inside found.line found.rest found.is o in
      element-far scripting is_rich f found.id name attributes found.inside (behind found.line found.rest) found.is
      own.other own.plain (inside found.inside 0 found.within order.0)
      (later found.rest (suc found.line) found.others order.1)

  -- in lines of their own
  lines-far : (ts : ValueForest) → AllFar ts → AllFar (line_before ts)
  lines-far ts all f k e o =
      let found = from-text f (line_feed ∷ []) ts e in
      ap (far scripting is_rich) found.is
      ∙ all found.rest (suc found.id) found.others
      (ordered-next k f (page.text found.id (line_feed ∷ [])) found.rest found.is o).rest

  pub inside-far : (t : Option (List ℕ)) (ts : ValueForest) → AllFar ts → AllFar (inside_trees t ts)
  inside-far None ts all = lines-far ts all
  inside-far (Some []) ts all = none-far
  inside-far (Some (b ∷ s)) ts all = λ f k e o.
      let found = from-text f (b ∷ s) value.none e in
      ap (far scripting is_rich) found.is ∙ ap (far scripting is_rich) (from-none found.rest found.others)

  section-far : (ts after : SpelledForest) → begins_text ts ≡ false → AllFar (forest_of ts)
      → AllFar (forest_of after)
      → AllFar (forest_of (sectioned ts after))
  section-far trees.none after h all others = others
  section-far (trees.more (trees.text s) ts) after h all others = true-false h
  section-far (trees.more t ts) after h all others = λ f k e o.
      let found = from-element f section_name [] (forest_of (trees.more t ts)) (forest_of after) e in
      let order = ordered-next k f (page.element found.id section_name [] found.inside) found.rest found.is o in
      element-far scripting is_rich f found.id section_name [] found.inside found.rest found.is section-other.other
      section-other.plain (all found.inside 0 found.within order.inside)
      (others found.rest (suc found.id) found.others order.rest)

  -- ---- tables of GitHub's form

  cells-far : (name : List ℕ) (columns : List Alignment) (cells : List Inlines) → IsOther name
      → list_all is_settled_line cells ≡ true → list_all line_keeps cells ≡ true
      → list_all (line_shows is_rich) cells ≡ true → list_all is_normal_line cells ≡ true
      → list_all anchors_stand_well cells ≡ true → list_all are_away cells ≡ true
      → weight_of_cells cells < greatest_count → AllFar (forest_of (spelled_cells name columns cells))
  cells-far name columns [] own settled keep formats normal stand away light = none-far
  cells-far name columns (c ∷ cs) own settled keep formats normal stand away light =
      let good = and_parts (is_settled_line c) (list_all is_settled_line cs) settled in
      let form = and_parts (is_normal_line c) (list_all is_normal_line cs) normal in
      let shows = and_parts (line_shows is_rich c) (list_all (line_shows is_rich) cs) formats in
      let line = and_parts (are_whole c) (are_normal false [] c) form.0 in
      let keeps = and_parts (line_keeps c) (list_all line_keeps cs) keep in
      let well = and_parts (anchors_stand_well c) (list_all anchors_stand_well cs) stand in
      let aways = and_parts (are_away c) (list_all are_away cs) away in
      let held = and_parts (are_black_ended c) (are_held c) (line-held c line.1 good.0 well.0 keeps.0) in
      one-far name (pairs_of_alignment (first_alignment columns)) (line_trees c)
      (forest_of (spelled_cells name (drop 1 columns) cs)) own
      (λ g j e o. line-far scripting is_rich c j false g [] [] covers-none free-none e line.1 held.1 shows.0 aways.0
      (left-light (weight_among c) (weight_of_cells cs) light) o)
      (cells-far name (drop 1 columns) cs own good.1 keeps.1 shows.1 form.1 well.1 aways.1
      (right-light (weight_among c) (weight_of_cells cs) light))

  rows-far : (columns : List Alignment) (rows : List (List Inlines))
      → list_all (list_all is_settled_line) rows ≡ true → list_all (list_all line_keeps) rows ≡ true
      → list_all (list_all (line_shows is_rich)) rows ≡ true → list_all (list_all is_normal_line) rows ≡ true
      → list_all (list_all anchors_stand_well) rows ≡ true → list_all (list_all are_away) rows ≡ true
      → weight_of_rows rows < greatest_count → AllFar (forest_of (spelled_rows columns rows))
  rows-far columns [] settled keep formats normal stand away light = none-far
  rows-far columns (r ∷ rs) settled keep formats normal stand away light =
      let good = and_parts (list_all is_settled_line r) (list_all (list_all is_settled_line) rs) settled in
      let form = and_parts (list_all is_normal_line r) (list_all (list_all is_normal_line) rs) normal in
      let shows = and_parts (list_all (line_shows is_rich) r) (list_all (list_all (line_shows is_rich)) rs) formats in
      let keeps = and_parts (list_all line_keeps r) (list_all (list_all line_keeps) rs) keep in
      let well = and_parts (list_all anchors_stand_well r) (list_all (list_all anchors_stand_well) rs) stand in
      let aways = and_parts (list_all are_away r) (list_all (list_all are_away) rs) away in
      let cells : ValueForest = forest_of (spelled_cells (codes "td") columns r) in
      one-far (codes "tr") [] (line_before cells) (forest_of (spelled_rows columns rs)) (name-other an.Row)
      (lines-far cells (cells-far (codes "td") columns r (name-other an.Cell) good.0 keeps.0 shows.0 form.0 well.0
      aways.0 (left-light (weight_of_cells r) (weight_of_rows rs) light)))
      (rows-far columns rs good.1 keeps.1 shows.1 form.1 well.1 aways.1
      (right-light (weight_of_cells r) (weight_of_rows rs) light))

  body-far : (columns : List Alignment) (rows : List (List Inlines)) → AllFar (forest_of (spelled_rows columns rows))
      → AllFar (forest_of (spelled_body columns rows))
  body-far columns [] all = none-far
  body-far columns (r ∷ rs) all =
      let rows : ValueForest = forest_of (spelled_rows columns (r ∷ rs)) in
      one-far (codes "tbody") [] (line_before rows) value.none section-other (lines-far rows all) none-far

  table-far : (columns : List Alignment) (header : List Inlines) (rows : List (List Inlines))
      → is_settled_table header (map cut_row rows) ≡ true
      → (list_all line_keeps header && list_all (list_all line_keeps) (map cut_row rows)) ≡ true
      → (list_all (line_shows is_rich) header && list_all (list_all (line_shows is_rich)) (map cut_row rows)) ≡ true
      → is_normal_table columns header (map cut_row rows) ≡ true
      → (list_all are_away header && list_all (list_all are_away) (map cut_row rows)) ≡ true
      → weight_of_cells header + weight_of_rows (map cut_row rows) < greatest_count
      → AllFar (forest_of (spelled_table columns header rows))
  table-far columns header rows settled keep formats normal away light =
      let lines : List (List Inlines) = map cut_row rows in
      let own : IsTable scripting is_rich 0 columns header rows =
      is-table scripting is_rich 0 columns header rows settled keep formats normal in
      let aways = and_parts (list_all are_away header) (list_all (list_all are_away) lines) away in
      let few : weight_of_rows rows < greatest_count =
      subst (λ (k : ℕ). k < greatest_count) (cut-weights rows)
      (right-light (weight_of_cells header) (weight_of_rows lines) light) in
      let cells : ValueForest = forest_of (spelled_cells (codes "th") columns header) in
      let line : ValueForest =
      value.more (value.element (codes "tr") [] (line_before cells)) (line_before value.none) in
      one-far (codes "thead") [] (line_before line) (forest_of (spelled_body columns rows)) head-other
      (lines-far line (one-far (codes "tr") [] (line_before cells) value.none (name-other an.Row)
      (lines-far cells (cells-far (codes "th") columns header header-other own.settled own.free own.shows own.normal
      own.stands aways.0 (left-light (weight_of_cells header) (weight_of_rows lines) light))) none-far))
      (body-far columns rows (rows-far columns rows own.all_settled own.all_free own.all_show own.all_normal
      own.all_stand (all-cells are_away refl rows aways.1) few))

  -- ---- code

  code-far : (language : Option (List ℕ)) (s : List ℕ) (ts : ValueForest) → IsShownCode s → AllFar ts
      → AllFar (value.more (value.element (codes "pre") [] (forest_of (code_block_tree language s))) (line_before ts))
  unfolding role_of table_role heading_or_block block_role
  code-far language s ts shows later f k e o =
      let pairs : List AttributePair = pairs_of_language language in
      let own = from-block f (codes "pre") [] (forest_of (code_block_tree language s)) ts e refl in
      let order = block-order k f own.id (codes "pre") [] own.inside own.line own.rest own.is o in
      let code = from-element own.inside (codes "code") pairs (forest_of (code_trees s)) value.none own.within in
      let line = from-text code.inside (with_end s) value.none
      (subst (Stands (value_forest code.inside)) shows.tree code.within) in
      let inside : own.inside ≡ page.more (page.element code.id (codes "code") pairs
      (page.more (page.text line.id (with_end s)) page.none)) page.none =
      code.is ∙ (ap (λ g. page.more (page.element code.id (codes "code") pairs g) code.rest)
      (line.is ∙ ap (page.more (page.text line.id (with_end s))) (from-none line.rest line.others))
      ∙ ap (page.more (page.element code.id (codes "code") pairs
      (page.more (page.text line.id (with_end s)) page.none))) (from-none code.rest code.others)) in
      ap (far scripting is_rich) own.is
      ∙ (ap (λ g. far scripting is_rich
      (page.more (page.element own.id (codes "pre") [] g) (behind own.line own.rest)))
      inside ∙ later own.rest (suc own.line) own.others order.1)

  -- ---- blocks

  element-before : (name : BlockElement) (attributes : List BlockAttribute) (t : Option (List ℕ))
      (content ts : SpelledForest) → AllFar (forest_of content) → AllFar (forest_of ts)
      → AllFar (forest_of (spelled_element name attributes t content ts))
  element-before name attributes t content ts inside later f k e o =
      one-far (element_name name) (pairs_of_element attributes) (inside_trees t (forest_of content))
      (forest_of ts) (name-other name) (inside-far t (forest_of content) inside) later f k
      (subst (Stands (value_forest f)) (element-trees name attributes t content ts) e) o

  element-inside : (name : BlockElement) (attributes : List BlockAttribute) (content d : Blocks)
      → AllFar (forest_of (spelled_inside name (spelled_in content))) → AllFar (trees_in d)
      → AllFar (trees_in (block (element name attributes content) d))
  element-inside name attributes content d inside later =
      element-before name attributes (text_in_line content) (spelled_inside name (spelled_in content)) (spelled_in d)
      inside later

  -- a line of a tight item, and a block behind it
  pair-far : (xs : Inlines) (c : Block) → IsParagraph xs → line_shows is_rich xs ≡ true → are_away xs ≡ true
      → weight_among xs < greatest_count → AllFar (trees_in (block c no_blocks))
      → AllFar (forest_of (item_trees true (block (paragraph xs) (block c no_blocks))
      (spelled_in (block (paragraph xs) (block c no_blocks)))))
  pair-far xs c own formats away light later f k e o =
      let parts = split scripting is_rich (spelled_line xs) (spelled_in (block c no_blocks)) 0 k None f
      (steady-paragraph scripting is_rich xs own formats) fresh-first e o in
      parts.far (paragraph-far scripting is_rich xs parts.front parts.line own formats away light k parts.first_ordered)
      (later parts.back 0 parts.others parts.ordered)

  -- what is in an item, by its blocks and those behind the first
  item-far : (bs : Blocks) (is_tight : Bool) → are_settled_blocks (cut_blocks bs) ≡ true
      → blocks_keep false (cut_blocks bs) ≡ true → formats_show is_rich (cut_blocks bs) ≡ true
      → (is_tight ≡ true → may_be_tight (flattened (cut_blocks bs)) ≡ true)
      → are_normal_blocks true (cut_blocks bs) ≡ true → blocks_are_away (cut_blocks bs) ≡ true
      → weight_in (cut_blocks bs) < greatest_count → AllFar (trees_in bs)
      → AllFar (trees_in (behind_first bs)) → AllFar (forest_of (item_trees is_tight bs (spelled_in bs)))
  item-far no_blocks is_tight settled keep formats tight normal away light all after = none-far
  item-far (block b bs) false settled keep formats tight normal away light all after =
      lines-far (trees_in (block b bs)) all
  item-far (block (paragraph xs) (block c (block d bs))) true settled keep formats tight normal away light all after =
      false-true (sym (two-stop xs (cut_block c) (cut_block d) (cut_blocks bs)) ∙ tight refl)
  item-far (block (paragraph xs) (block c no_blocks)) true settled keep formats tight normal away light all after =
      let rest : Blocks = cut_blocks (block c no_blocks) in
      let good = and_parts (is_settled_paragraph xs) (are_settled_blocks rest) settled in
      let keeps = and_parts (stays false (paragraph xs) rest) (blocks_keep false rest) keep in
      let shows = and_parts (line_shows is_rich xs) (formats_show is_rich rest) formats in
      let form = and_parts (is_normal_paragraph true xs) (are_normal_blocks false rest) normal in
      let aways = and_parts (are_away xs) (blocks_are_away rest) away in
      let own = paragraph-parts true xs good.0 form.0
      (lasting-pair xs (cut_block c) (one-goes xs (cut_block c) (tight refl)) keep) in
      pair-far xs c own shows.0 aways.0 (left-light (weight_among xs) (weight_in rest) light)
      after
  item-far (block (paragraph xs) no_blocks) true settled keep formats tight normal away light all after =
      let own = paragraph-parts true xs (and_parts (is_settled_paragraph xs) true settled).0
      (and_parts (is_normal_paragraph true xs) true normal).0 (lasting-alone xs keep) in
      λ g j e o. paragraph-far scripting is_rich xs g e own (and_parts (line_shows is_rich xs) true formats).0
      (and_parts (are_away xs) true away).0 (left-light (weight_among xs) 0 light) j o
  item-far (block (heading level xs) bs) true settled keep formats tight normal away light all after =
      lines-far (trees_in (block (heading level xs) bs)) all
  item-far (block (code_block language s) bs) true settled keep formats tight normal away light all after =
      lines-far (trees_in (block (code_block language s) bs)) all
  item-far (block (quote content) bs) true settled keep formats tight normal away light all after =
      lines-far (trees_in (block (quote content) bs)) all
  item-far (block thematic_break bs) true settled keep formats tight normal away light all after =
      lines-far (trees_in (block thematic_break bs)) all
  item-far (block (list start spread items) bs) true settled keep formats tight normal away light all after =
      lines-far (trees_in (block (list start spread items) bs)) all
  item-far (block (table columns header rows) bs) true settled keep formats tight normal away light all after =
      lines-far (trees_in (block (table columns header rows) bs)) all
  item-far (block (element name attributes content) bs) true settled keep formats tight normal away light all after =
      lines-far (trees_in (block (element name attributes content) bs)) all
  item-far (block (tags s) bs) true settled keep formats tight normal away light all after = false-true settled

  -- what is known of the blocks in an element
  record IsInner (seen : Blocks) : Type 0 where
    settled : are_settled_alone seen ≡ true
    keep : blocks_keep false seen ≡ true
    shows : formats_show is_rich seen ≡ true
    form : are_normal_blocks false seen ≡ true

  is-inner : (name : BlockElement) (attributes : List BlockAttribute) (b : Bool) (seen : Blocks)
      → (is_bounded name seen && are_settled_alone seen) ≡ true
      → ((blocks_keep false seen && (not (is_headed_element name) || title_keeps seen)) && true) ≡ true
      → (is_rich && formats_show is_rich seen) ≡ true
      → is_normal_block b (element name attributes seen) ≡ true → IsInner seen
  is-inner name attributes b seen settled keep formats normal =
      let title : Bool = not (is_headed_element name) || title_keeps seen in
      record {
        settled = (and_parts (is_bounded name seen) (are_settled_alone seen) settled).1;
        keep = (and_parts (blocks_keep false seen) title (and_parts (blocks_keep false seen && title) true keep).0).0;
        shows = (and_parts is_rich (formats_show is_rich seen) formats).1;
        form = (and_parts (is_normal_element name attributes seen) (are_normal_blocks false seen) normal).1;
      }

  mutual
    pub blocks-far : (d : Blocks) (b : Bool) → are_settled_alone (cut_blocks d) ≡ true
        → blocks_keep false (cut_blocks d) ≡ true → formats_show is_rich (cut_blocks d) ≡ true
        → are_normal_blocks b (cut_blocks d) ≡ true → blocks_are_away (cut_blocks d) ≡ true
        → weight_in (cut_blocks d) < greatest_count → AllFar (trees_in d)
    blocks-far no_blocks b settled keep formats normal away light = none-far
    blocks-far (block own d) b settled keep formats normal away light =
        let seen : Block = cut_block own in
        let rest : Blocks = cut_blocks d in
        let good = and_parts (is_settled_alone seen) (are_settled_alone rest) settled in
        let keeps = and_parts (stays false seen rest) (blocks_keep false rest) keep in
        let shows = and_parts (block_shows is_rich seen) (formats_show is_rich rest) formats in
        let form = and_parts (is_normal_block b seen) (are_normal_blocks false rest) normal in
        let aways = and_parts (block_is_away seen) (blocks_are_away rest) away in
        block-far own d b good.0 keeps.0 shows.0 form.0 aways.0
        (left-light (weight_of_block seen) (weight_in rest) light)
        (blocks-far d false good.1 keeps.1 shows.1 form.1 aways.1
        (right-light (weight_of_block seen) (weight_in rest) light))

    -- one with blocks behind it
    block-far : (own : Block) (d : Blocks) (b : Bool) → is_settled_alone (cut_block own) ≡ true
        → stays false (cut_block own) (cut_blocks d) ≡ true → block_shows is_rich (cut_block own) ≡ true
        → is_normal_block b (cut_block own) ≡ true → block_is_away (cut_block own) ≡ true
        → weight_of_block (cut_block own) < greatest_count → AllFar (trees_in d) → AllFar (trees_in (block own d))
    block-far (paragraph xs) d b settled keep formats normal away light later =
        one-far (codes "p") [] (line_trees xs) (trees_in d) paragraph-other
        (λ g j e o.
        test (are_anchors xs)
        (λ h. anchors-far scripting is_rich xs g e h)
        (λ h. paragraph-far scripting is_rich xs g e
        (paragraph-parts b xs settled normal (lasting-line false xs (cut_blocks d) keep h)) formats away light j o))
        later
    block-far (heading level xs) d b settled keep formats normal away light later =
        let whole = and_parts (is_settled_line xs) (are_away xs) settled in
        let line = heading-normal level xs normal in
        let keeps = and_parts (line_keeps xs) (heading_keeps xs)
        (and_parts (line_keeps xs && heading_keeps xs) true keep).0 in
        let held = and_parts (are_black_ended xs) (are_held xs)
        (line-held xs line.normal whole.0 line.stands keeps.0) in
        one-far (heading_name level) [] (line_trees xs) (trees_in d) (heading-other level line.right)
        (λ g j e o. line-far scripting is_rich xs j false g [] [] covers-none free-none e line.normal held.1 formats
        away light o) later
    block-far (code_block language s) d b settled keep formats normal away light later =
        let good = and_parts (has_settled_language language) (is_settled_code s) settled in
        code-far language s (trees_in d)
        (code-shows s good.1 (and_parts (has_language language) (list_all is_code_byte s) normal).1) later
    block-far (quote content) d b settled keep formats normal away light later =
        let seen : Blocks = cut_blocks content in
        one-far (codes "blockquote") [] (line_before (trees_in content)) (trees_in d) quote-other
        (lines-far (trees_in content)
        (blocks-far content false settled (and_parts (blocks_keep false seen) true keep).0 formats
        (and_parts _ (are_normal_blocks false seen) normal).1 away light)) later
    block-far thematic_break d b settled keep formats normal away light later =
        one-far (codes "hr") [] value.none (trees_in d) rule-other none-far later
    block-far (list start is_tight items) d b settled keep formats normal away light later =
        let seen : Items = cut_items items in
        let good = and_parts (is_right_list is_tight seen) (are_settled_items seen) settled in
        let form = and_parts (is_normal_list start is_tight (flat_items seen)) (are_normal_items seen) normal in
        let list_form = and_parts (has_filled_item (flat_items seen) && are_short_numbers start
        (item_count (flat_items seen))) (has_right_distance is_tight (flat_items seen)) form.0 in
        one-far (list_name start) (pairs_of_start start) (line_before (trees_of_items is_tight items)) (trees_in d)
        (list-other start)
        (lines-far (trees_of_items is_tight items)
        (items-far items is_tight good.1 (and_parts (items_keep seen) true keep).0 formats
        (tight-items is_tight seen list_form.1) form.1 away light)) later
    block-far (table columns header rows) d b settled keep formats normal away light later =
        let ts : ValueForest = forest_of (spelled_table columns header rows) in
        one-far (codes "table") [] (line_before ts) (trees_in d) (name-other an.Table)
        (lines-far ts (table-far columns header rows settled (and_parts _ true keep).0 formats normal away light)) later
    block-far (element an.Table attributes content) d b settled keep formats normal away light later =
        let own = is-inner an.Table attributes b (cut_blocks content) settled keep formats normal in
        let place = (and_parts (are_table_parts (cut_blocks content)) (are_settled_alone (cut_blocks content))
        settled).0 in
        let ps : Parts = table_parts (spelled_in content) in
        let inner = parts-far content place own.settled own.keep own.shows own.form away light in
        element-inside an.Table attributes content d
        (section-far ps.rows ps.after (parts-begin content (uncut-parts content place)).0 inner.0 inner.1) later
    block-far (element name attributes content) d b settled keep formats normal away light later =
        let own = is-inner name attributes b (cut_blocks content) settled keep formats normal in
        element-inside name attributes content d
        (blocks-far content false own.settled own.keep own.shows own.form away light) later
    block-far (tags s) d b settled keep formats normal away light later = false-true settled

    -- what stands in a table: the rows up to a caption, and what stands behind these
    parts-far : (d : Blocks) → are_table_parts (cut_blocks d) ≡ true → are_settled_alone (cut_blocks d) ≡ true
        → blocks_keep false (cut_blocks d) ≡ true → formats_show is_rich (cut_blocks d) ≡ true
        → are_normal_blocks false (cut_blocks d) ≡ true → blocks_are_away (cut_blocks d) ≡ true
        → weight_in (cut_blocks d) < greatest_count
        → AllFar (forest_of (table_parts (spelled_in d)).rows)
        × AllFar (forest_of (table_parts (spelled_in d)).after)
    parts-far no_blocks place settled keep formats normal away light = (none-far, none-far)
    parts-far (block (element an.Row attributes content) d) place settled keep formats normal away light =
        let seen : Blocks = cut_blocks content in
        let one : Block = element an.Row attributes seen in
        let rest : Blocks = cut_blocks d in
        let good = and_parts (is_settled_alone one) (are_settled_alone rest) settled in
        let keeps = and_parts (stays false one rest) (blocks_keep false rest) keep in
        let shows = and_parts (block_shows is_rich one) (formats_show is_rich rest) formats in
        let form = and_parts (is_normal_block false one) (are_normal_blocks false rest) normal in
        let aways = and_parts (blocks_are_away seen) (blocks_are_away rest) away in
        let own = is-inner an.Row attributes false seen good.0 keeps.0 shows.0 form.0 in
        let t : Option (List ℕ) = text_in_line content in
        let ps : Parts = table_parts (spelled_in d) in
        let later = parts-far d place good.1 keeps.1 shows.1 form.1 aways.1
        (right-light (weight_in seen) (weight_in rest) light) in
        let is = sym (row-before attributes (spelled_in content) (spelled_in d) t) in (
          subst (λ (qs : Parts). AllFar (forest_of qs.rows)) is
              (element-before an.Row attributes t (spelled_in content) ps.rows
              (blocks-far content false own.settled own.keep own.shows own.form aways.0
              (left-light (weight_in seen) (weight_in rest) light)) later.0),
          subst (λ (qs : Parts). AllFar (forest_of qs.after)) is later.1,
        )
    parts-far (block (element an.Caption attributes content) d) place settled keep formats normal away light =
        let seen : Blocks = cut_blocks content in
        let one : Block = element an.Caption attributes seen in
        let rest : Blocks = cut_blocks d in
        let good = and_parts (is_settled_alone one) (are_settled_alone rest) settled in
        let keeps = and_parts (stays false one rest) (blocks_keep false rest) keep in
        let shows = and_parts (block_shows is_rich one) (formats_show is_rich rest) formats in
        let form = and_parts (is_normal_block false one) (are_normal_blocks false rest) normal in
        let aways = and_parts (blocks_are_away seen) (blocks_are_away rest) away in
        let own = is-inner an.Caption attributes false seen good.0 keeps.0 shows.0 form.0 in
        let t : Option (List ℕ) = text_in_line content in
        let ps : Parts = table_parts (spelled_in d) in
        let later = parts-far d place good.1 keeps.1 shows.1 form.1 aways.1
        (right-light (weight_in seen) (weight_in rest) light) in
        let is = sym (caption-before attributes (spelled_in content) (spelled_in d) t) in (
          subst (λ (qs : Parts). AllFar (forest_of qs.rows)) is none-far,
          subst (λ (qs : Parts). AllFar (forest_of qs.after)) is
              (element-before an.Caption attributes t (spelled_in content) (sectioned ps.rows ps.after)
              (blocks-far content false own.settled own.keep own.shows own.form aways.0
              (left-light (weight_in seen) (weight_in rest) light))
              (section-far ps.rows ps.after (parts-begin d (uncut-parts d place)).0 later.0 later.1)),
        )
    parts-far (block b d) place settled keep formats normal away light = false-true place

    items-far : (items : Items) (is_tight : Bool) → are_settled_items (cut_items items) ≡ true
        → items_keep (cut_items items) ≡ true → items_show is_rich (cut_items items) ≡ true
        → (is_tight ≡ true → are_tight (flat_items (cut_items items)) ≡ true)
        → are_normal_items (cut_items items) ≡ true → items_are_away (cut_items items) ≡ true
        → weight_of_items (cut_items items) < greatest_count → AllFar (trees_of_items is_tight items)
    items-far no_items is_tight settled keep formats tight normal away light = none-far
    items-far (item bs rest) is_tight settled keep formats tight normal away light =
        let first : Blocks = cut_blocks bs in
        let later : Items = cut_items rest in
        let good = and_parts (are_settled_blocks first) (are_settled_items later) settled in
        let keeps = and_parts (blocks_keep false first) (items_keep later) keep in
        let shows = and_parts (formats_show is_rich first) (items_show is_rich later) formats in
        let form = and_parts (are_normal_blocks true first) (are_normal_items later) normal in
        let aways = and_parts (blocks_are_away first) (items_are_away later) away in
        one-far (codes "li") [] (forest_of (item_trees is_tight bs (spelled_in bs))) (trees_of_items is_tight rest)
        item-other
        (item-far bs is_tight good.0 keeps.0 shows.0
        (λ t. (and_parts (may_be_tight (flattened first)) (are_tight (flat_items later)) (tight t)).0) form.0 aways.0
        (left-light (weight_in first) (weight_of_items later) light)
        (blocks-far bs true (settled-alone first good.0) keeps.0 shows.0 form.0 aways.0
        (left-light (weight_in first) (weight_of_items later) light))
        (rest-far bs good.0 keeps.0 shows.0 form.0 aways.0
        (left-light (weight_in first) (weight_of_items later) light)))
        (items-far rest is_tight good.1 keeps.1 shows.1
        (λ t. (and_parts (may_be_tight (flattened first)) (are_tight (flat_items later)) (tight t)).1) form.1 aways.1
        (right-light (weight_in first) (weight_of_items later) light))

    -- behind the first block of an item
    rest-far : (bs : Blocks) → are_settled_blocks (cut_blocks bs) ≡ true
        → blocks_keep false (cut_blocks bs) ≡ true → formats_show is_rich (cut_blocks bs) ≡ true
        → are_normal_blocks true (cut_blocks bs) ≡ true → blocks_are_away (cut_blocks bs) ≡ true
        → weight_in (cut_blocks bs) < greatest_count → AllFar (trees_in (behind_first bs))
    rest-far no_blocks settled keep formats normal away light = none-far
    rest-far (block b d) settled keep formats normal away light =
        let own : Block = cut_block b in
        let rest : Blocks = cut_blocks d in
        blocks-far d false (settled-alone rest (and_parts (is_settled_block own) (are_settled_blocks rest) settled).1)
        (and_parts (stays false own rest) (blocks_keep false rest) keep).1
        (and_parts (block_shows is_rich own) (formats_show is_rich rest) formats).1
        (and_parts (is_normal_block true own) (are_normal_blocks false rest) normal).1
        (and_parts (block_is_away own) (blocks_are_away rest) away).1
        (right-light (weight_of_block own) (weight_in rest) light)
