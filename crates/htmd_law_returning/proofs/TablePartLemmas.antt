-- Tables that are elements come back: what shows of their parts, and that these give the rows and cells.
use Rattle.std.proofs.Common.{◌≡◌, ℕ, suc, ◌<◌, Bool, true, false, ◌&&◌, ◌||◌, List, [], ◌∷◌}
use Rattle.std.proofs.Common.{codes, refl, sym, ap}
use Rattle.std.proofs.Common.{◌∙◌, subst, Option, Some, None}
use Rattle.htmd_lexical.specs.AttributePairs.{AttributePair}
use Rattle.htmd_lexical.specs.Characters.{line_feed}
use Rattle.htmd_values.specs.ValueTrees.{ValueForest}
use Rattle.htmd_values.specs.ValueTrees as value
use Rattle.htmd_nodes.specs.NumberedTrees.{NumberedForest, value_forest}
use Rattle.htmd_nodes.specs.NumberedTrees as page
use Rattle.htmd_document.specs.Documents.{Blocks, no_blocks, block, element, BlockAttribute}
use Rattle.htmd_document.specs.FlatDocuments.{text_in_line}
use Rattle.htmd_document.specs.Tags.{element_name}
use Rattle.htmd_document.specs.TightItems.{is_filled}
use Rattle.htmd_document.specs.NormalDocuments.{are_normal_blocks}
use Rattle.htmd_document.specs.declared.document.BlockElement.TheVariants as an
use Rattle.htmd_shown.specs.ClassWords.{mathjax_words, number_words}
use Rattle.htmd_shown.specs.Facts.{made}
use Rattle.htmd_shown.specs.LineNumbers.{is_cell_name, has_number_cell, has_code_cell, has_numbered, has_numbered_rows}
use Rattle.htmd_shown.specs.Roles.{role_of, table_role}
use Rattle.htmd_shown.specs.Shown.{shown}
use Rattle.htmd_shown.specs.SimpleTrees.{Simples, none, more}
use Rattle.htmd_shown.specs.declared.role.Role.TheVariants as role
use Rattle.htmd_shown.specs.Pieces.{greatest_count}
use Rattle.htmd_law_rendering.specs.RenderedTrees.{pairs_of_element, section_name, sectioned}
use Rattle.htmd_law_rendering.specs.SpelledTrees.{SpelledForest, value_forest as forest_of}
use Rattle.htmd_law_returning.proofs.KeptBlocks.{blocks_keep}
use Rattle.htmd_law_returning.specs.PageFormats.{formats_show}
use Rattle.htmd_law_returning.specs.SettledDocuments.{are_settled_blocks, are_settled_in, weight_in}
use Rattle.htmd_law_returning.specs.SettledTables.{is_border_at_most, are_rows_of_element, rows_in, end_at_captions}
use Rattle.htmd_law_returning.proofs.BlockTrees.{trees_in, cut_blocks, spelled_in, spelled_element, spelled_inside}
use Rattle.htmd_law_returning.proofs.BlockTrees.{Parts, table_parts}
use Rattle.htmd_law_returning.proofs.CellLemmas.{one-paragraph, inside-lean, cells-long}
use Rattle.htmd_law_returning.proofs.ElementForms.{are_table_parts, parts-long, settled-alone}
use Rattle.htmd_law_returning.proofs.ElementTrees.{cut-text}
use Rattle.htmd_law_returning.proofs.GivenBlocks.{plain-parts, returned-given}
use Rattle.htmd_law_returning.proofs.SectionTrees.{section-first, row-before, caption-before}
use Rattle.htmd_law_returning.proofs.TaskLemmas.{unboxed}
use Rattle.htmd_law_returning.proofs.ElementCells.{AreElementCells, no-cells, more-cells, cell_name}
use Rattle.htmd_law_returning.proofs.ElementCells.{AreElementRows, no-rows, more-rows, one-bare-row}
use Rattle.htmd_law_returning.proofs.ElementTables.{element-table-gives}
use Rattle.htmd_law_returning.proofs.TableContents.{AreInTable, table-none, table-body, append, are_rows}
use Rattle.htmd_law_returning.proofs.TallRows.{begins_with_row}
use Rattle.htmd_law_returning.proofs.InsideLemmas.{IsInside, inside_trees, inside-returned, element-trees}
use Rattle.htmd_law_returning.proofs.LeanTrees.{AreLeanTrees, black-filled}
use Rattle.htmd_law_returning.proofs.OrderLemmas.{is_ordered, ordered-next}
use Rattle.htmd_law_returning.proofs.PageLemmas.{from-none, from-text, from-element, from-block, block-order}
use Rattle.htmd_law_returning.proofs.PageLemmas.{line_before}
use Rattle.htmd_law_returning.proofs.PageLemmas.{IsFresh, plain-content, shown_of, line-shown, none-shown}
use Rattle.htmd_law_returning.proofs.PageLemmas.{and-false}
use Rattle.htmd_law_returning.proofs.PartAttributes.{nameless, classless, layoutless, uncopied}
use Rattle.htmd_law_returning.proofs.ReadyLemmas.{parts_of}
use Rattle.htmd_law_returning.proofs.ReturnedBlocks.{IsFirst, first-one, behind, AreReturned}
use Rattle.htmd_law_returning.proofs.RichCellLemmas.{cell_role, line_tree}
use Rattle.htmd_law_returning.proofs.StandLemmas.{Stands, is_break}
use Rattle.htmd_law_returning.proofs.TableShownLemmas.{row-shown, body-shown}

-- ---- what shows

module _ (scripting is_rich : Bool) (before : Option (List AttributePair)) (id : ℕ) (attributes : List BlockAttribute)
    (inside f : NumberedForest) where
  abbrev pairs : List AttributePair
  pairs = pairs_of_element attributes

  cell-shown : (is_header : Bool)
      → shown_of scripting is_rich before
      (page.more (page.element id (element_name (cell_name is_header)) pairs inside) f)
      ≡ more (made id (cell_role is_header) pairs (shown_of scripting is_rich None inside))
      (shown_of scripting is_rich (Some pairs) f)
  unfolding shown role_of table_role
  cell-shown true =
      rw (uncopied before attributes, classless mathjax_words attributes)
      (ap (λ ts. more (made id role.HeaderCell pairs ts) (shown_of scripting is_rich (Some pairs) f))
      (plain-content id (shown_of scripting is_rich None inside)))
  cell-shown false =
      rw (uncopied before attributes, classless mathjax_words attributes)
      (ap (λ ts. more (made id role.Cell pairs ts) (shown_of scripting is_rich (Some pairs) f))
      (plain-content id (shown_of scripting is_rich None inside)))

  table-shown : has_numbered_rows inside ≡ false
      → shown_of scripting is_rich before (page.more (page.element id (codes "table") pairs inside) f)
      ≡ more (made id role.Table pairs (shown_of scripting is_rich None inside))
      (shown_of scripting is_rich (Some pairs) f)
  unfolding shown role_of table_role
  table-shown h =
      rw (uncopied before attributes, classless mathjax_words attributes, layoutless attributes, h)
      (ap (λ ts. more (made id role.Table pairs ts) (shown_of scripting is_rich (Some pairs) f))
      (plain-content id (shown_of scripting is_rich None inside)))

cell-unbroken : (is_header : Bool) → is_break (element_name (cell_name is_header)) ≡ false
cell-unbroken true = refl
cell-unbroken false = refl

-- ---- rows and cells

module _ (scripting is_rich : Bool) (n : ℕ) where
  -- what shows are the cells of a row
  pub record HasCells (cells : Blocks) (before : Option (List AttributePair)) (f : NumberedForest) : Type 0 where
    pub unnumbered : has_number_cell f ≡ false
    pub gives : AreElementCells is_rich n cells (shown_of scripting is_rich before f)

  -- and the rows of a table
  pub record HasRows (rows : Blocks) (before : Option (List AttributePair)) (f : NumberedForest) : Type 0 where
    pub unnumbered : has_numbered f ≡ false
    pub gives : AreElementRows is_rich n rows (shown_of scripting is_rich before f)

  pub none-cells : (before : Option (List AttributePair)) (f : NumberedForest) → Stands (value_forest f) value.none
      → HasCells no_blocks before f
  none-cells before f e =
      let is = from-none f e in
      record {
        unnumbered = ap has_number_cell is;
        gives = subst (λ (ts : Simples). AreElementCells is_rich n no_blocks ts)
            (sym (ap (shown_of scripting is_rich before) is ∙ none-shown scripting is_rich before))
            (no-cells is_rich n);
      }

  pub none-rows : (before : Option (List AttributePair)) (f : NumberedForest) → Stands (value_forest f) value.none
      → HasRows no_blocks before f
  none-rows before f e =
      let is = from-none f e in
      record {
        unnumbered = ap has_numbered is;
        gives = subst (λ (ts : Simples). AreElementRows is_rich n no_blocks ts)
            (sym (ap (shown_of scripting is_rich before) is ∙ none-shown scripting is_rich before))
            (no-rows is_rich n);
      }

  -- a cell, and those behind it
  pub one-cell : (is_header : Bool) (attributes : List BlockAttribute) (seen after : Blocks)
      (content others : ValueForest) (before : Option (List AttributePair)) (f : NumberedForest) (k : ℕ)
      → Stands (value_forest f) (value.more (value.element (element_name (cell_name is_header))
      (pairs_of_element attributes) content) (line_before others))
      → is_rich ≡ true → are_normal_blocks false seen ≡ true
      → blocks_keep false seen ≡ true
      → is_ordered k f ≡ true
      → ((g : NumberedForest) → Stands (value_forest g) content → is_ordered 0 g ≡ true
      → IsInside (parts_of is_rich n) (shown_of scripting is_rich None g) seen
      × AreLeanTrees is_rich seen (shown_of scripting is_rich None g))
      → ((g : NumberedForest) → Stands (value_forest g) others → (j : ℕ) → is_ordered j g ≡ true
      → HasCells after (Some (pairs_of_element attributes)) g)
      → HasCells (block (element (cell_name is_header) attributes seen) after) before f
  one-cell is_header attributes seen after content others before f k e rich normal keep o inner later =
      let name : List ℕ = element_name (cell_name is_header) in
      let pairs : List AttributePair = pairs_of_element attributes in
      let own = from-block f name pairs content others e (cell-unbroken is_header) in
      let order = block-order k f own.id name pairs own.inside own.line own.rest own.is o in
      let within = inner own.inside own.within order.0 in
      let rest = later own.rest own.others (suc own.line) order.1 in
      let ts : Simples = shown_of scripting is_rich None own.inside in
      record {
        unnumbered =
            ap has_number_cell own.is
            ∙ (ap (λ b. (is_cell_name name && b) || has_number_cell own.rest) (classless number_words attributes)
            ∙ (ap (λ b. b || has_number_cell own.rest) (and-false (is_cell_name name)) ∙ rest.unnumbered));
        gives = subst (λ (us : Simples). AreElementCells is_rich n
            (block (element (cell_name is_header) attributes seen) after) us)
            (sym (ap (shown_of scripting is_rich before) own.is
            ∙ (cell-shown scripting is_rich before own.id attributes own.inside (behind own.line own.rest) is_header
            ∙ ap (more (made own.id (cell_role is_header) pairs ts))
            (line-shown scripting is_rich (Some pairs) own.line own.rest))))
            (more-cells is_rich n own.id is_header attributes ts
            (shown_of scripting is_rich (Some pairs) own.rest) seen after
            (record {
              nameless = nameless attributes;
              sound = within.0.sound;
              waits = within.0.waits;
              spent = within.0.spent;
              gives = within.0.written.gives;
              shows = within.1.shows rich ∙ black-filled seen keep;
              tableless = λ h. within.1.tableless (one-paragraph seen h normal keep);
              first = within.0.first;
              unseen = within.0.unseen;
            }) rest.gives);
      }

  -- a row, and those behind it
  long-row : (seen after : Blocks) (cells others : ValueForest) (before : Option (List AttributePair))
      (f : NumberedForest) (k : ℕ) → IsFresh before
      → Stands (value_forest f) (value.more (value.element (codes "tr") [] (line_before cells)) (line_before others))
      → is_ordered k f ≡ true
      → ((g : NumberedForest) → Stands (value_forest g) cells → (j : ℕ) → is_ordered j g ≡ true
      → HasCells seen None g)
      → ((g : NumberedForest) → Stands (value_forest g) others → (j : ℕ) → is_ordered j g ≡ true
      → HasRows after (Some []) g)
      → HasRows (block (element an.Row [] seen) after) before f
  long-row seen after cells others before f k fresh e o inner later =
      let own = from-block f (codes "tr") [] (line_before cells) others e refl in
      let order = block-order k f own.id (codes "tr") [] own.inside own.line own.rest own.is o in
      let line = from-text own.inside (line_feed ∷ []) cells own.within in
      let first = ordered-next 0 own.inside (page.text line.id (line_feed ∷ [])) line.rest line.is order.0 in
      let within = inner line.rest line.others (suc line.id) first.rest in
      let rest = later own.rest own.others (suc own.line) order.1 in
      let ts : Simples = shown_of scripting is_rich None line.rest in
      let numberless : has_number_cell own.inside ≡ false = ap has_number_cell line.is ∙ within.unnumbered in
      record {
        unnumbered =
            ap has_numbered own.is
            ∙ (ap (λ b. (b && has_code_cell own.inside) || has_numbered own.rest) numberless ∙ rest.unnumbered);
        gives = subst (λ (us : Simples). AreElementRows is_rich n (block (element an.Row [] seen) after) us)
            (sym (ap (shown_of scripting is_rich before) own.is
            ∙ (row-shown scripting is_rich before own.id own.inside (behind own.line own.rest) fresh numberless
            ∙ (ap (λ us. more (made own.id role.Row [] us) (shown_of scripting is_rich (Some [])
            (behind own.line own.rest))) (ap (shown_of scripting is_rich None) line.is
            ∙ line-shown scripting is_rich None line.id line.rest)
            ∙ ap (more (made own.id role.Row [] (more line_tree ts)))
            (line-shown scripting is_rich (Some []) own.line own.rest)))))
            (more-rows is_rich n own.id [] ts (shown_of scripting is_rich (Some []) own.rest) seen after within.gives
            rest.gives);
      }

  -- one without cells
  bare-row : (after : Blocks) (others : ValueForest) (before : Option (List AttributePair))
      (f : NumberedForest) (k : ℕ) → IsFresh before
      → Stands (value_forest f) (value.more (value.element (codes "tr") [] value.none) (line_before others))
      → is_ordered k f ≡ true
      → ((g : NumberedForest) → Stands (value_forest g) others → (j : ℕ) → is_ordered j g ≡ true
      → HasRows after (Some []) g)
      → HasRows (block (element an.Row [] no_blocks) after) before f
  bare-row after others before f k fresh e o later =
      let own = from-block f (codes "tr") [] value.none others e refl in
      let order = block-order k f own.id (codes "tr") [] own.inside own.line own.rest own.is o in
      let none_inside = from-none own.inside own.within in
      let rest = later own.rest own.others (suc own.line) order.1 in
      let numberless : has_number_cell own.inside ≡ false = ap has_number_cell none_inside in
      record {
        unnumbered =
            ap has_numbered own.is
            ∙ (ap (λ b. (b && has_code_cell own.inside) || has_numbered own.rest) numberless ∙ rest.unnumbered);
        gives = subst (λ (us : Simples). AreElementRows is_rich n (block (element an.Row [] no_blocks) after) us)
            (sym (ap (shown_of scripting is_rich before) own.is
            ∙ (row-shown scripting is_rich before own.id own.inside (behind own.line own.rest) fresh numberless
            ∙ (ap (λ us. more (made own.id role.Row [] us) (shown_of scripting is_rich (Some [])
            (behind own.line own.rest))) (ap (shown_of scripting is_rich None) none_inside
            ∙ none-shown scripting is_rich None)
            ∙ ap (more (made own.id role.Row [] none))
            (line-shown scripting is_rich (Some []) own.line own.rest)))))
            (one-bare-row is_rich n own.id after (shown_of scripting is_rich (Some []) own.rest) rest.gives);
      }

  -- what shows is what stands in a table
  pub record HasTable (content : Blocks) (before : Option (List AttributePair)) (f : NumberedForest) : Type 0 where
    pub unnumbered : has_numbered_rows f ≡ false
    pub gives : AreInTable is_rich n content (shown_of scripting is_rich before f)

  pub nothing-left : (before : Option (List AttributePair)) (f : NumberedForest) → Stands (value_forest f) value.none
      → HasTable no_blocks before f
  nothing-left before f e =
      let is = from-none f e in
      record {
        unnumbered = ap has_numbered_rows is;
        gives = subst (λ (ts : Simples). AreInTable is_rich n no_blocks ts)
            (sym (ap (shown_of scripting is_rich before) is ∙ none-shown scripting is_rich before))
            (table-none is_rich n);
      }

  -- a section of rows, and what stands behind it
  pub section-left : (rows rest : Blocks) (trees others : ValueForest) (before : Option (List AttributePair))
      (f : NumberedForest) (k : ℕ) → IsFresh before
      → Stands (value_forest f) (value.more (value.element section_name [] trees) others)
      → are_rows rows ≡ true → begins_with_row (rows_in None rest) ≡ false → is_ordered k f ≡ true
      → ((g : NumberedForest) → Stands (value_forest g) trees → (j : ℕ) → is_ordered j g ≡ true
      → HasRows rows None g)
      → ((g : NumberedForest) → Stands (value_forest g) others → (j : ℕ) → is_ordered j g ≡ true
      → HasTable rest (Some []) g)
      → HasTable (append rows rest) before f
  section-left rows rest trees others before f k fresh e all begins o inner later =
      let body = from-element f section_name [] trees others e in
      let order = ordered-next k f (page.element body.id section_name [] body.inside) body.rest body.is o in
      let within = inner body.inside body.within 0 order.inside in
      let behind_it = later body.rest body.others (suc body.id) order.rest in
      let ts : Simples = shown_of scripting is_rich None body.inside in
      let us : Simples = shown_of scripting is_rich (Some []) body.rest in
      record {
        unnumbered =
            ap has_numbered_rows body.is
            ∙ (ap (λ b. b || has_numbered_rows body.rest) within.unnumbered ∙ behind_it.unnumbered);
        gives = subst (λ (us : Simples). AreInTable is_rich n (append rows rest) us)
            (sym (ap (shown_of scripting is_rich before) body.is
            ∙ body-shown scripting is_rich before body.id body.inside body.rest fresh))
            (table-body is_rich n body.id rows rest ts us all begins within.gives behind_it.gives);
      }

  -- a table
  pub table-first : (attributes : List BlockAttribute) (rows d : Blocks) (trees : ValueForest)
      (before : Option (List AttributePair)) (f : NumberedForest) (k : ℕ)
      → Stands (value_forest f) (value.more (value.element (codes "table") (pairs_of_element attributes)
      (line_before trees)) (line_before (trees_in d)))
      → is_rich ≡ true → is_border_at_most attributes ≡ true → end_at_captions (rows_in None rows) ≡ true
      → are_rows_of_element attributes (rows_in None rows) ≡ true
      → are_settled_in an.Table rows ≡ true → is_ordered k f ≡ true
      → ((g : NumberedForest) → Stands (value_forest g) trees → (j : ℕ) → is_ordered j g ≡ true
      → HasTable rows None g)
      → IsFirst scripting is_rich before f n (element an.Table attributes rows) d
  table-first attributes rows d trees before f k e rich border ends form settled o inner =
      let pairs : List AttributePair = pairs_of_element attributes in
      let own = from-block f (codes "table") pairs (line_before trees) (trees_in d) e refl in
      let order = block-order k f own.id (codes "table") pairs own.inside own.line own.rest own.is o in
      let line = from-text own.inside (line_feed ∷ []) trees own.within in
      let first = ordered-next 0 own.inside (page.text line.id (line_feed ∷ [])) line.rest line.is order.0 in
      let within = inner line.rest line.others (suc line.id) first.rest in
      let ts : Simples = shown_of scripting is_rich None line.rest in
      let content : shown_of scripting is_rich None own.inside ≡ more line_tree ts =
      ap (shown_of scripting is_rich None) line.is ∙ line-shown scripting is_rich None line.id line.rest in
      let numberless : has_numbered_rows own.inside ≡ false = ap has_numbered_rows line.is ∙ within.unnumbered in
      let after : Simples = shown_of scripting is_rich (Some pairs) (behind own.line own.rest) in
      first-one scripting is_rich before f own.rest n own.line (made own.id role.Table pairs (more line_tree ts)) pairs
      (element an.Table attributes rows) d
      (ap (shown_of scripting is_rich before) own.is
      ∙ (table-shown scripting is_rich before own.id attributes own.inside (behind own.line own.rest) numberless
      ∙ ap (λ us. more (made own.id role.Table pairs us) after) content))
      (element-table-gives is_rich n own.id attributes rows ts within.gives rich border ends form settled)
      own.others (suc own.line) order.1

  -- what is in a cell
  pub cell-returned : (all : Blocks) (f : NumberedForest)
      → Stands (value_forest f) (inside_trees (text_in_line all) (trees_in all)) → is_rich ≡ true
      → are_settled_blocks (cut_blocks all) ≡ true → formats_show is_rich (cut_blocks all) ≡ true
      → are_normal_blocks false (cut_blocks all) ≡ true → weight_in (cut_blocks all) < greatest_count
      → is_ordered 0 f ≡ true
      → ((g : NumberedForest) → Stands (value_forest g) (trees_in all) → (k : ℕ) → is_ordered k g ≡ true
      → AreReturned scripting is_rich false None g n (cut_blocks all))
      → IsInside (parts_of is_rich n) (shown_of scripting is_rich None f) (cut_blocks all)
      × AreLeanTrees is_rich (cut_blocks all) (shown_of scripting is_rich None f)
  cell-returned all f e rich settled formats normal light o later =
      let stands : Stands (value_forest f) (inside_trees (text_in_line (cut_blocks all)) (trees_in all)) =
      subst (λ t. Stands (value_forest f) (inside_trees t (trees_in all))) (sym (cut-text all)) e in
      let alone = settled-alone (cut_blocks all) settled in (
        inside-returned scripting is_rich n (parts_of is_rich n) (plain-parts is_rich n) all f stands alone formats
            normal light o
            (λ g h k p. returned-given scripting is_rich None g n (cut_blocks all) rich
            (unboxed (cut_blocks all) normal)
            (later g h k p)),
        inside-lean scripting is_rich n all f stands alone formats normal light o (λ g h k p. (later g h k p).lean),
      )

-- ---- trees

-- what stands in a table, from here on
abbrev pub table_trees : Blocks → ValueForest
table_trees all = forest_of (spelled_inside an.Table (spelled_in all))

pub table-trees : (attributes : List BlockAttribute) (all d : Blocks) → are_table_parts (cut_blocks all) ≡ true
    → is_filled (cut_blocks all) ≡ true
    → trees_in (block (element an.Table attributes all) d)
    ≡ value.more (value.element (codes "table") (pairs_of_element attributes) (line_before (table_trees all)))
    (line_before (trees_in d))
table-trees attributes all d parts some =
    ap (λ t. forest_of (spelled_element an.Table attributes t (spelled_inside an.Table (spelled_in all))
    (spelled_in d)))
    (sym (cut-text all) ∙ parts-long (cut_blocks all) parts some)

-- the rows up to a caption, and what stands behind these
abbrev pub row_trees : Blocks → ValueForest
row_trees all = forest_of (table_parts (spelled_in all)).rows

abbrev pub after_trees : Blocks → ValueForest
after_trees all = forest_of (table_parts (spelled_in all)).after

pub section-trees : (attributes : List BlockAttribute) (all d : Blocks)
    → table_trees (block (element an.Row attributes all) d)
    ≡ value.more (value.element section_name [] (forest_of (spelled_element an.Row attributes (text_in_line all)
    (spelled_in all) (table_parts (spelled_in d)).rows))) (after_trees d)
section-trees attributes all d =
    let ps : Parts = table_parts (spelled_in d) in
    ap (λ (qs : Parts). forest_of (sectioned qs.rows qs.after))
    (row-before attributes (spelled_in all) (spelled_in d) (text_in_line all))
    ∙ section-first attributes (text_in_line all) (spelled_in all) ps.rows ps.after

pub more-rows-trees : (attributes : List BlockAttribute) (all d : Blocks)
    → row_trees (block (element an.Row attributes all) d)
    ≡ forest_of (spelled_element an.Row attributes (text_in_line all) (spelled_in all)
    (table_parts (spelled_in d)).rows)
more-rows-trees attributes all d =
    ap (λ (qs : Parts). forest_of qs.rows) (row-before attributes (spelled_in all) (spelled_in d) (text_in_line all))

pub after-row-trees : (attributes : List BlockAttribute) (all d : Blocks)
    → after_trees (block (element an.Row attributes all) d) ≡ after_trees d
after-row-trees attributes all d =
    ap (λ (qs : Parts). forest_of qs.after) (row-before attributes (spelled_in all) (spelled_in d) (text_in_line all))

pub no-rows-trees : (attributes : List BlockAttribute) (all d : Blocks)
    → row_trees (block (element an.Caption attributes all) d) ≡ value.none
no-rows-trees attributes all d =
    ap (λ (qs : Parts). forest_of qs.rows)
    (caption-before attributes (spelled_in all) (spelled_in d) (text_in_line all))

-- a caption ends a section
pub after-caption-trees : (attributes : List BlockAttribute) (all d : Blocks)
    → after_trees (block (element an.Caption attributes all) d)
    ≡ table_trees (block (element an.Caption attributes all) d)
after-caption-trees attributes all d =
    let is = caption-before attributes (spelled_in all) (spelled_in d) (text_in_line all) in
    ap (λ (qs : Parts). forest_of qs.after) is
    ∙ sym (ap (λ (qs : Parts). forest_of (sectioned qs.rows qs.after)) is)

pub caption-trees : (attributes : List BlockAttribute) (all d : Blocks)
    → table_trees (block (element an.Caption attributes all) d)
    ≡ value.more (value.element (codes "caption") (pairs_of_element attributes)
    (inside_trees (text_in_line all) (trees_in all))) (line_before (table_trees d))
caption-trees attributes all d =
    ap (λ (ps : Parts). forest_of (sectioned ps.rows ps.after))
    (caption-before attributes (spelled_in all) (spelled_in d) (text_in_line all))
    ∙ element-trees an.Caption attributes (text_in_line all) (spelled_in all)
    (spelled_inside an.Table (spelled_in d))

row-trees : (all : Blocks) (ts : SpelledForest) → text_in_line (cut_blocks all) ≡ None
    → forest_of (spelled_element an.Row [] (text_in_line all) (spelled_in all) ts)
    ≡ value.more (value.element (codes "tr") [] (line_before (trees_in all))) (line_before (forest_of ts))
row-trees all ts long =
    ap (λ t. forest_of (spelled_element an.Row [] t (spelled_in all) ts)) (sym (cut-text all) ∙ long)

module _ (scripting is_rich : Bool) (n : ℕ) where
  -- a row, with cells or without
  pub one-row : (all after : Blocks) (ts : SpelledForest) (before : Option (List AttributePair)) (f : NumberedForest)
      (k : ℕ) → IsFresh before
      → Stands (value_forest f) (forest_of (spelled_element an.Row [] (text_in_line all) (spelled_in all) ts))
      → are_settled_in an.Row (cut_blocks all) ≡ true → is_ordered k f ≡ true
      → ((g : NumberedForest) → Stands (value_forest g) (trees_in all) → (j : ℕ) → is_ordered j g ≡ true
      → HasCells scripting is_rich n (cut_blocks all) None g)
      → ((g : NumberedForest) → Stands (value_forest g) (forest_of ts) → (j : ℕ) → is_ordered j g ≡ true
      → HasRows scripting is_rich n after (Some []) g)
      → HasRows scripting is_rich n (block (element an.Row [] (cut_blocks all)) after) before f
  one-row no_blocks after ts before f k fresh e settled o inner later =
      bare-row scripting is_rich n after (forest_of ts) before f k fresh e o later
  one-row (block c cs) after ts before f k fresh e settled o inner later =
      let all : Blocks = block c cs in
      long-row scripting is_rich n (cut_blocks all) after (trees_in all) (forest_of ts) before f k fresh
      (subst (Stands (value_forest f)) (row-trees all ts (cells-long (cut_blocks all) settled refl)) e) o inner later
