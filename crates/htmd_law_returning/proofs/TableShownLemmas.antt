-- What shows of a table whose rows hold settled lines, and that this gives the table.
use Rattle.std.proofs.Common.{◌≡◌, ℕ, suc, ◌+◌, ◌==◌, Bool, true, false, ◌&&◌, ◌||◌, List, []}
use Rattle.std.proofs.Common.{◌∷◌, drop, map}
use Rattle.std.proofs.Common.{refl, sym, ap, ◌∙◌, subst, codes, length, not, Option, Some, None}
use Rattle.std.proofs.Common.{◌<◌}
use Rattle.std.specs.List.{list_all}
use Rattle.std.proofs.lemmas.Bool.{and_parts, and_from}
use Rattle.htmd_lexical.specs.AttributePairs.{AttributePair}
use Rattle.htmd_lexical.specs.Characters.{line_feed}
use Rattle.htmd_values.specs.ValueTrees.{ValueForest}
use Rattle.htmd_values.specs.ValueTrees as value
use Rattle.htmd_nodes.specs.NumberedTrees.{NumberedForest, value_forest}
use Rattle.htmd_nodes.specs.NumberedTrees as page
use Rattle.htmd_document.specs.declared.document.Alignment.{Alignment}
use Rattle.htmd_document.specs.declared.document.Alignment.TheVariants as align
use Rattle.htmd_document.specs.Documents.{Inlines, no_inlines, inline, table}
use Rattle.htmd_document.specs.NormalDocuments.{has_cell, are_normal_cells, is_normal_row, is_normal_table}
use Rattle.htmd_document.specs.NormalInlines.{has_none, are_whole, are_normal, is_normal_line, anchors_stand_well}
use Rattle.htmd_flow.specs.Flows.{nodes_of, flow_all}
use Rattle.htmd_shown.specs.ClassWords.{has_class, number_words}
use Rattle.htmd_shown.specs.Facts.{made}
use Rattle.htmd_shown.specs.LineNumbers.{is_cell_name, has_number_cell, has_code_cell, has_numbered, has_numbered_rows}
use Rattle.htmd_shown.specs.Repeats.{is_copied}
use Rattle.htmd_shown.specs.Roles.{role_of, table_role}
use Rattle.htmd_shown.specs.Shown.{shown}
use Rattle.htmd_shown.specs.SimpleTrees.{Simples, none, more}
use Rattle.htmd_shown.specs.declared.role.Role.TheVariants as role
use Rattle.htmd_commonmark_reading.specs.Rendering.{first_alignment}
use Rattle.htmd_shown.specs.Pieces.{greatest_count}
use Rattle.htmd_law_rendering.specs.RenderedTrees.{pairs_of_alignment}
use Rattle.htmd_law_rendering.specs.SpelledTrees.{value_forest as forest_of}
use Rattle.htmd_document_of_tree.specs.Seen.{all_seen}
use Rattle.htmd_law_returning.proofs.StartLemmas.{false-true}
use Rattle.htmd_law_returning.specs.PageFormats.{line_shows}
use Rattle.htmd_law_returning.specs.SettledDocuments.{is_settled_line, is_settled_table, shows_last_column}
use Rattle.htmd_law_returning.specs.SettledDocuments.{shows_header}
use Rattle.htmd_law_returning.specs.SettledDocuments.{weight_among, weight_of_cells, weight_of_rows}
use Rattle.htmd_law_returning.proofs.BlockTrees.{spelled_cells, spelled_rows, spelled_body, spelled_table}
use Rattle.htmd_law_returning.proofs.ReadyLemmas.{parts_of}
use Rattle.htmd_law_returning.proofs.FlowLemmas.{GivesBlock}
use Rattle.htmd_law_returning.proofs.GridLemmas.{cut_row, whole-row}
use Rattle.htmd_law_returning.proofs.HeldLemmas.{are_black_ended, are_held, line-held}
use Rattle.htmd_law_returning.proofs.InlineLemmas.{free-none, left-light, right-light}
use Rattle.htmd_law_returning.proofs.FormatLemmas.{place, covers-none}
use Rattle.htmd_law_returning.proofs.LineFormLemmas.{whole-inlines}
use Rattle.htmd_law_returning.proofs.OrderLemmas.{is_ordered, ordered-next}
use Rattle.htmd_law_returning.proofs.PageLemmas.{from-none, from-text, line_before, from-block, block-order, IsFresh}
use Rattle.htmd_law_returning.proofs.PageLemmas.{fresh-first, fresh-next, plain-content, shown_of, line-shown}
use Rattle.htmd_law_returning.proofs.PageLemmas.{none-shown, and-false}
use Rattle.htmd_law_returning.proofs.ShownLineLemmas.{line-shown-at}
use Rattle.htmd_law_returning.proofs.StandLemmas.{is_break, Stands}
use Rattle.htmd_law_returning.proofs.LineFactLemmas.{line-seen}
use Rattle.htmd_law_returning.proofs.RichCellLemmas.{cell_role, cell-blocks}
use Rattle.htmd_law_returning.proofs.RichTableLemmas.{are_narrow}
use Rattle.htmd_law_returning.proofs.StartLemmas.{from-not}
use Rattle.htmd_law_returning.proofs.LocalTables.{lined, row_tree}
use Rattle.htmd_law_returning.proofs.TableCells.{cell-line, AreCells, none-cells, more-cells, AreRows, none-rows}
use Rattle.htmd_law_returning.proofs.TableCells.{more-rows}
use Rattle.htmd_law_returning.proofs.TableLemmas.{head_in}
use Rattle.htmd_law_returning.proofs.TableLemmas.{alone-gives, body-gives, cut-weights}
use Rattle.htmd_law_returning.proofs.TreesLemmas.{line_trees}
use Rattle.htmd_law_returning.specs.LastingAnchors.{line_keeps}
use Rattle.htmd_law_returning.proofs.LocalAnchors.{local_all}

abbrev cell_name : Bool → List ℕ
cell_name true = codes "th"
cell_name false = codes "td"

cell-unbroken : (is_header : Bool) → is_break (cell_name is_header) ≡ false
cell-unbroken true = refl
cell-unbroken false = refl

alignment-fresh : (before : Option (List AttributePair)) (a : Alignment)
    → is_copied before (pairs_of_alignment a) ≡ false
alignment-fresh None a = refl
alignment-fresh (Some b) align.None = refl
alignment-fresh (Some b) align.Left = refl
alignment-fresh (Some b) align.Center = refl
alignment-fresh (Some b) align.Right = refl

alignment-unnumbered : (a : Alignment) → has_class number_words (pairs_of_alignment a) ≡ false
alignment-unnumbered align.None = refl
alignment-unnumbered align.Left = refl
alignment-unnumbered align.Center = refl
alignment-unnumbered align.Right = refl

module _ (scripting is_rich : Bool) where
  cell-shown : (before : Option (List AttributePair)) (id : ℕ) (is_header : Bool) (a : Alignment)
      (inside f : NumberedForest)
      → shown_of scripting is_rich before (page.more (page.element id (cell_name is_header) (pairs_of_alignment a)
      inside) f)
      ≡ more (made id (cell_role is_header) (pairs_of_alignment a) (shown_of scripting is_rich None inside))
      (shown_of scripting is_rich (Some (pairs_of_alignment a)) f)
  unfolding shown role_of table_role
  cell-shown before id true align.None inside f =
      rw (alignment-fresh before align.None)
      (ap (λ ts. more (made id role.HeaderCell [] ts) (shown_of scripting is_rich (Some []) f))
      (plain-content id (shown_of scripting is_rich None inside)))
  cell-shown before id true align.Left inside f =
      rw (alignment-fresh before align.Left)
      (ap (λ ts. more (made id role.HeaderCell (pairs_of_alignment align.Left) ts)
      (shown_of scripting is_rich (Some (pairs_of_alignment align.Left)) f))
      (plain-content id (shown_of scripting is_rich None inside)))
  cell-shown before id true align.Center inside f =
      rw (alignment-fresh before align.Center)
      (ap (λ ts. more (made id role.HeaderCell (pairs_of_alignment align.Center) ts)
      (shown_of scripting is_rich (Some (pairs_of_alignment align.Center)) f))
      (plain-content id (shown_of scripting is_rich None inside)))
  cell-shown before id true align.Right inside f =
      rw (alignment-fresh before align.Right)
      (ap (λ ts. more (made id role.HeaderCell (pairs_of_alignment align.Right) ts)
      (shown_of scripting is_rich (Some (pairs_of_alignment align.Right)) f))
      (plain-content id (shown_of scripting is_rich None inside)))
  cell-shown before id false align.None inside f =
      rw (alignment-fresh before align.None)
      (ap (λ ts. more (made id role.Cell [] ts) (shown_of scripting is_rich (Some []) f))
      (plain-content id (shown_of scripting is_rich None inside)))
  cell-shown before id false align.Left inside f =
      rw (alignment-fresh before align.Left)
      (ap (λ ts. more (made id role.Cell (pairs_of_alignment align.Left) ts)
      (shown_of scripting is_rich (Some (pairs_of_alignment align.Left)) f))
      (plain-content id (shown_of scripting is_rich None inside)))
  cell-shown before id false align.Center inside f =
      rw (alignment-fresh before align.Center)
      (ap (λ ts. more (made id role.Cell (pairs_of_alignment align.Center) ts)
      (shown_of scripting is_rich (Some (pairs_of_alignment align.Center)) f))
      (plain-content id (shown_of scripting is_rich None inside)))
  cell-shown before id false align.Right inside f =
      rw (alignment-fresh before align.Right)
      (ap (λ ts. more (made id role.Cell (pairs_of_alignment align.Right) ts)
      (shown_of scripting is_rich (Some (pairs_of_alignment align.Right)) f))
      (plain-content id (shown_of scripting is_rich None inside)))

  pub row-shown : (before : Option (List AttributePair)) (id : ℕ) (inside f : NumberedForest) → IsFresh before
      → has_number_cell inside ≡ false
      → shown_of scripting is_rich before (page.more (page.element id (codes "tr") [] inside) f)
      ≡ more (made id role.Row [] (shown_of scripting is_rich None inside)) (shown_of scripting is_rich (Some []) f)
  unfolding shown role_of table_role
  row-shown before id inside f h e =
      rw (h, e) (ap (λ ts. more (made id role.Row [] ts) (shown_of scripting is_rich (Some []) f))
      (plain-content id (shown_of scripting is_rich None inside)))

  head-shown : (before : Option (List AttributePair)) (id : ℕ) (inside f : NumberedForest) → IsFresh before
      → shown_of scripting is_rich before (page.more (page.element id (codes "thead") [] inside) f)
      ≡ more (made id role.TableHead [] (shown_of scripting is_rich None inside))
      (shown_of scripting is_rich (Some []) f)
  unfolding shown role_of table_role
  head-shown before id inside f h =
      rw h (ap (λ ts. more (made id role.TableHead [] ts) (shown_of scripting is_rich (Some []) f))
      (plain-content id (shown_of scripting is_rich None inside)))

  pub body-shown : (before : Option (List AttributePair)) (id : ℕ) (inside f : NumberedForest) → IsFresh before
      → shown_of scripting is_rich before (page.more (page.element id (codes "tbody") [] inside) f)
      ≡ more (made id role.TableBody [] (shown_of scripting is_rich None inside))
      (shown_of scripting is_rich (Some []) f)
  unfolding shown role_of table_role
  body-shown before id inside f h =
      rw h (ap (λ ts. more (made id role.TableBody [] ts) (shown_of scripting is_rich (Some []) f))
      (plain-content id (shown_of scripting is_rich None inside)))

  pub table-shown : (before : Option (List AttributePair)) (id : ℕ) (inside f : NumberedForest) → IsFresh before
      → has_numbered_rows inside ≡ false
      → shown_of scripting is_rich before (page.more (page.element id (codes "table") [] inside) f)
      ≡ more (made id role.Table [] (shown_of scripting is_rich None inside))
      (shown_of scripting is_rich (Some []) f)
  unfolding shown role_of table_role
  table-shown before id inside f h e =
      rw (h, e) (ap (λ ts. more (made id role.Table [] ts) (shown_of scripting is_rich (Some []) f))
      (plain-content id (shown_of scripting is_rich None inside)))

-- ---- what is normal and settled holds of all cells

pub all-cells : (p : Inlines → Bool) → p no_inlines ≡ true → (rows : List (List Inlines))
    → list_all (list_all p) (map cut_row rows) ≡ true → list_all (list_all p) rows ≡ true
all-cells p empty [] h = refl
all-cells p empty (r ∷ rs) h =
    let parts = and_parts (list_all p (cut_row r)) (list_all (list_all p) (map cut_row rs)) h in
    and_from (list_all p r) (list_all (list_all p) rs) (whole-row p empty r parts.0) (all-cells p empty rs parts.1)

pub normal-cells : (k : ℕ) (rows : List (List Inlines)) → list_all (is_normal_row k) rows ≡ true
    → (list_all (list_all is_normal_line) rows ≡ true) × (list_all (list_all anchors_stand_well) rows ≡ true)
normal-cells k [] h = (refl, refl)
normal-cells k (r ∷ rs) h =
    let parts = and_parts (is_normal_row k r) (list_all (is_normal_row k) rs) h in
    let cells = and_parts (list_all is_normal_line r) (list_all anchors_stand_well r)
    (and_parts _ (are_normal_cells r) parts.0).1 in
    let rest = normal-cells k rs parts.1 in (
      and_from (list_all is_normal_line r) (list_all (list_all is_normal_line) rs) cells.0 rest.0,
      and_from (list_all anchors_stand_well r) (list_all (list_all anchors_stand_well) rs) cells.1 rest.1,
    )

-- ---- from the trees of a table

module _ (scripting is_rich : Bool) (n : ℕ) (alignments : List Alignment) where
  -- nodes that are the cells of a row
  record HasCells (is_header : Bool) (columns : List Alignment) (cells : List Inlines)
      (before : Option (List AttributePair)) (f : NumberedForest) : Type 0 where
    unnumbered : has_number_cell f ≡ false
    gives : AreCells is_rich n is_header columns cells (shown_of scripting is_rich before f)

  cells-shown : (is_header : Bool) (columns : List Alignment) (cells : List Inlines)
      (before : Option (List AttributePair)) (f : NumberedForest) (k : ℕ)
      → Stands (value_forest f) (forest_of (spelled_cells (cell_name is_header) columns cells))
      → list_all is_settled_line cells ≡ true → list_all line_keeps cells ≡ true
      → list_all (line_shows is_rich) cells ≡ true → list_all is_normal_line cells ≡ true
      → list_all anchors_stand_well cells ≡ true → weight_of_cells cells < greatest_count
      → is_ordered k f ≡ true
      → HasCells is_header columns cells before f
  cells-shown is_header columns [] before f k e settled free formats normal stand light o =
      let is = from-none f e in
      record {
        unnumbered = ap has_number_cell is;
        gives = subst (λ (ts : Simples). AreCells is_rich n is_header columns [] ts)
            (sym (ap (shown_of scripting is_rich before) is ∙ none-shown scripting is_rich before))
            (none-cells is_rich n is_header columns);
      }
  cells-shown is_header columns (c ∷ cs) before f k e settled free formats normal stand light o =
      let good = and_parts (is_settled_line c) (list_all is_settled_line cs) settled in
      let form = and_parts (is_normal_line c) (list_all is_normal_line cs) normal in
      let shown_formats = and_parts (line_shows is_rich c) (list_all (line_shows is_rich) cs) formats in
      let line = and_parts (are_whole c) (are_normal false [] c) form.0 in
      let keeps = and_parts (line_keeps c) (list_all line_keeps cs) free in
      let well = and_parts (anchors_stand_well c) (list_all anchors_stand_well cs) stand in
      let held = and_parts (are_black_ended c) (are_held c) (line-held c line.1 good.0 well.0 keeps.0) in
      let a : Alignment = first_alignment columns in
      let pairs : List AttributePair = pairs_of_alignment a in
      let name : List ℕ = cell_name is_header in
      let own = from-block f name pairs (line_trees c) (forest_of (spelled_cells name (drop 1 columns) cs)) e
      (cell-unbroken is_header) in
      let order = block-order k f own.id name pairs own.inside own.line own.rest own.is o in
      let shows = line-shown-at scripting is_rich c 0 false false None own.inside [] [] covers-none free-none
      fresh-first own.within line.1 held.1 shown_formats.0
      (left-light (weight_among c) (weight_of_cells cs) light) order.0 in
      let rest = cells-shown is_header (drop 1 columns) cs (Some pairs) own.rest (suc own.line) own.others good.1
      keeps.1 shown_formats.1 form.1 well.1 (right-light (weight_among c) (weight_of_cells cs) light) order.1 in
      let content : Simples = shown_of scripting is_rich None own.inside in
      let inside : Simples = local_all [] content in
      let behind : NumberedForest = page.more (page.text own.line (line_feed ∷ [])) own.rest in
      let ts : Simples = shown_of scripting is_rich (Some pairs) own.rest in
      record {
        unnumbered =
            ap has_number_cell own.is
            ∙ (ap (λ b. (is_cell_name name && b) || has_number_cell own.rest) (alignment-unnumbered a)
            ∙ (ap (λ b. b || has_number_cell own.rest) (and-false (is_cell_name name)) ∙ rest.unnumbered));
        gives = subst (λ (us : Simples). AreCells is_rich n is_header columns (c ∷ cs) us)
            (sym (ap (shown_of scripting is_rich before) own.is
            ∙ (cell-shown scripting is_rich before own.id is_header a own.inside behind
            ∙ ap (more (made own.id (cell_role is_header) pairs content))
            (line-shown scripting is_rich (Some pairs) own.line own.rest))))
            (more-cells is_rich n own.id is_header columns content ts c cs shows.sound shows.bare shows.waits
            shows.spent
            shows.plain.tableless shows.plain.preless
            (λ some. shows.plain.shows (line-seen c false [] (whole-inlines c (from-not (has_none c) some) held.0)
            line.1 held.1))
            shows.led (λ none_there. ap all_seen (none-inside c own.inside own.within none_there))
            (cell-line (flow_all (nodes_of inside) (place true is_rich n [])) shows.numbers c
            (λ w. shows.gives true n w)
            (λ some. whole-inlines c some held.0) line.1 held.1 shows.rising)
            (cell-blocks (parts_of is_rich n inside) shows.numbers c
            (λ w. shows.gives false n w)
            (λ some. whole-inlines c some held.0) line.1 held.1 shows.rising) rest.gives);
      }
    where
      none-inside : (c : Inlines) (g : NumberedForest) → Stands (value_forest g) (line_trees c)
          → has_none c ≡ true
          → shown_of scripting is_rich None g ≡ none
      none-inside no_inlines g e h =
          ap (shown_of scripting is_rich None) (from-none g e) ∙ none-shown scripting is_rich None
      none-inside (inline x xs) g e h = false-true h

  -- a row of these cells, behind a line's end
  record HasRow (is_header : Bool) (cells : List Inlines) (inside : NumberedForest) : Type 0 where
    content : Simples
    is : shown_of scripting is_rich None inside ≡ lined content
    unnumbered : has_number_cell inside ≡ false
    gives : AreCells is_rich n is_header alignments cells content

  row-inside : (is_header : Bool) (cells : List Inlines) (inside : NumberedForest)
      → Stands (value_forest inside) (line_before (forest_of (spelled_cells (cell_name is_header) alignments cells)))
      → list_all is_settled_line cells ≡ true → list_all line_keeps cells ≡ true
      → list_all (line_shows is_rich) cells ≡ true → list_all is_normal_line cells ≡ true
      → list_all anchors_stand_well cells ≡ true → weight_of_cells cells < greatest_count
      → is_ordered 0 inside ≡ true
      → HasRow is_header cells inside
  row-inside is_header cells inside e settled free formats normal stand light o =
      let inner = from-text inside (line_feed ∷ []) (forest_of (spelled_cells (cell_name is_header) alignments cells))
      e in
      let order = ordered-next 0 inside (page.text inner.id (line_feed ∷ [])) inner.rest inner.is o in
      let own = cells-shown is_header alignments cells None inner.rest (suc inner.id) inner.others settled free
      formats normal stand light order.rest in
      record {
        content = shown_of scripting is_rich None inner.rest;
        is = ap (shown_of scripting is_rich None) inner.is
            ∙ line-shown scripting is_rich None inner.id inner.rest;
        unnumbered = ap has_number_cell inner.is ∙ own.unnumbered;
        gives = own.gives;
      }

  -- nodes that are the rows of a body
  record HasRows (rows : List (List Inlines)) (before : Option (List AttributePair)) (f : NumberedForest)
      : Type 0 where
    unnumbered : has_numbered f ≡ false
    gives : AreRows is_rich n alignments rows (shown_of scripting is_rich before f)

  rows-shown : (rows : List (List Inlines)) (before : Option (List AttributePair)) (f : NumberedForest) (k : ℕ)
      → IsFresh before → Stands (value_forest f) (forest_of (spelled_rows alignments rows))
      → list_all (list_all is_settled_line) rows ≡ true → list_all (list_all line_keeps) rows ≡ true
      → list_all (list_all (line_shows is_rich)) rows ≡ true
      → list_all (list_all is_normal_line) rows ≡ true → list_all (list_all anchors_stand_well) rows ≡ true
      → weight_of_rows rows < greatest_count → is_ordered k f ≡ true → HasRows rows before f
  rows-shown [] before f k fresh e settled free formats normal stand light o =
      let is = from-none f e in
      record {
        unnumbered = ap has_numbered is;
        gives = subst (λ (ts : Simples). AreRows is_rich n alignments [] ts)
            (sym (ap (shown_of scripting is_rich before) is ∙ none-shown scripting is_rich before))
            (none-rows is_rich n alignments);
      }
  rows-shown (r ∷ rs) before f k fresh e settled free formats normal stand light o =
      let good = and_parts (list_all is_settled_line r) (list_all (list_all is_settled_line) rs) settled in
      let form = and_parts (list_all is_normal_line r) (list_all (list_all is_normal_line) rs) normal in
      let shown_formats = and_parts (list_all (line_shows is_rich) r) (list_all (list_all (line_shows is_rich)) rs)
      formats in
      let keeps = and_parts (list_all line_keeps r) (list_all (list_all line_keeps) rs) free in
      let well = and_parts (list_all anchors_stand_well r) (list_all (list_all anchors_stand_well) rs) stand in
      let own = from-block f (codes "tr") [] (line_before (forest_of (spelled_cells (codes "td") alignments r)))
      (forest_of (spelled_rows alignments rs)) e refl in
      let order = block-order k f own.id (codes "tr") [] own.inside own.line own.rest own.is o in
      let row = row-inside false r own.inside own.within good.0 keeps.0 shown_formats.0 form.0 well.0
      (left-light (weight_of_cells r) (weight_of_rows rs) light) order.0 in
      let rest = rows-shown rs (Some []) own.rest (suc own.line) (fresh-next []) own.others good.1
      keeps.1 shown_formats.1 form.1 well.1
      (right-light (weight_of_cells r) (weight_of_rows rs) light) order.1 in
      let behind : NumberedForest = page.more (page.text own.line (line_feed ∷ [])) own.rest in
      let ts : Simples = shown_of scripting is_rich (Some []) own.rest in
      record {
        unnumbered =
            ap has_numbered own.is
            ∙ (ap (λ b. (b && has_code_cell own.inside) || has_numbered own.rest) row.unnumbered
            ∙ rest.unnumbered);
        gives = subst (λ (us : Simples). AreRows is_rich n alignments (r ∷ rs) us)
            (sym (ap (shown_of scripting is_rich before) own.is
            ∙ (row-shown scripting is_rich before own.id own.inside behind fresh row.unnumbered
            ∙ (ap (λ us. more (made own.id role.Row [] us) (shown_of scripting is_rich (Some []) behind)) row.is
            ∙ ap (more (row_tree own.id row.content))
            (line-shown scripting is_rich (Some []) own.line own.rest)))))
            (more-rows is_rich n own.id alignments row.content ts r rs row.gives rest.gives);
      }

  -- ---- the head, and what is behind it

  record HasHead (header : List Inlines) (rows : List (List Inlines)) (inside : NumberedForest) : Type 0 where
    head : ℕ
    id : ℕ
    cells : Simples
    rest : NumberedForest
    least : ℕ
    is : shown_of scripting is_rich None inside
        ≡ lined (more (made head role.TableHead [] (head_in id cells))
        (lined (shown_of scripting is_rich (Some []) rest)))
    unnumbered : has_numbered_rows inside ≡ has_numbered_rows rest
    others : Stands (value_forest rest) (forest_of (spelled_body alignments rows))
    ordered : is_ordered least rest ≡ true
    gives : AreCells is_rich n true alignments header cells

  head-inside : (header : List Inlines) (rows : List (List Inlines)) (inside : NumberedForest)
      → Stands (value_forest inside) (line_before (forest_of (spelled_table alignments header rows)))
      → list_all is_settled_line header ≡ true → list_all line_keeps header ≡ true
      → list_all (line_shows is_rich) header ≡ true
      → list_all is_normal_line header ≡ true → list_all anchors_stand_well header ≡ true
      → weight_of_cells header < greatest_count → is_ordered 0 inside ≡ true → HasHead header rows inside
  head-inside header rows inside e settled free formats normal stand light o =
      let cells : ValueForest = forest_of (spelled_cells (codes "th") alignments header) in
      let line : ValueForest =
      value.more (value.element (codes "tr") [] (line_before cells)) (line_before value.none) in
      let inner = from-text inside (line_feed ∷ []) (forest_of (spelled_table alignments header rows)) e in
      let behind = ordered-next 0 inside (page.text inner.id (line_feed ∷ [])) inner.rest inner.is o in
      let head = from-block inner.rest (codes "thead") [] (line_before line) (forest_of (spelled_body alignments rows))
      inner.others refl in
      let order = block-order (suc inner.id) inner.rest head.id (codes "thead") [] head.inside head.line head.rest
      head.is behind.rest in
      let first = from-text head.inside (line_feed ∷ []) line head.within in
      let after = ordered-next 0 head.inside (page.text first.id (line_feed ∷ [])) first.rest first.is order.0 in
      let row = from-block first.rest (codes "tr") [] (line_before cells) value.none first.others refl in
      let within = block-order (suc first.id) first.rest row.id (codes "tr") [] row.inside row.line row.rest row.is
      after.rest in
      let own = row-inside true header row.inside row.within settled free formats normal stand light within.0 in
      let none_left : row.rest ≡ page.none = from-none row.rest row.others in
      let past : NumberedForest = page.more (page.text row.line (line_feed ∷ [])) row.rest in
      let later : NumberedForest = page.more (page.text head.line (line_feed ∷ [])) head.rest in
      let in_head : shown_of scripting is_rich None head.inside ≡ head_in row.id own.content =
      ap (shown_of scripting is_rich None) first.is
      ∙ (line-shown scripting is_rich None first.id first.rest
      ∙ ap lined (ap (shown_of scripting is_rich None) row.is
      ∙ (row-shown scripting is_rich None row.id row.inside past fresh-first own.unnumbered
      ∙ (ap (λ us. more (made row.id role.Row [] us) (shown_of scripting is_rich (Some []) past)) own.is
      ∙ ap (more (row_tree row.id own.content)) (line-shown scripting is_rich (Some []) row.line row.rest
      ∙ ap lined (ap (shown_of scripting is_rich (Some [])) none_left
      ∙ none-shown scripting is_rich (Some []))))))) in
      record {
        head = head.id;
        id = row.id;
        cells = own.content;
        rest = head.rest;
        least = suc head.line;
        is = ap (shown_of scripting is_rich None) inner.is
            ∙ (line-shown scripting is_rich None inner.id inner.rest
            ∙ ap lined (ap (shown_of scripting is_rich None) head.is
            ∙ (head-shown scripting is_rich None head.id head.inside later fresh-first
            ∙ (ap (λ us. more (made head.id role.TableHead [] us) (shown_of scripting is_rich (Some []) later))
            in_head
            ∙ ap (more (made head.id role.TableHead [] (head_in row.id own.content)))
            (line-shown scripting is_rich (Some []) head.line head.rest)))));
        unnumbered =
            ap has_numbered_rows inner.is
            ∙ (ap has_numbered_rows head.is
            ∙ (ap (λ g. has_numbered g || has_numbered_rows head.rest) first.is
            ∙ (ap (λ g. has_numbered g || has_numbered_rows head.rest) row.is
            ∙ (ap (λ b. ((b && has_code_cell row.inside) || has_numbered row.rest) || has_numbered_rows head.rest)
            own.unnumbered
            ∙ ap (λ g. has_numbered g || has_numbered_rows head.rest) none_left))));
        others = head.others;
        ordered = order.1;
        gives = own.gives;
      }

  -- ---- the body

  record HasBody (rows : List (List Inlines)) (before : Option (List AttributePair)) (f : NumberedForest)
      : Type 0 where
    body : ℕ
    content : Simples
    is : shown_of scripting is_rich before f ≡ more (made body role.TableBody [] (lined content)) (lined none)
    unnumbered : has_numbered_rows f ≡ false
    gives : AreRows is_rich n alignments rows content

  body-inside : (rows : List (List Inlines)) (before : Option (List AttributePair)) (f : NumberedForest) (k : ℕ)
      → IsFresh before
      → Stands (value_forest f) (value.more (value.element (codes "tbody") []
      (line_before (forest_of (spelled_rows alignments rows)))) (line_before value.none))
      → list_all (list_all is_settled_line) rows ≡ true → list_all (list_all line_keeps) rows ≡ true
      → list_all (list_all (line_shows is_rich)) rows ≡ true
      → list_all (list_all is_normal_line) rows ≡ true → list_all (list_all anchors_stand_well) rows ≡ true
      → weight_of_rows rows < greatest_count → is_ordered k f ≡ true → HasBody rows before f
  body-inside rows before f k fresh e settled free formats normal stand light o =
      let body = from-block f (codes "tbody") [] (line_before (forest_of (spelled_rows alignments rows))) value.none e
      refl in
      let order = block-order k f body.id (codes "tbody") [] body.inside body.line body.rest body.is o in
      let first = from-text body.inside (line_feed ∷ []) (forest_of (spelled_rows alignments rows)) body.within in
      let after = ordered-next 0 body.inside (page.text first.id (line_feed ∷ [])) first.rest first.is order.0 in
      let own = rows-shown rows None first.rest (suc first.id) fresh-first first.others settled free formats normal
      stand light after.rest in
      let none_left : body.rest ≡ page.none = from-none body.rest body.others in
      let later : NumberedForest = page.more (page.text body.line (line_feed ∷ [])) body.rest in
      let content : Simples = shown_of scripting is_rich None first.rest in
      record {
        body = body.id;
        content = content;
        is = ap (shown_of scripting is_rich before) body.is
            ∙ (body-shown scripting is_rich before body.id body.inside later fresh
            ∙ (ap (λ us. more (made body.id role.TableBody [] us) (shown_of scripting is_rich (Some []) later))
            (ap (shown_of scripting is_rich None) first.is ∙ line-shown scripting is_rich None first.id first.rest)
            ∙ ap (more (made body.id role.TableBody [] (lined content)))
            (line-shown scripting is_rich (Some []) body.line body.rest
            ∙ ap lined (ap (shown_of scripting is_rich (Some [])) none_left
            ∙ none-shown scripting is_rich (Some [])))));
        unnumbered =
            ap has_numbered_rows body.is
            ∙ (ap (λ g. has_numbered g || has_numbered_rows body.rest) first.is
            ∙ (ap (λ b. b || has_numbered_rows body.rest) own.unnumbered ∙ ap has_numbered_rows none_left));
        gives = own.gives;
      }

  -- ---- the table

  pub record HasTable (outer : ℕ) (header : List Inlines) (rows : List (List Inlines)) (inside : NumberedForest)
      : Type 0 where
    pub unnumbered : has_numbered_rows inside ≡ false
    pub gives : GivesBlock is_rich n (made outer role.Table [] (shown_of scripting is_rich None inside))
        (table alignments header (map cut_row rows))

  -- what is known of a table
  pub record IsTable (header : List Inlines) (rows : List (List Inlines)) : Type 0 where
    pub some : has_cell header ≡ true
    pub count : (length alignments == length header) ≡ true
    pub form : list_all (is_normal_row (length header)) (map cut_row rows) ≡ true
    pub last : shows_last_column header (map cut_row rows) ≡ true
    pub settled : list_all is_settled_line header ≡ true
    pub normal : list_all is_normal_line header ≡ true
    pub shows : list_all (line_shows is_rich) header ≡ true
    pub all_show : list_all (list_all (line_shows is_rich)) rows ≡ true
    pub free : list_all line_keeps header ≡ true
    pub all_free : list_all (list_all line_keeps) rows ≡ true
    pub all_settled : list_all (list_all is_settled_line) rows ≡ true
    pub all_normal : list_all (list_all is_normal_line) rows ≡ true
    pub stands : list_all anchors_stand_well header ≡ true
    pub all_stand : list_all (list_all anchors_stand_well) rows ≡ true

  pub is-table : (header : List Inlines) (rows : List (List Inlines))
      → is_settled_table header (map cut_row rows) ≡ true
      → (list_all line_keeps header && list_all (list_all line_keeps) (map cut_row rows)) ≡ true
      → (list_all (line_shows is_rich) header && list_all (list_all (line_shows is_rich)) (map cut_row rows)) ≡ true
      → is_normal_table alignments header (map cut_row rows) ≡ true → IsTable header rows
  is-table header rows settled unplaced formats normal =
      let lines : List (List Inlines) = map cut_row rows in
      let good = and_parts (list_all is_settled_line header && list_all (list_all is_settled_line) lines)
      (shows_last_column header lines) settled in
      let all = and_parts (list_all is_settled_line header) (list_all (list_all is_settled_line) lines) good.0 in
      let free = and_parts (list_all line_keeps header) (list_all (list_all line_keeps) lines) unplaced in
      let form = and_parts
      ((has_cell header && (length alignments == length header)) && are_normal_cells header)
      (list_all (is_normal_row (length header)) lines) normal in
      let own = and_parts (has_cell header && (length alignments == length header)) (are_normal_cells header) form.0 in
      let shape = and_parts (has_cell header) (length alignments == length header) own.0 in
      let seen = and_parts (list_all (line_shows is_rich) header) (list_all (list_all (line_shows is_rich)) lines)
      formats in
      record {
        some = shape.0;
        count = shape.1;
        form = form.1;
        last = good.1;
        settled = all.0;
        normal = (and_parts (list_all is_normal_line header) (list_all anchors_stand_well header) own.1).0;
        shows = seen.0;
        all_show = all-cells (line_shows is_rich) refl rows seen.1;
        free = free.0;
        all_free = all-cells line_keeps refl rows free.1;
        all_settled = all-cells is_settled_line refl rows all.1;
        all_normal = all-cells is_normal_line refl rows (normal-cells (length header) lines form.1).0;
        stands = (and_parts (list_all is_normal_line header) (list_all anchors_stand_well header) own.1).1;
        all_stand = all-cells anchors_stand_well refl rows (normal-cells (length header) lines form.1).1;
      }

  pub table-inside : (outer : ℕ) (header : List Inlines) (rows : List (List Inlines)) (inside : NumberedForest)
      → Stands (value_forest inside) (line_before (forest_of (spelled_table alignments header rows)))
      → is_settled_table header (map cut_row rows) ≡ true
      → (list_all line_keeps header && list_all (list_all line_keeps) (map cut_row rows)) ≡ true
      → (list_all (line_shows is_rich) header && list_all (list_all (line_shows is_rich)) (map cut_row rows)) ≡ true
      → is_normal_table alignments header (map cut_row rows) ≡ true
      → weight_of_cells header + weight_of_rows (map cut_row rows) < greatest_count
      → (is_rich && not (shows_header header && are_narrow (length header) rows)) ≡ false
      → is_ordered 0 inside ≡ true → HasTable outer header rows inside
  table-inside outer header [] inside e settled free formats normal light plain o =
      let own = is-table header [] settled free formats normal in
      let head = head-inside header [] inside e own.settled own.free own.shows own.normal own.stands
      (left-light (weight_of_cells header) 0 light) o in
      let none_left : head.rest ≡ page.none = from-none head.rest head.others in
      record {
        unnumbered = head.unnumbered ∙ ap has_numbered_rows none_left;
        gives = subst (λ (us : Simples). GivesBlock is_rich n (made outer role.Table [] us)
            (table alignments header []))
            (sym (head.is ∙ ap (λ us. lined (more (made head.head role.TableHead [] (head_in head.id head.cells))
            (lined us))) (ap (shown_of scripting is_rich (Some [])) none_left
            ∙ none-shown scripting is_rich (Some []))))
            (alone-gives is_rich n head.head head.id alignments header head.cells head.gives own.some outer plain
            own.count own.last);
      }
  table-inside outer header (r ∷ rs) inside e settled free formats normal light plain o =
      let rows : List (List Inlines) = r ∷ rs in
      let own = is-table header rows settled free formats normal in
      let head = head-inside header rows inside e own.settled own.free own.shows own.normal own.stands
      (left-light (weight_of_cells header) (weight_of_rows (map cut_row rows)) light) o in
      let few : weight_of_rows rows < greatest_count =
      subst (λ (k : ℕ). k < greatest_count) (cut-weights rows)
      (right-light (weight_of_cells header) (weight_of_rows (map cut_row rows)) light) in
      let body = body-inside rows (Some []) head.rest head.least (fresh-next []) head.others own.all_settled
      own.all_free own.all_show own.all_normal own.all_stand few head.ordered in
      record {
        unnumbered = head.unnumbered ∙ body.unnumbered;
        gives = subst (λ (us : Simples). GivesBlock is_rich n (made outer role.Table [] us)
            (table alignments header (map cut_row rows)))
            (sym (head.is ∙ ap (λ us. lined (more (made head.head role.TableHead [] (head_in head.id head.cells))
            (lined us))) body.is))
            (body-gives is_rich n head.head head.id alignments header head.cells head.gives own.some body.body rows
            body.content body.gives outer plain own.count own.form own.last);
      }
