-- What the rows of a table give whose cells hold settled lines.
use Rattle.std.proofs.Common.{◌≡◌, ℕ, ◌+◌, Bool, true, false, ◌&&◌, ◌||◌, List, [], ◌∷◌, filter, map}
use Rattle.std.proofs.Common.{fold, drop, refl, sym, ap, ◌∙◌, subst, arith, Some}
use Rattle.std.specs.List.{list_all, flat_map}
use Rattle.std.specs.Str.{chars}
use Rattle.htmd_lexical.specs.AttributePairs.{AttributePair}
use Rattle.htmd_lexical.specs.Characters.{line_feed}
use Rattle.htmd_document.specs.declared.document.Alignment.{Alignment}
use Rattle.htmd_document.specs.declared.document.Alignment.TheVariants as align
use Rattle.htmd_document.specs.Documents.{Inlines, no_inlines, inline}
use Rattle.htmd_document.specs.NormalDocuments.{has_cell}
use Rattle.htmd_document.specs.NormalInlines.{has_none, are_normal}
use Rattle.htmd_flow.specs.Flows.{nodes_of, node_of, flow_all}
use Rattle.htmd_flow.specs.Flows as flow
use Rattle.htmd_flow.specs.Grids.{trimmed_row}
use Rattle.htmd_flow.specs.Levels.{list_of}
use Rattle.htmd_flow.specs.Paragraphs.{Writing, fed_all, line_in}
use Rattle.htmd_flow.specs.Parts.{Part}
use Rattle.htmd_flow.specs.Tables as tables
use Rattle.htmd_shown.specs.Attributes.{alignment, column_span, row_span}
use Rattle.htmd_shown.specs.Facts.{made, facts_of, pres_among}
use Rattle.htmd_shown.specs.Kinds.{have_table}
use Rattle.htmd_shown.specs.Showings.{show}
use Rattle.htmd_shown.specs.SimpleTrees.{Simple, Simples, none, more, element}
use Rattle.htmd_shown.specs.declared.facts.Facts.{Facts}
use Rattle.htmd_shown.specs.declared.role.Role.TheVariants as role
use Rattle.htmd_commonmark_reading.specs.Rendering.{first_alignment}
use Rattle.htmd_law_rendering.specs.RenderedTrees.{pairs_of_alignment}
use Rattle.htmd_document_of_tree.specs.Seen.{seen, all_seen}
use Rattle.htmd_lexical.proofs.Cases.{test}
use Rattle.std.specs.Prelude.{nat_le}
use Rattle.std.proofs.Common.{cond}
use Rattle.htmd_law_returning.specs.LastingAnchors.{heading_keeps, cells_lead}
use Rattle.htmd_law_returning.specs.NoAnchors.{have_no_anchors}
use Rattle.htmd_law_returning.proofs.FirstTargets.{first-behind, line-first, plain-nameless}
use Rattle.htmd_law_returning.proofs.HomeAnchors.{none-in-cells}
use Rattle.htmd_law_returning.proofs.LocalAnchors.{come_first, comes_first, are_led, are_nameless, led-first}
use Rattle.std.proofs.lemmas.Bool.{and_parts, and_from}
use Rattle.htmd_law_returning.specs.SettledDocuments.{weight_among, weight_of_cells, weight_of_rows}
use Rattle.htmd_law_returning.specs.SettledDocuments.{said_among, said_of_cells, said_of_rows}
use Rattle.htmd_document_of_tree.specs.Limits.{Written}
use Rattle.htmd_law_returning.proofs.BareLemmas.{are_bare, has_no_name}
use Rattle.htmd_law_returning.proofs.CostLemmas.{Spends, AllSpend, spend-element, spend-none, spend-more, spend-text}
use Rattle.htmd_law_returning.proofs.CostLemmas.{spend-past, spend-within}
use Rattle.htmd_law_returning.proofs.ReadyLemmas.{here, parts_of}
use Rattle.htmd_law_returning.proofs.FlowLemmas.{line-fed, line-left}
use Rattle.htmd_law_returning.proofs.GridLemmas.{made_cells, made_row, made_rows, cut_row}
use Rattle.htmd_law_returning.proofs.RichCellLemmas.{AreRichCells, no-rich-cells, more-rich-cells}
use Rattle.htmd_law_returning.proofs.RichCellLemmas.{cell_blocks, cell_role, is_some, line_tree}
use Rattle.htmd_law_returning.proofs.RichTableLemmas.{AreRichRows, no-rich-rows, more-rich-rows}
use Rattle.htmd_law_returning.proofs.HeldLemmas.{are_held}
use Rattle.htmd_law_returning.proofs.LocalAnchors.{local_all, pending_all}
use Rattle.htmd_law_returning.proofs.LocalShowings.{all-local-shows}
use Rattle.htmd_law_returning.proofs.LocalTables.{lined, next-local, cell-local, row_with, row_tree}
use Rattle.htmd_law_returning.proofs.LocalTables.{row-local, sound-next, sound-cell, sound-row, sound-trimmed}
use Rattle.htmd_law_returning.proofs.SoundBlocks.{AreSound, IsSound, sound-none}
use Rattle.htmd_law_returning.proofs.SoundNodes.{sound-bare}
use Rattle.htmd_law_returning.proofs.SoundTrees.{IsSoundLine}
use Rattle.htmd_law_returning.specs.LastingAnchors.{line, cells_of}
use Rattle.htmd_law_returning.proofs.FormatLemmas.{place}
use Rattle.htmd_law_returning.proofs.LineFormLemmas.{IsWhole}
use Rattle.htmd_law_returning.proofs.LineParts.{parts_in, Numbers, is_rising}
use Rattle.htmd_law_returning.proofs.StartLemmas.{one_line, clean, false-true}
use lib.Utf8.{encode}

abbrev TypeOf : {A : Type 0} → A → Type 0
TypeOf {A} a = A

-- what is known of the cells of a table
abbrev pub Cells : Type 0
Cells = TypeOf tables.no_cells

-- ---- cells

aligned-one-column : (a : Alignment) → column_span (pairs_of_alignment a) ≡ 1
aligned-one-column align.None = refl
aligned-one-column align.Left = refl
aligned-one-column align.Center = refl
aligned-one-column align.Right = refl

aligned-one-row : (a : Alignment) → row_span (pairs_of_alignment a) ≡ 1
aligned-one-row align.None = refl
aligned-one-row align.Left = refl
aligned-one-row align.Center = refl
aligned-one-row align.Right = refl

alignment-said : (a : Alignment) → alignment (pairs_of_alignment a) ≡ a
alignment-said align.None = refl
alignment-said align.Left = refl
alignment-said align.Center = refl
alignment-said align.Right = refl

pub alignment-nameless : (a : Alignment) → has_no_name (pairs_of_alignment a) ≡ true
alignment-nameless align.None = refl
alignment-nameless align.Left = refl
alignment-nameless align.Center = refl
alignment-nameless align.Right = refl

-- the line of a cell
pub cell-line : (parts : List Part) (ns : Numbers) (xs : Inlines)
    → ((w : Writing) → fed_all w parts ≡ fed_all w (parts_in [] ns xs)) → (has_none xs ≡ false → IsWhole xs)
    → are_normal false [] xs ≡ true → are_held xs ≡ true → is_rising 0 ns xs ≡ true
    → flow.line_of parts ≡ xs
cell-line parts ns no_inlines e ends normal settled rise = ap line_in (e (clean one_line []))
cell-line parts ns (inline x xs) e ends normal settled rise =
    let line = line-fed one_line [] ns (inline x xs) (ends refl) normal settled rise in
    ap line_in (e (clean one_line []) ∙ line.is) ∙ line-left (inline x xs) line.inner line.last

-- what is known of cells, before others and with them: there are some, and no table stands in one
pub record IsKept (some : Bool) (c d : Cells) : Type 0 where
  pub no_table : d.holds_table ≡ false
  pub filled : (c.is_filled || some) ≡ true → d.is_filled ≡ true

-- nodes that are the cells of a row, and what they are with anchors before what shows
pub record AreCells (is_rich : Bool) (n : ℕ) (is_header : Bool) (alignments : List Alignment) (cells : List Inlines)
    (ts : Simples) : Type 0 where
  pub sound : AreSound ts (cells_of cells)
  pub trimmed : AreSound ts (cells_of (trimmed_row cells))
  pub cut : AreSound ts (cells_of (cut_row cells))
  pub waits : pending_all [] ts ≡ []
  pub spent : AllSpend (weight_of_cells cells) (said_of_cells cells) ts
  pub alone : list_all (tables.is_cell_or_nothing false) (list_of (local_all [] ts)) ≡ true
  pub gives : map (flow.cell_of (here is_rich n)) (filter flow.is_cell (nodes_of (local_all [] ts)))
      ≡ made_cells is_header alignments cells
  pub counted : (c : Cells) → c.holds_table ≡ false
      → IsKept (has_cell cells) c (fold tables.with_cell_at c (list_of (local_all [] ts)))
  pub rich : AreRichCells is_rich n is_header alignments cells (local_all [] ts)
  pub leads : cells_lead cells ≡ true → come_first ts ≡ true

module _ (is_rich : Bool) (n : ℕ) where
  pub none-cells : (is_header : Bool) (alignments : List Alignment)
      → AreCells is_rich n is_header alignments [] none
  unfolding node_of
  none-cells is_header alignments = record {
    sound = sound-none;
    trimmed = sound-none;
    cut = sound-none;
    waits = refl;
    spent = spend-none;
    alone = refl;
    gives = refl;
    counted = λ c h. record { no_table = h; filled = λ e. either c.is_filled e };
    rich = no-rich-cells is_rich n is_header alignments;
    leads = λ h. refl;
  }
    where
      either : (b : Bool) → (b || false) ≡ true → b ≡ true
      either true e = refl
      either false e = e

  -- what one cell gives
  cell-gives : (id : ℕ) (facts : Facts) (is_header : Bool) (a : Alignment) (content ts : Simples) (c : Inlines)
      → flow.line_of (flow_all (nodes_of content) (place true is_rich n [])) ≡ c
      → map (flow.cell_of (here is_rich n)) (filter flow.is_cell (nodes_of
      (more (element id (cell_role is_header) facts (pairs_of_alignment a) content) (lined ts))))
      ≡ record { content = c; columns = 1; rows = 1; is_header = is_header; alignment = a }
      ∷ map (flow.cell_of (here is_rich n)) (filter flow.is_cell (nodes_of ts))
  unfolding node_of
  cell-gives id facts true a content ts c e =
      rw (e, aligned-one-column a, aligned-one-row a, alignment-said a) refl
  cell-gives id facts false a content ts c e =
      rw (e, aligned-one-column a, aligned-one-row a, alignment-said a) refl

  cell-counted : (id : ℕ) (facts : Facts) (is_header : Bool) (attributes : List AttributePair) (content : Simples)
      (c : Cells) → facts.holds_table ≡ false → c.holds_table ≡ false
      → IsKept true c (tables.with_cell_at c (element id (cell_role is_header) facts attributes content))
  cell-counted id facts true attributes content c h e = record {
    no_table = ap (λ b. b || facts.holds_table) e ∙ h;
    filled = λ f. refl;
  }
  cell-counted id facts false attributes content c h e = record {
    no_table = ap (λ b. b || facts.holds_table) e ∙ h;
    filled = λ f. refl;
  }

  cell-alone : (id : ℕ) (facts : Facts) (is_header : Bool) (attributes : List AttributePair) (content ts : Simples)
      → list_all (tables.is_cell_or_nothing false) (list_of ts) ≡ true
      → list_all (tables.is_cell_or_nothing false)
      (list_of (more (element id (cell_role is_header) facts attributes content) (lined ts))) ≡ true
  unfolding chars encode
  cell-alone id facts true attributes content ts h = h
  cell-alone id facts false attributes content ts h = h

  cell-bare : (id : ℕ) (is_header : Bool) (attributes : List AttributePair) (content : Simples)
      → has_no_name attributes ≡ true → are_bare content ≡ true
      → IsSound (made id (cell_role is_header) attributes content) []
  cell-bare id true attributes content e h = sound-bare (made id role.HeaderCell attributes content) (rw (e, h) refl)
  cell-bare id false attributes content e h = sound-bare (made id role.Cell attributes content) (rw (e, h) refl)

  cell-first : (id : ℕ) (is_header : Bool) (attributes : List AttributePair) (content : Simples)
      → has_no_name attributes ≡ true → come_first content ≡ true
      → comes_first (made id (cell_role is_header) attributes content) ≡ true
  cell-first id true attributes content e h = and_from (has_no_name attributes) (come_first content) e h
  cell-first id false attributes content e h = and_from (has_no_name attributes) (come_first content) e h

  cell-seen : (id : ℕ) (is_header : Bool) (attributes : List AttributePair) (content : Simples)
      → seen (made id (cell_role is_header) attributes content) ≡ all_seen content
  cell-seen id true attributes content = refl
  cell-seen id false attributes content = refl

  cell-free : {g : Written → Written} → (is_header : Bool) → (k id : ℕ) (attributes : List AttributePair)
      (content : Simples) → AllSpend k g content → Spends k g (made id (cell_role is_header) attributes content)
  cell-free true k id attributes content h =
      spend-element k id role.HeaderCell (facts_of content) attributes content refl h
  cell-free false k id attributes content h =
      spend-element k id role.Cell (facts_of content) attributes content refl h

  pub more-cells : (id : ℕ) (is_header : Bool) (alignments : List Alignment) (content ts : Simples) (c : Inlines)
      (cs : List Inlines) → IsSoundLine c content → (have_no_anchors c ≡ true → are_bare content ≡ true)
      → pending_all [] content ≡ [] → AllSpend (weight_among c) (said_among c) content
      → have_table content ≡ false → pres_among content ≡ 0
      → (is_some c ≡ true → show false content ≡ true)
      → (heading_keeps c ≡ true → are_led content ≡ true) → (has_none c ≡ true → all_seen content ≡ 0)
      → flow.line_of (flow_all (nodes_of (local_all [] content)) (place true is_rich n [])) ≡ c
      → flow.blocks_of false (parts_of is_rich n (local_all [] content)) ≡ cell_blocks c
      → AreCells is_rich n is_header (drop 1 alignments) cs ts
      → AreCells is_rich n is_header alignments (c ∷ cs)
      (more (made id (cell_role is_header) (pairs_of_alignment (first_alignment alignments)) content) (lined ts))
  more-cells id is_header alignments content ts c cs sound bare waits spent tableless preless shows led unseen e parts
      later =
      let a : Alignment = first_alignment alignments in
      let pairs : List AttributePair = pairs_of_alignment a in
      let nameless : has_no_name pairs ≡ true = alignment-nameless a in
      let tree : Simple = made id (cell_role is_header) pairs content in
      let facts : Facts = facts_of content in
      let inside : Simples = local_all [] content in
      let us : Simples = local_all [] ts in
      let own : Simple = element id (cell_role is_header) facts pairs inside in
      let here_is = cell-local id is_header facts pairs content waits in
      let all = next-local tree own ts here_is in
      let first : IsSound tree (line false c ∷ []) = sound-cell id is_header pairs content c nameless sound in
      record {
        sound = sound-next tree ts (line false c ∷ []) (cells_of cs) here_is.1 first later.sound;
        trimmed = sound-trimmed tree ts c (trimmed_row cs) here_is.1
            (λ free. cell-bare id is_header pairs content nameless (bare free)) first later.trimmed;
        cut = sound-next tree ts (line false c ∷ []) (cells_of (trimmed_row cs)) here_is.1 first later.trimmed;
        waits = all.1 ∙ later.waits;
        spent = spend-more (weight_among c) (weight_of_cells cs) tree (lined ts)
            (cell-free is_header (weight_among c) id pairs content spent)
            (spend-past (weight_of_cells cs) line_tree ts (spend-text (line_feed ∷ [])) later.spent);
        alone = ap (λ vs. list_all (tables.is_cell_or_nothing false) (list_of vs)) all.0
            ∙ cell-alone id facts is_header pairs inside us later.alone;
        gives = ap (λ vs. map (flow.cell_of (here is_rich n)) (filter flow.is_cell (nodes_of vs))) all.0
            ∙ (cell-gives id facts is_header a inside us c e
            ∙ ap (λ xs. record {
              content = c;
              columns = 1;
              rows = 1;
              is_header = is_header;
              alignment = a;
            } ∷ xs) later.gives);
        counted = λ known h. subst (λ vs. IsKept true known (fold tables.with_cell_at known (list_of vs))) (sym all.0)
            (let one = cell-counted id facts is_header pairs inside known tableless h in
            let next : Cells = tables.with_cell_at known own in
            let rest = later.counted next one.no_table in
            record {
              no_table = rest.no_table;
              filled = λ f. rest.filled (ap (λ b. b || has_cell cs) (one.filled (or-true known.is_filled)));
            });
        rich = subst (AreRichCells is_rich n is_header alignments (c ∷ cs)) (sym all.0)
            (more-rich-cells is_rich n id facts is_header alignments inside us c cs preless
            (λ some. all-local-shows false [] content ∙ shows some) parts later.rich);
        leads = λ h.
            let p = and_parts (heading_keeps c) (cond (has_none c) (cells_lead cs) (list_all have_no_anchors cs)) h in
            let comes : comes_first tree ≡ true =
            cell-first id is_header pairs content nameless (led-first content (led p.0)) in
            test (has_none c)
            (λ q. and_from (comes_first tree) (cond (nat_le (seen tree) 0) (come_first (lined ts))
            (are_nameless (lined ts))) comes
            (ap (λ k. cond (nat_le k 0) (come_first (lined ts)) (are_nameless (lined ts)))
            (cell-seen id is_header pairs content ∙ unseen q)
            ∙ (line-first ts ∙ later.leads (sym (ap (λ b. cond b (cells_lead cs) (list_all have_no_anchors cs)) q)
            ∙ p.1))))
            (λ q. first-behind tree (lined ts) comes (plain-nameless ts (cells_of cs) later.sound
            (none-in-cells cs (sym (ap (λ b. cond b (cells_lead cs) (list_all have_no_anchors cs)) q) ∙ p.1))));
      }
    where
      or-true : (b : Bool) → (b || true) ≡ true
      or-true true = refl
      or-true false = refl

-- ---- rows

-- nodes that are the rows of a table's body, and what they are with anchors before what shows
pub record AreRows (is_rich : Bool) (n : ℕ) (alignments : List Alignment) (rows : List (List Inlines))
    (ts : Simples) : Type 0 where
  pub sound : AreSound ts (flat_map cells_of (map cut_row rows))
  pub waits : pending_all [] ts ≡ []
  pub spent : AllSpend (weight_of_rows rows) (said_of_rows rows) ts
  pub alone : list_all (tables.is_row_or_nothing false) (list_of (local_all [] ts)) ≡ true
  pub gives : (id : ℕ) → map (flow.row_of (here is_rich n))
      (flow.rows_among (record { id = Some id; is_head = false }) (local_all [] ts))
      ≡ made_rows (Some id) alignments rows
  pub counted : (c : Cells) → c.holds_table ≡ false
      → IsKept false c (fold tables.with_row_at c (list_of (local_all [] ts)))
  pub rich : AreRichRows is_rich n alignments rows (local_all [] ts)

-- so much pays for what stands in lines of its own
pub spend-line : {g : Written → Written} → (k : ℕ) (t : Simple) → Spends k g t
    → AllSpend k g (more t (more line_tree none))
spend-line k t own =
    spend-within (k + 0) k (more t (more line_tree none)) (omega arith)
    (spend-more k 0 t (more line_tree none) own
    (spend-past 0 line_tree none (spend-text (line_feed ∷ [])) spend-none))

pub row-spends : {g : Written → Written} → (id : ℕ) (cells : Simples) (k : ℕ) → AllSpend k g cells
    → Spends k g (row_tree id cells)
row-spends id cells k h =
    spend-element k id role.Row (facts_of (more line_tree cells)) [] (more line_tree cells) refl
    (spend-past k line_tree cells (spend-text (line_feed ∷ [])) h)

module _ (is_rich : Bool) (n : ℕ) where
  pub none-rows : (alignments : List Alignment) → AreRows is_rich n alignments [] none
  unfolding node_of
  none-rows alignments = record {
    sound = sound-none;
    waits = refl;
    spent = spend-none;
    alone = refl;
    gives = λ id. refl;
    counted = λ c h. record { no_table = h; filled = λ e. either c.is_filled e };
    rich = no-rich-rows is_rich n alignments;
  }
    where
      either : (b : Bool) → (b || false) ≡ true → b ≡ true
      either true e = refl
      either false e = e

  row-alone : (id : ℕ) (facts : Facts) (cells ts : Simples)
      → list_all (tables.is_cell_or_nothing false) (list_of cells) ≡ true
      → list_all (tables.is_row_or_nothing false) (list_of ts) ≡ true
      → list_all (tables.is_row_or_nothing false) (list_of (more (row_with facts id cells) (lined ts))) ≡ true
  unfolding chars encode
  row-alone id facts cells ts h k =
      ap (λ b. b && list_all (tables.is_row_or_nothing false) (list_of ts)) h ∙ k

  pub row-gives : (id part : ℕ) (facts : Facts) (is_head : Bool) (alignments : List Alignment) (cells ts : Simples)
      (r : List Inlines)
      → map (flow.cell_of (here is_rich n)) (filter flow.is_cell (nodes_of cells)) ≡ made_cells is_head alignments r
      → map (flow.row_of (here is_rich n)) (flow.rows_among (record { id = Some part; is_head = is_head })
      (more (row_with facts id cells) (lined ts)))
      ≡ made_row is_head (Some part) alignments r
      ∷ map (flow.row_of (here is_rich n)) (flow.rows_among (record { id = Some part; is_head = is_head }) ts)
  unfolding node_of
  row-gives id part facts is_head alignments cells ts r h =
      ap (λ cs. record { part = Some part; is_in_head = is_head; cells = cs }
      ∷ map (flow.row_of (here is_rich n)) (flow.rows_among (record { id = Some part; is_head = is_head }) ts)) h

  pub more-rows : (id : ℕ) (alignments : List Alignment) (cells ts : Simples) (r : List Inlines)
      (rs : List (List Inlines)) → AreCells is_rich n false alignments r cells
      → AreRows is_rich n alignments rs ts
      → AreRows is_rich n alignments (r ∷ rs) (more (row_tree id cells) (lined ts))
  more-rows id alignments cells ts r rs own later =
      let facts : Facts = facts_of (lined cells) in
      let inside : Simples = local_all [] cells in
      let us : Simples = local_all [] ts in
      let row : Simple = row_with facts id inside in
      let here_is = row-local id cells own.waits in
      let all = next-local (row_tree id cells) row ts here_is in
      record {
        sound = sound-next (row_tree id cells) ts (cells_of (cut_row r)) (flat_map cells_of (map cut_row rs)) here_is.1
            (sound-row id cells (cells_of (cut_row r)) own.cut) later.sound;
        waits = all.1 ∙ later.waits;
        spent = spend-more (weight_of_cells r) (weight_of_rows rs) (row_tree id cells) (lined ts)
            (row-spends id cells (weight_of_cells r) own.spent)
            (spend-past (weight_of_rows rs) line_tree ts (spend-text (line_feed ∷ [])) later.spent);
        alone = ap (λ vs. list_all (tables.is_row_or_nothing false) (list_of vs)) all.0
            ∙ row-alone id facts inside us own.alone later.alone;
        gives = λ part. ap (λ vs. map (flow.row_of (here is_rich n))
            (flow.rows_among (record { id = Some part; is_head = false }) vs)) all.0
            ∙ (row-gives id part facts false alignments inside us r own.gives
            ∙ ap (λ xs. made_row false (Some part) alignments r ∷ xs) (later.gives part));
        counted = λ c h. subst (λ vs. IsKept false c (fold tables.with_row_at c (list_of vs))) (sym all.0)
            (let first = own.counted c h in
            let rest = later.counted (tables.with_row_at c row) first.no_table in
            record {
              no_table = rest.no_table;
              filled = λ e. rest.filled (either (has_cell r) c.is_filled e first.filled);
            });
        rich = subst (AreRichRows is_rich n alignments (r ∷ rs)) (sym all.0)
            (more-rich-rows is_rich n id facts alignments inside us r rs own.rich later.rich);
      }
    where
      either : {x : Bool} (b c : Bool) → (c || false) ≡ true → ((c || b) ≡ true → x ≡ true)
          → (x || false) ≡ true
      either b true e f = ap (λ y. y || false) (f refl)
      either b false e f = false-true e
